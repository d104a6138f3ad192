-- How a refusal is answered.
use Rattle.std.proofs.Common.{◌≡◌, ℕ, inl, inr, ap, refl, ◌∙◌, Option, Some, None, Err}
use Rattle.job_model.specs.declared.node_command.NodeCommand.{NodeCommand as Command}
use Rattle.job_model.specs.Durable.{Durable}
use Rattle.job_model.specs.Table.{Table}
use Rattle.node_core.specs.declared.event.Event.{Event}
use Rattle.node_core.specs.Core.{Core}
use Rattle.node_core.specs.State.{State}
use Rattle.node_core.specs.NodeStep.{CantTake, IsRefused}
use Rattle.node_core.specs.declared.fault.Refusal.{Refusal}
use Rattle.node_core.specs.declared.fault.Refusal.TheVariants as refusal
use Rattle.node_core.specs.Refusals.{refusal_of}
use Rattle.node_core.specs.Wants.{wants_of}
use Rattle.histories.specs.declared.event_outcome.EventOutcome.{EventOutcome}
use Rattle.histories.specs.declared.event_outcome.EventOutcome.TheVariants as outcome
use Rattle.durable_node.specs.declared.step_report.StepReport.{StepReport}
use Rattle.durable_node.specs.Carrying.{CantCarry}
use Rattle.durable_node.specs.Refusing.{AnswersTo, CarriesAs}
use Rattle.durable_node.specs.Faults.{answered_as, fault_of}
use Rattle.durable_node.specs.Stepping.{IsAsBefore, IsServed, IsSilent}
use Rattle.node_core.specs.declared.wanted.Wanted.{Wanted}
use Rattle.node_store.specs.Store.{StoreState, durable_of}

cant_refuse : (nodes self : ℕ) (s : State) (d : Durable) (event : Event) (why : Refusal) → refusal_of nodes self event s ≡ None
    → CantTake d (wants_of self d.pending event s) why → IsRefused nodes self s d event why
cant_refuse nodes self s d event (refusal.Core fault) none cant = absurd cant
cant_refuse nodes self s d event why none cant = (none, cant)

-- the store can't take the event's command
pub turned_away : {Disk : Type 0} (nodes self : ℕ) {core core' : Core} {store store' : StoreState Disk} {doubt doubt' : Option (Wanted × ℕ)}
    (event : Event) (came : StepReport) (end : EventOutcome) → refusal_of nodes self event core.state ≡ None
    → CantCarry store.journal.slots (durable_of store) (wants_of self (durable_of store).pending event core.state) end → IsSilent came
    → IsAsBefore core core' store store' doubt doubt' → IsServed nodes self core core' store store' doubt doubt' event came end
turned_away nodes self {core = core} {store = store} event came (outcome.Refused why) none cant silent before = (
  record { refused = cant_refuse nodes self core.state (durable_of store) event why none cant.0; of_slots = cant.1 },
  silent,
  before,
)
turned_away nodes self event came end none cant silent before = absurd cant

-- the plan wants what the event wants
pub wanted_so : (wanted planned : Option Command) (old new : Core) (id : ℕ) (event : Event) (shown table : Table) → wanted ≡ planned
    → planned ≡ wants_of new.id shown.pending event new.state
    → new ≡ record old { room = new.room } → old.id ≡ id → shown ≡ table → wanted ≡ wants_of id table.pending event old.state
wanted_so wanted planned old new id event shown table is by kept of same =
    is ∙ by ∙ ap (λ (k : Core). wants_of k.id shown.pending event k.state) kept ∙ (λ i. wants_of (of i) (same i).pending event old.state)

-- what came of the event is what is answered, whatever its command would have given
pub carried_as : (A : Type 0) (why : Option Refusal) (came : StepReport) (end : EventOutcome) → CarriesAs {A = A} why (Err end)
    → AnswersTo why (answered_as came (fault_of end))
carried_as A (Some why) came end is = (let same : end ≡ outcome.Refused why = cc is in rw same refl)
carried_as A None came end (inl ok) = absurd cc
carried_as A None came end (inr failed) = (let same : end ≡ outcome.Faulted = cc failed in rw same (inr refl))
