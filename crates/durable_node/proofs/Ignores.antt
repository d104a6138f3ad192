-- What a node that is down does with an event that doesn't make it mount its disk.
use Rattle.std.proofs.Common.{◌≡◌, ◌≢◌, ◌≤◌, ℕ, arith, length, [], Bool, true, false, ◌&&◌, Option, Some, None, IfSome, Result, Ok, Err}
use Rattle.std.proofs.Common.{sym, ◌∙◌, ap, subst, refl, IfOk, IsErrOf}
use Rattle.sector_disk.specs.Disk.{DiskState}
use Rattle.job_model.specs.declared.node_command.NodeCommand.{NodeCommand as Command}
use Rattle.job_model.specs.Fold.{after_wanted}
use Rattle.node_core.specs.declared.wanted.Wanted.{Wanted}
use Rattle.node_core.specs.declared.event.Event.{Event}
use Rattle.node_core.specs.declared.event.Event.TheVariants.{Recover}
use Rattle.node_core.specs.declared.event.Event.TheVariants as on
use Rattle.node_core.specs.declared.timer.Timer.TheVariants as timer
use Rattle.wire_msg.specs.declared.body.Body.{Body}
use Rattle.wire_msg.specs.declared.body.Body.TheVariants as says
use Rattle.node_core.specs.declared.fault.CoreFault.{CoreFault}
use Rattle.node_core.specs.declared.fault.CoreFault.TheVariants.{NoMemory}
use Rattle.node_core.specs.declared.fault.CoreFault.TheVariants as core
use Rattle.node_core.specs.Memory.{delivered_takes, takes_memory}
use Rattle.node_core.specs.Messages.{is_told}
use Rattle.node_core.specs.State.{State}
use Rattle.node_core.specs.Core.{Core}
use Rattle.node_core.specs.Refusals.{refusal_of}
use Rattle.node_core.specs.Start.{down}
use Rattle.node_store.specs.Store.{slots_for}
use Rattle.histories.specs.NodeState.{NodeState}
use Rattle.histories.specs.declared.history_event.HistoryEvent.TheVariants.{Did}
use Rattle.histories.specs.declared.event_outcome.EventOutcome.{EventOutcome}
use Rattle.histories.specs.EventOutcomes.{what_of}
use Rattle.histories.specs.After.{after}
use Rattle.histories.proofs.PublicLaws.{tried_none, StaysDown, at_down}
use Rattle.histories.specs.declared.event_outcome.EventOutcome.TheVariants as event_outcome
use Rattle.node_core.specs.declared.fault.Refusal.TheVariants as refusal
use Rattle.durable_node.specs.declared.fault.NodeFault.{NodeFault}
use Rattle.durable_node.specs.declared.step_report.StepReport.{StepReport}
use Rattle.durable_node.specs.declared.node_disk.NodeDisk.{NodeDisk}
use Rattle.durable_node.specs.Node.{node_with, Stands}
use Rattle.durable_node.specs.Stepping.{Does, IsIgnored, Steps}
use Rattle.durable_node.specs.Faults.{fault_of, answered_as}
use Rattle.durable_node.specs.declared.fault.NodeFault.TheVariants as node
use Rattle.durable_node.proofs.Parts.{does, not_up}

module _ {Disk : Type 0} (disks : Disk → DiskState) (id nodes : ℕ) (core core' : Core) (disk : NodeDisk Disk) (doubt : Option (Wanted × ℕ))
    (was : Option ℕ) (event : Event) where
  still : (s : NodeState) → core.state ≡ down id → core'.state ≡ core.state → Stands disks (node_with id nodes core disk doubt was) s
      → Stands disks (node_with id nodes core' disk doubt None) s
  still s is same stands = record {
    state = same ∙ stands.state;
    doubt = stands.doubt;
    up =
        λ up. absurd (not_up id core'.state (same ∙ is) up);
    disk = stands.disk;
  }

  by_fate : (slots : ℕ) (s : NodeState) → core.state ≡ down id → core'.state ≡ core.state → event ≢ Recover
      → Stands disks (node_with id nodes core disk doubt was) s
      → (came : StepReport) (end : EventOutcome) → IsIgnored (refusal_of nodes id event core.state) came end → came.tried ≡ None
      → Does slots id nodes s event came None (what_of event end)
      × Stands disks (node_with id nodes core' disk doubt None) (after id nodes s (what_of event end))
  by_fate slots s is same other stands came event_outcome.Done done tried =
      let at : s.state ≡ down id = sym stands.state ∙ is in
      let stays : StaysDown id nodes s event = at_down id nodes s event at (λ is. absurd (other is)) (rw stands.state at done.0) in
      let kept : s ≡ after id nodes s (Did event) = (λ i. record {
        state = (at ∙ sym stays.state) i;
        durable = ap (λ (w : Option Command). after_wanted s.durable w) (sym stays.wants) i;
        doubt = s.doubt;
      }) in (
        does refl (λ is. absurd (other is), record { by_core = rw stands.state at done.0; not_spent = rw stays.wants (λ spent. spent) })
            (rw stays.wants (λ full. full)) (rw stays.wants (tried_none event came.tried tried)) (rw stays.wants done.1.1)
            (done.1.0 ∙ sym stays.sent) refl,
        subst (λ (t : NodeState). Stands disks (node_with id nodes core' disk doubt None) t) kept (still s is same stands),
      )
  by_fate slots s is same other stands came (event_outcome.Refused (refusal.Core why)) done tried = (
    does refl (λ is. absurd (other is), rw stands.state at done.0) tt (tried_none event came.tried tried) done.1.1 done.1.0 refl,
    still s is same stands,
  )
  by_fate slots s is same other stands came end done tried = absurd done

  pub ignores : core.state ≡ down id → core'.state ≡ core.state → event ≢ Recover → (result : Result StepReport NodeFault)
      → IfOk result (λ came. IsIgnored (refusal_of nodes id event core.state) came came.event_outcome)
      → IfOk result (λ came. came.tried ≡ None)
      → IfOk result (Steps disks (node_with id nodes core disk doubt was) (node_with id nodes core' disk doubt None) event)
  ignores is same other (Ok came) done tried = λ at s on stands mounting.
      by_fate (slots_for (disks at).sectors) s is same other stands came came.event_outcome done tried
  ignores is same other (Err fault) done tried = tt

-- ---- what a caller is answered

quiet_as : (why : Option CoreFault) (came : StepReport) (end : EventOutcome) → IsIgnored why came end
    → (IsErrOf (answered_as came (fault_of end)) node.Device → ⊥) × (came.sent.items ≡ [])
quiet_as why came event_outcome.Done is = (λ device. cc, is.1.0)
quiet_as why came (event_outcome.Refused (refusal.Core f)) is = (λ device. cc, is.1.0)
quiet_as why came end is = absurd is

-- no device was called
pub no_device : (why : Option CoreFault) (came : StepReport) → IsIgnored why came came.event_outcome
    → IsErrOf (answered_as came (fault_of came.event_outcome)) node.Device → ⊥
no_device why came is device = (quiet_as why came came.event_outcome is).0 device

pub few_ignored : (n : ℕ) (why : Option CoreFault) (came : StepReport) → IsIgnored why came came.event_outcome → length came.sent.items ≤ n
few_ignored n why came is = (let none : length came.sent.items ≡ 0 = ap length (quiet_as why came came.event_outcome is).1 in
    omega (arith, none))

-- ---- no memory is taken

-- a node that is down takes memory for no event but Recover that it doesn't refuse first
spared : (nodes id : ℕ) (event : Event) → event ≢ Recover → takes_memory id event (down id) ≡ true
    → refusal_of nodes id event (down id) ≡ None → ⊥
spared nodes id on.Recover other takes none = absurd (other refl)
spared nodes id (on.Deliver m) other takes none = by_body m.body takes
  where
    never : (b : Bool) → (b && false) ≡ true → ⊥
    never true takes = cc
    never false takes = cc

    by_body : (body : Body) → delivered_takes id m.sender body (down id) ≡ true → ⊥
    by_body (says.Ready task) takes = never (is_told id m.sender task (down id)) takes
    by_body body takes = cc
spared nodes id (on.Timer timer.Check) other takes none = cc
spared nodes id event other takes none = cc

-- what a plan that was refused says at a node that is down
pub refused_so : (nodes id : ℕ) (event : Event) (s : State) (fault : CoreFault) → s ≡ down id → event ≢ Recover
    → (fault ≢ NoMemory → refusal_of nodes id event s ≡ Some fault) → (fault ≡ NoMemory → takes_memory id event s ≡ true)
    → IfSome (refusal_of nodes id event s) (λ why. fault ≡ why) → refusal_of nodes id event s ≡ Some fault
refused_so nodes id event s fault is other memory spares refused = by_refusal (refusal_of nodes id event s) refl refused
  where
    by_refusal : (r : Option CoreFault) → refusal_of nodes id event s ≡ r → IfSome r (λ why. fault ≡ why) → r ≡ Some fault
    by_refusal None e refused = by_fault fault refl
      where
        by_fault : (f : CoreFault) → fault ≡ f → None ≡ Some fault
        by_fault core.NoMemory same = absurd (spared nodes id event other (rw is at (spares same)) (rw is at e))
        by_fault f same = sym e ∙ memory (λ is. cc)
    by_refusal (Some why) e refused = ap (λ (f : CoreFault). Some f) (sym refused)
