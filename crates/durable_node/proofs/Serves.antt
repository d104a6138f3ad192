-- What a node that is up does with an event.
use Rattle.std.proofs.Common.{◌≡◌, ◌≢◌, ◌⊎◌, inl, inr, ℕ, false, Option, Some, None, option_map, Result, Ok, Err, sym, ◌∙◌, ap, subst, refl}
use Rattle.std.proofs.Common.{IsTrue, IsOk, IfOk}
use Rattle.sector_disk.specs.Disk.{DiskState}
use Rattle.job_model.specs.declared.node_command.NodeCommand.{NodeCommand as Command}
use Rattle.job_model.specs.Durable.{Durable}
use Rattle.node_core.specs.declared.wanted.Wanted.{Wanted}
use Rattle.node_core.specs.declared.event.Event.{Event}
use Rattle.node_core.specs.Core.{Core}
use Rattle.node_core.specs.State.{State, is_down}
use Rattle.node_core.specs.Wants.{wants_of}
use Rattle.node_core.specs.Effect.{Effect}
use Rattle.node_store.specs.Store.{StoreState, durable_of, slots_for, AllStandFor}
use Rattle.histories.specs.NodeState.{NodeState}
use Rattle.histories.specs.declared.history_event.HistoryEvent.TheVariants.{Did, Faulted}
use Rattle.histories.specs.declared.event_outcome.EventOutcome.{EventOutcome}
use Rattle.histories.specs.EventOutcomes.{attempt_of, what_of}
use Rattle.histories.proofs.PublicLaws.{tried_none, tried_wanted, stays_up}
use Rattle.histories.specs.After.{after}
use Rattle.histories.specs.declared.event_outcome.EventOutcome.TheVariants as event_outcome
use Rattle.durable_node.specs.declared.fault.NodeFault.{NodeFault}
use Rattle.durable_node.specs.declared.step_report.StepReport.{StepReport}
use Rattle.durable_node.specs.Carrying.{KeepsSound, Writes}
use Rattle.durable_node.specs.declared.node_disk.NodeDisk.TheVariants.{Mounted}
use Rattle.durable_node.specs.Node.{node_with, IsLeft, Stands}
use Rattle.durable_node.specs.Stepping.{IsDone, IsServed, Does, Steps, command_by}
use Rattle.durable_node.specs.Faults.{fault_of, answered, answered_as}
use Rattle.durable_node.specs.declared.fault.NodeFault.TheVariants as node
use Rattle.durable_node.proofs.Parts.{does, is_some, stands_at, stands_down}
use Rattle.durable_node.proofs.Mounts.{left_cut, left_done, stands_all}

pub is_device : (fault : NodeFault) → (fault ≡ node.Device) ⊎ (fault ≢ node.Device)
is_device node.Device = inl refl
is_device fault = inr (λ e. absurd cc)

-- a node that is up does an event
pub done_up : (slots nodes id : ℕ) (old new : State) (d d' : Durable) (event : Event) (came : StepReport) → is_down old.phase ≡ false
    → IsDone slots nodes id old d event new d' came → is_down new.phase ≡ false
done_up slots nodes id old new d d' event came up done =
    subst (λ (e : Effect). is_down e.state.phase ≡ false) done.handled.effect (stays_up nodes id d.pending event _ old up)

-- the state of a node that is up
abbrev up_at : {Disk : Type 0} → Core → StoreState Disk → NodeState
up_at core store = record { state = core.state; durable = durable_of store; doubt = None }

module _ {Disk : Type 0} (disks : Disk → DiskState) (id nodes : ℕ) (core core' : Core) (store store' : StoreState Disk)
    (doubt doubt' : Option (Wanted × ℕ)) (event : Event)
    (up : is_down core.state.phase ≡ false) (at : store.journal.slots ≡ slots_for (disks store.disk).sectors) (failed : Type 0)
    (keeps : KeepsSound disks store store' failed) where
  abbrev wants : Option Command
  wants = wants_of id (durable_of store).pending event core.state

  -- for a node without doubt
  module _ (left : IsLeft (disks store.disk) (up_at core store)) (none : doubt ≡ None) (came : StepReport) where
    stood : IsTrue (disks store.disk).honest → AllStandFor store.journal.slots (durable_of store) (disks store.disk)
    stood honest = rw at (stands_all (disks store.disk) (up_at core store) refl left honest)

    by_fate : (end : EventOutcome) → IsServed nodes id core core' store store' doubt doubt' event came end
        → came.tried ≡ option_map attempt_of (command_by wants end)
        → Writes disks store store' wants (IsOk (answered_as came (fault_of end)))
        → Does store.journal.slots id nodes (up_at core store) event came None (what_of event end)
        × Stands disks (node_with id nodes core' (Mounted store') doubt' None) (after id nodes (up_at core store) (what_of event end))
    by_fate event_outcome.Done is tried writes =
        let end = after id nodes (up_at core store) (Did event) in
        let it = is.0.handled in
        let shown : is_down core'.state.phase ≡ false → _ = λ now. (rw now (ap (λ (d : Durable). Some d) it.kept), refl) in (
          does refl (λ is. up, it.taken) is.0.fits (tried_wanted id (durable_of store).pending event core.state came.tried tried)
              is.0.answer (ap (λ (e : Effect). e.sent) (sym it.effect)) refl,
          stands_at disks _ end store'.disk refl (left_done disks store store' failed keeps at left.sectors end (λ honest.
              rw it.kept at (writes.after honest (stood honest) refl)))
              (ap (λ (e : Effect). e.state) (sym it.effect)) (is.2 ∙ none) shown,
        )
    by_fate (event_outcome.Refused why) is tried writes = (
      does refl (λ is. up, is.0.refused) is.0.of_slots (tried_none event came.tried tried) is.1.1 is.1.0 refl,
      stands_at disks _ (up_at core store) store.disk (ap (λ (st : StoreState Disk). Some st.disk) is.2.same_store) left is.2.same_state
          (is.2.same_doubt ∙ none)
          (λ now. (rw now (ap (λ (st : StoreState Disk). Some (durable_of st)) is.2.same_store), refl)),
    )
    by_fate event_outcome.Faulted is tried writes =
        let end = after id nodes (up_at core store) (Faulted event) in (
          does refl ((λ is. up, is.0.taken), is.0.wanted) is.0.fits
              (tried_wanted id (durable_of store).pending event core.state came.tried tried) is.1.1 is.1.0 refl,
          stands_down disks _ end store'.disk id is.2 refl (left_cut disks store store' failed keeps at left.sectors end is.0.wanted
              (λ honest. writes.images honest (stood honest))) is.2 is.3,
        )
    by_fate end is tried writes = absurd is

  pub serves : (was : Option ℕ) (result : Result StepReport NodeFault)
      → IfOk result (λ came. IsServed nodes id core core' store store' doubt doubt' event came came.event_outcome)
      → IfOk result (λ came. came.tried ≡ option_map attempt_of (command_by wants came.event_outcome))
      → Writes disks store store' wants (IsOk (answered result))
      → IfOk result (Steps disks (node_with id nodes core (Mounted store) doubt was) (node_with id nodes core' (Mounted store') doubt' None)
      event)
  serves was (Err fault) served tried writes = tt
  serves was (Ok came) served tried writes = λ disk s on stands mounting.
      let kept = stands.up up in
      let durable = is_some (durable_of store) s.durable (rw up at kept.0) in
      let is : up_at core store ≡ s = (λ i. record { state = stands.state i; durable = durable i; doubt = sym kept.1 i }) in
      let slots : store.journal.slots ≡ slots_for (disks disk).sectors = at
      ∙ ap (λ (d : Disk). slots_for (disks d).sectors) (is_some store.disk disk on) in
      rw (← slots, ← is) (by_fate (rw is (stands.disk store.disk refl)) (rw (← is) at stands.doubt) came came.event_outcome served tried
      writes)
