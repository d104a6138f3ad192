-- What is true of every node stays true.
use Rattle.std.proofs.Common.{◌≡◌, ◌⊎◌, arith, inl, inr, ⊎_elim, ℕ, true, false, Bool, Option, Some, None, Result, Ok, Err, ◌∙◌, ap, refl}
use Rattle.std.proofs.Common.{IsFalse, IfOk, IfErr, IsErrOf, IsSome}
use Rattle.sector_disk.specs.Disk.{DiskState, Counts}
use Rattle.sector_disk.proofs.PublicLaws.{no_more_still}
use Rattle.job_journal.specs.Journal.{IsSound, RisesByOne}
use Rattle.node_core.specs.declared.wanted.Wanted.{Wanted}
use Rattle.node_core.specs.declared.event.Event.{Event}
use Rattle.node_core.specs.declared.fault.CoreFault.TheVariants.{NoMemory}
use Rattle.node_core.specs.Core.{Core}
use Rattle.node_core.specs.Memory.{takes_memory}
use Rattle.node_core.specs.Start.{down}
use Rattle.node_core.specs.State.{State, is_down}
use Rattle.node_store.specs.Store.{StoreState, durable_of, slots_for}
use Rattle.histories.specs.declared.event_outcome.EventOutcome.{EventOutcome}
use Rattle.histories.specs.declared.event_outcome.EventOutcome.TheVariants as event_outcome
use Rattle.durable_node.specs.declared.fault.NodeFault.{NodeFault}
use Rattle.durable_node.specs.declared.step_report.StepReport.{StepReport}
use Rattle.durable_node.specs.declared.node_disk.NodeDisk.{NodeDisk}
use Rattle.durable_node.specs.declared.node_disk.NodeDisk.TheVariants.{Bare, Mounted}
use Rattle.durable_node.specs.Carrying.{KeepsSound}
use Rattle.durable_node.specs.Node.{IsCoreOf, IsNode, IsOver, node_with}
use Rattle.durable_node.specs.Remounting.{HasRisen}
use Rattle.durable_node.specs.Stepping.{CountsOf, IsAsBefore, IsServed, Stuck}
use Rattle.durable_node.specs.declared.fault.NodeFault.TheVariants as node
use Rattle.durable_node.proofs.Mounts.{slots_kept}
use Rattle.durable_node.proofs.Serves.{done_up}
use Rattle.durable_node.proofs.Parts.{at_both, at_some, clash, not_up}
pub use Rattle.durable_node.proofs.Parts.{is_some}

-- an event may use what a node that is up has
pub over : {Disk : Type 0} (disks : Disk → DiskState) (id nodes : ℕ) (core : Core) (store : StoreState Disk)
    → IsNode disks id nodes core (Mounted store) → is_down core.state.phase ≡ false → IsOver disks id nodes core store
over disks id nodes core store is up = record {
  of = record { id = is.core_id; nodes = is.core_nodes };
  within = is.within;
  most = is.most;
  ready = record { whole = is.up up; sound = rw (is.slots store refl) (is.sound store.disk refl) };
}

-- the core is up over a store that isn't broken, or down in the one state of a node that is down
abbrev pub IsUpOrDown : {Disk : Type 0} → ℕ → Core → StoreState Disk → Type 0
IsUpOrDown id core store = ((is_down core.state.phase ≡ false) × IsFalse store.broken) ⊎ (core.state ≡ down id)

module _ {Disk : Type 0} (disks : Disk → DiskState) (id nodes : ℕ) (core core' : Core) (disk : NodeDisk Disk)
    (is : IsNode disks id nodes core disk) (of : IsCoreOf id nodes core') where
  -- down over a disk that isn't mounted
  pub node_bare : (back : Disk) → core'.state ≡ down id → IsSound (slots_for (disks back).sectors) (disks back)
      → IsNode disks id nodes core' (Bare back)
  node_bare back fallen sound = record {
    core_id = of.id;
    core_nodes = of.nodes;
    within = is.within;
    most = is.most;
    there = refl;
    up = λ up. absurd (not_up id core'.state fallen up);
    fallen = λ _. fallen;
    slots = λ st e. absurd cc;
    sound = λ now e. at_some (λ (d : Disk). IsSound (slots_for (disks d).sectors) (disks d)) back now e sound;
  }

  -- what a call of a store left
  pub node_over : (mid end : StoreState Disk) (failed : Type 0) → mid.journal.slots ≡ slots_for (disks mid.disk).sectors
      → KeepsSound disks mid end failed → IsUpOrDown id core' end → IsNode disks id nodes core' (Mounted end)
  node_over mid end failed at keeps settled =
      let slots = slots_kept disks mid end failed keeps at in record {
        core_id = of.id;
        core_nodes = of.nodes;
        within = is.within;
        most = is.most;
        there = refl;
        up = λ now. ⊎_elim (λ up. up.1) (λ fallen. absurd (not_up id core'.state fallen now)) settled;
        fallen = λ now. ⊎_elim (λ up. absurd (clash (is_down core'.state.phase) now up.0)) (λ fallen. fallen) settled;
        slots = λ st e. at_some (λ (x : StoreState Disk). x.journal.slots ≡ slots_for (disks x.disk).sectors) end st e (keeps.slots
            ∙ slots);
        sound = λ now e. at_some (λ (x : Disk). IsSound (slots_for (disks x).sectors) (disks x)) end.disk now e (rw slots at keeps.sound);
      }

module _ {Disk : Type 0} (id nodes : ℕ) (core core' : Core) (store store' : StoreState Disk) (doubt doubt' : Option (Wanted × ℕ)) where
  pub as_before : IsUpOrDown id core store → IsAsBefore core core' store store' doubt doubt' → IsUpOrDown id core' store'
  as_before settled same = rw (same.same_state, same.same_store) settled

  served_by : (event : Event) (came : StepReport) (end : EventOutcome) → is_down core.state.phase ≡ false → IsFalse store.broken
      → IsServed nodes id core core' store store' doubt doubt' event came end → IsUpOrDown id core' store'
  served_by event came event_outcome.Done up whole is = inl
      (done_up store.journal.slots nodes id core.state core'.state (durable_of store) (durable_of store') event came up is.0, is.1)
  served_by event came (event_outcome.Refused why) up whole is = as_before (inl (up, whole)) is.2
  served_by event came event_outcome.Faulted up whole is = inr is.2
  served_by event came end up whole is = absurd is

  -- after an event
  pub served : (event : Event) (result : Result StepReport NodeFault) → is_down core.state.phase ≡ false → IsFalse store.broken
      → IfOk result (λ came. IsServed nodes id core core' store store' doubt doubt' event came came.event_outcome)
      → IfErr result (λ fault. (fault ≡ node.Core NoMemory) × IsAsBefore core core' store store' doubt doubt') → IsUpOrDown id core' store'
  served event (Ok came) up whole is stuck = served_by event came came.event_outcome up whole is
  served event (Err fault) up whole is stuck = as_before (inl (up, whole)) stuck.1

  -- after a raise
  pub risen : (kept : Bool) (came : StepReport) (end : EventOutcome) → core.state ≡ down id
      → HasRisen id kept core core' store store' doubt doubt' came end → IsUpOrDown id core' store'
  risen kept came (event_outcome.Recovered k) fallen is = inl (ap (λ (s : State). is_down s.phase) is.1.state, is.2)
  risen kept came (event_outcome.RaiseFailed k) fallen is = inr (is.1.state ∙ fallen)
  risen kept came (event_outcome.RaiseRefused k) fallen is = inr (is.3.same_state ∙ fallen)
  risen kept came end fallen is = absurd is

  -- where there is no memory the node is as it was
  pub served_stuck : (disks : Disk → DiskState) (before : Option ℕ) (event : Event) (result : Result StepReport NodeFault)
      → IfErr result (λ fault. (fault ≡ node.Core NoMemory) × IsAsBefore core core' store store' doubt doubt')
      → is_down core.state.phase ≡ false → IfErr result (λ _. takes_memory id event core.state ≡ true)
      → IfErr result (Stuck disks (node_with id nodes core (Mounted store) doubt before)
      (node_with id nodes core' (Mounted store') doubt' None) event)
  served_stuck disks before event (Ok came) is up takes = tt
  served_stuck disks before event (Err fault) is up takes =
      rw is.0 (refl, rw (is.1.same_state, is.1.same_store, is.1.same_doubt), rw up takes)

-- what is counted of a disk that is there
pub counts_of : {Disk A : Type 0} (disks : Disk → DiskState) (was now : Disk) (result : Result A NodeFault)
    → Counts (disks was) (disks now) (IsErrOf result node.Device) (IsErrOf result node.Device → ⊥) → RisesByOne (disks was) (disks now)
    → CountsOf disks (Some was) (Some now) result
counts_of {Disk} {A} disks was now result counts rises = record {
  was_there = refl;
  is_there = refl;
  counts = at_both (λ (x y : Disk). Counts (disks x) (disks y) (IsErrOf result node.Device) (IsErrOf result node.Device
      → ⊥)) was now counts;
  rises = at_both (λ (x y : Disk). RisesByOne (disks x) (disks y)) was now rises;
}

-- a disk that isn't called
pub counts_still : {Disk A : Type 0} (disks : Disk → DiskState) (disk : Option Disk) (result : Result A NodeFault) → IsSome disk
    → (IsErrOf result node.Device → ⊥) → CountsOf disks disk disk result
counts_still disks (Some disk) result there not_device =
    counts_of disks disk disk result (record {
      sectors = refl;
      honest = refl;
      arms = no_more_still (disks disk).armed;
      later =
          omega arith;
      unchanged = λ _. refl;
      cause = λ device. absurd (not_device device);
    })
    (λ honest bound within image number is at. omega (arith, within image number is at))
counts_still disks None result there not_device = absurd cc
