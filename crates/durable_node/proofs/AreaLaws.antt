-- What calls leave of the area of a node's journal.
use Rattle.std.proofs.Common.{◌≡◌, ◌==◌, ℕ, Bool, true, false, Option, Some, None, Result, Ok, Err, ap, refl, sym, ◌∙◌, subst, IsOk, IsTrue}
use Rattle.std.proofs.Common.{IfOk, IfErr, if◌then◌else◌}
use Rattle.sector_disk.specs.Disk.{DiskState}
use Rattle.job_model.specs.declared.node_command.NodeCommand.{NodeCommand as Command}
use Rattle.job_model.specs.declared.node_command.NodeCommand.TheVariants.{Raise, Put, Done}
use Rattle.job_model.specs.declared.command.Command.{Command as Change}
use Rattle.job_model.specs.declared.work.Work.{Work}
use Rattle.job_model.specs.Durable.{Durable}
use Rattle.job_journal.specs.Mounted.{JournalState}
use Rattle.job_journal.specs.Appending.{appended}
use Rattle.job_journal.specs.Compacting.{compacted, records_for, with_slot as journal_with_slot}
use Rattle.node_core.specs.declared.event.Event.{Event}
use Rattle.node_core.specs.declared.fault.CoreFault.TheVariants.{NoMemory}
use Rattle.node_core.specs.declared.wanted.Wanted.{Wanted}
use Rattle.node_core.specs.Core.{Core}
use Rattle.node_core.specs.State.{is_down}
use Rattle.node_core.specs.Wants.{wants_of}
use Rattle.node_store.specs.Store.{StoreState, durable_of}
use Rattle.histories.specs.declared.event_outcome.EventOutcome.{EventOutcome}
use Rattle.histories.specs.declared.event_outcome.EventOutcome.TheVariants as event_outcome
use Rattle.durable_node.specs.declared.step_report.StepReport.{StepReport}
use Rattle.durable_node.specs.declared.fault.NodeFault.{NodeFault}
use Rattle.durable_node.specs.declared.fault.NodeFault.TheVariants as node
use Rattle.durable_node.specs.declared.node_disk.NodeDisk.TheVariants.{Mounted}
use Rattle.durable_node.specs.Area.{AllEndIn, Area, area_of, area_after, jobs_in, moved, records_at, with_record, with_slot, LeavesArea}
use Rattle.durable_node.specs.Carrying.{Writes}
use Rattle.durable_node.specs.Compacting.{IsMovedInto}
use Rattle.durable_node.specs.Faults.{answered, answered_as, fault_of}
use Rattle.durable_node.specs.Node.{area_in, node_with}
use Rattle.durable_node.specs.Stepping.{AreaGoesOn, IsAsBefore, IsServed}
use Rattle.durable_node.proofs.Parts.{is_some}
use Rattle.durable_node.proofs.Serves.{done_up}

abbrev shown : JournalState → Area
shown j = record { number = j.area.value; slots = j.slots; used = j.used }

by_room : {Disk : Type 0} (b : Bool) (store : StoreState Disk) (command : Change)
    → shown (appended (if b then compacted store.journal else store.journal) command)
    ≡ with_record (if b then moved (durable_of store) (area_of store) else area_of store)
by_room true store command = refl
by_room false store command = refl

-- an append is one record more
one_more : {Disk : Type 0} (old new : StoreState Disk) (command : Change) → new.journal ≡ appended (journal_with_slot old.journal) command
    → area_of new ≡ with_record (with_slot (durable_of old) (area_of old))
one_more old new command is = ap shown is ∙ by_room (old.journal.used == old.journal.slots) old command

pub put_area : {Disk : Type 0} (old new : StoreState Disk) (work : Work)
    → new.journal ≡ appended (journal_with_slot old.journal) (Change.Put work)
    → area_of new ≡ area_after (durable_of old) (area_of old) (Some (Put work))
put_area old new work is = one_more old new (Change.Put work) is

pub done_area : {Disk : Type 0} (old new : StoreState Disk) (id : ℕ)
    → new.journal ≡ appended (journal_with_slot old.journal) (Change.Done id)
    → area_of new ≡ area_after (durable_of old) (area_of old) (Some (Done id))
done_area old new id is = one_more old new (Change.Done id) is

pub raise_area : {Disk : Type 0} (old new : StoreState Disk) → new.journal ≡ old.journal
    → area_of new ≡ area_after (durable_of old) (area_of old) (Some Raise)
raise_area old new is = ap shown is

-- done, the area is what its command makes of it
left_of : {A : Type 0} (d : Durable) (area : Area) (wants : Option Command) (left : Option Area) (result : Result A NodeFault) → IsOk result
    → LeavesArea d area wants result left
    → left ≡ Some (area_after d area wants)
left_of d area wants left (Ok a) ok leaves = leaves
left_of d area wants left (Err fault) ok leaves = absurd cc

-- a node that is down shows no area
pub area_hidden : {Disk : Type 0} (down : Bool) (store : Option (StoreState Disk)) (area : Area) → down ≡ true
    → area_in down store ≡ Some area → ⊥
area_hidden down store area is at = (let none = rw is at at in cc)

module _ {Disk : Type 0} (id nodes : ℕ) (core core' : Core) (store store' : StoreState Disk) (doubt doubt' : Option (Wanted × ℕ))
    (was : Option ℕ) (event : Event) (up : is_down core.state.phase ≡ false) where
  -- what a call that isn't a failure leaves is shown
  by_fate : (came : StepReport) (end : EventOutcome) → IsServed nodes id core core' store store' doubt doubt' event came end
      → LeavesArea (durable_of store) (area_of store) (wants_of id (durable_of store).pending event core.state)
      (answered_as came (fault_of end)) (Some (area_of store'))
      → LeavesArea (durable_of store) (area_of store) (wants_of id (durable_of store).pending event core.state)
      (answered_as came (fault_of end)) (area_in (is_down core'.state.phase) (Some store'))
  by_fate came event_outcome.Done is leaves =
      rw (done_up store.journal.slots nodes id core.state core'.state (durable_of store) (durable_of store') event came up is.0) leaves
  by_fate came (event_outcome.Refused why) is leaves = λ other. rw (is.2.same_state, is.2.same_store, up) refl
  by_fate came event_outcome.Faulted is leaves = λ other. absurd (other refl)
  by_fate came end is leaves = absurd is

  by_result : (result : Result StepReport NodeFault) → IfOk result (λ came.
      IsServed nodes id core core' store store' doubt doubt' event came came.event_outcome)
      → IfErr result (λ fault. (fault ≡ node.Core NoMemory) × IsAsBefore core core' store store' doubt doubt')
      → LeavesArea (durable_of store) (area_of store) (wants_of id (durable_of store).pending event core.state) (answered result)
      (Some (area_of store'))
      → LeavesArea (durable_of store) (area_of store) (wants_of id (durable_of store).pending event core.state) (answered result)
      (area_in (is_down core'.state.phase) (Some store'))
  by_result (Err fault) served stuck leaves = λ other. rw (stuck.1.same_state, stuck.1.same_store, up) refl
  by_result (Ok came) served stuck leaves = by_fate came came.event_outcome served leaves

  -- and it is spelled on the disk
  spelled_by : (disks : Disk → DiskState) (result : Result StepReport NodeFault)
      → LeavesArea (durable_of store) (area_of store) (wants_of id (durable_of store).pending event core.state) (answered result)
      (Some (area_of store'))
      → Writes disks store store' (wants_of id (durable_of store).pending event core.state) (IsOk (answered result)) → (was now : Disk)
      → Some store.disk ≡ Some was → Some store'.disk ≡ Some now
      → IsTrue (disks was).honest → IsOk (answered result)
      → AllEndIn (area_after (durable_of store) (area_of store) (wants_of id (durable_of store).pending event core.state))
      (records_at (durable_of store) (area_of store) (wants_of id (durable_of store).pending event core.state)) (disks now)
  spelled_by disks result leaves writes was now before behind honest ok =
      let there : store.disk ≡ was = is_some store.disk was before in
      let here : store'.disk ≡ now = is_some store'.disk now behind in
      let wants = wants_of id (durable_of store).pending event core.state in
      let after = area_after (durable_of store) (area_of store) wants in
      let records = records_at (durable_of store) (area_of store) wants in
      let area : area_of store' ≡ after = is_some (area_of store') after
      (left_of (durable_of store) (area_of store) wants (Some (area_of store')) (answered result) ok leaves) in
      subst (λ (d : Disk). AllEndIn after records (disks d)) here (subst (λ (a : Area). AllEndIn a records (disks store'.disk)) area
      (writes.spelled (subst (λ (d : Disk). IsTrue (disks d).honest) (sym there) honest) ok))

  pub area_goes_on : (disks : Disk → DiskState) (result : Result StepReport NodeFault)
      → IfOk result (λ came. IsServed nodes id core core' store store' doubt doubt' event came came.event_outcome)
      → IfErr result (λ fault. (fault ≡ node.Core NoMemory) × IsAsBefore core core' store store' doubt doubt')
      → LeavesArea (durable_of store) (area_of store) (wants_of id (durable_of store).pending event core.state) (answered result)
      (Some (area_of store'))
      → Writes disks store store' (wants_of id (durable_of store).pending event core.state) (IsOk (answered result))
      → AreaGoesOn disks (node_with id nodes core (Mounted store) doubt was)
      (node_with id nodes core' (Mounted store') doubt' None) event (answered result)
  area_goes_on disks result served stuck leaves writes d area kept at =
      let d_is : durable_of store ≡ d = is_some _ _ (rw up at kept) in
      let a_is : area_of store ≡ area = is_some _ _ (rw up at at) in
      rw (← d_is, ← a_is) (record { leaves = by_result result served stuck leaves; spelled = spelled_by disks result leaves writes })

-- what a compaction wrote of a node that is up
module _ {Disk : Type 0} (id nodes : ℕ) (core core' : Core) (store store' : StoreState Disk) (doubt : Option (Wanted × ℕ)) (was : Option ℕ)
    (up : is_down core.state.phase ≡ false) where
  pub moved_into : {A : Type 0} (disks : Disk → DiskState) (result : Result A NodeFault)
      → (IsOk result → area_of store' ≡ moved (durable_of store) (area_of store))
      → (IsTrue (disks store.disk).honest → IsOk result → AllEndIn (area_of store') (records_for (jobs_in (durable_of store)))
      (disks store'.disk))
      → IsMovedInto disks (node_with id nodes core (Mounted store) doubt was) (node_with id nodes core' (Mounted store') doubt None) result
  moved_into disks result area spelled old now d at on there kept is honest ok =
      let d_is : durable_of store ≡ d = is_some (durable_of store) d (rw up at kept) in
      let a_is : area_of store ≡ at = is_some (area_of store) at (rw up at is) in
      let before : store.disk ≡ old = is_some store.disk old on in
      let here : store'.disk ≡ now = is_some store'.disk now there in
      let records = records_for (jobs_in (durable_of store)) in
      subst (λ (e : Durable). AllEndIn (moved e at) (records_for (jobs_in e)) (disks now)) d_is
      (subst (λ (a : Area). AllEndIn (moved (durable_of store) a) records (disks now)) a_is
      (subst (λ (k : Disk). AllEndIn (moved (durable_of store) (area_of store)) records (disks k)) here
      (subst (λ (a : Area). AllEndIn a records (disks store'.disk)) (area ok)
      (spelled (subst (λ (k : Disk). IsTrue (disks k).honest) (sym before) honest) ok))))
