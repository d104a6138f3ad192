-- How a recovery that mounts its disk ends.
use Rattle.std.proofs.Common.{◌≡◌, ◌≢◌, ◌+◌, ◌≤◌, ◌⊎◌, inr, ⊎_elim, ℕ, Bool, [], Option, Some, None, option_map, Result, Ok, Err, sym}
use Rattle.std.proofs.Common.{◌∙◌, ap, subst, refl, IsTrue, IsOk, IfOk, IfErr}
use Rattle.sector_disk.specs.Disk.{Image, DiskState, Counts, IsImage, nothing}
use Rattle.sector_disk.specs.Run.{Run, Each}
use Rattle.job_model.specs.declared.node_command.NodeCommand.TheVariants.{Raise}
use Rattle.job_model.specs.Durable.{Durable}
use Rattle.job_model.specs.Fold.{after_command}
use Rattle.node_core.specs.declared.wanted.Wanted.{Wanted}
use Rattle.node_core.specs.declared.event.Event.TheVariants.{Recover}
use Rattle.node_core.specs.Core.{Core}
use Rattle.node_core.specs.Start.{down}
use Rattle.node_store.specs.declared.fault.StoreFault.{StoreFault}
use Rattle.node_store.specs.Store.{StoreState, durable_of, slots_for, stands_for, AllStandFor}
use Rattle.node_store.specs.declared.fault.StoreFault.TheVariants as by_store
use Rattle.histories.specs.NodeState.{NodeState, settled}
use Rattle.histories.specs.declared.history_event.HistoryEvent.{HistoryEvent}
use Rattle.histories.specs.declared.history_event.HistoryEvent.TheVariants.{Recovered, RaiseFailed}
use Rattle.histories.specs.declared.event_outcome.EventOutcome.{EventOutcome}
use Rattle.histories.specs.EventOutcomes.{attempt_of, what_of}
use Rattle.histories.proofs.PublicLaws.{tried_none, tried_raise}
use Rattle.histories.specs.After.{after}
use Rattle.histories.specs.Possible.{IsSettling}
use Rattle.histories.specs.declared.event_outcome.EventOutcome.TheVariants as event_outcome
use Rattle.durable_node.specs.declared.fault.NodeFault.{NodeFault}
use Rattle.durable_node.specs.declared.step_report.StepReport.{StepReport}
use Rattle.durable_node.specs.Faults.{fault_for, fault_of, answered, answered_as}
use Rattle.durable_node.specs.Carrying.{BeforeOrAfter, KeepsSound, Writes}
use Rattle.durable_node.specs.declared.node_disk.NodeDisk.{NodeDisk}
use Rattle.durable_node.specs.declared.node_disk.NodeDisk.TheVariants.{Bare, Mounted}
use Rattle.durable_node.specs.Node.{Node, shown_doubt, disk_in, mounted_in, node_with, IsLeft, Stands}
use Rattle.durable_node.specs.Stepping.{Does, IsSilent, IsUnmountable, Steps, Stuck}
use Rattle.durable_node.specs.Remounting.{HasRisen, IsMountedBy, IsKeptIn, raise_by}
use Rattle.durable_node.proofs.Mounts.{left_quiet, settles, left_cut, left_done}
use Rattle.durable_node.proofs.Settling.{settled_so}
use Rattle.durable_node.proofs.Parts.{does, down_phase, is_some, stands_at, stands_down}

module _ {Disk : Type 0} (disks : Disk → DiskState) (id nodes : ℕ) (core : Core) (disk : NodeDisk Disk) (was back : Disk)
    (doubt : Option (Wanted × ℕ)) (before : Option ℕ) (there : disk_in disk ≡ Some was)
    (fallen : core.state ≡ down id) where
  abbrev old_node : Node Disk
  old_node = node_with id nodes core disk doubt before

  abbrev new_node : Node Disk
  new_node = node_with id nodes core (Bare back) doubt None

  -- the device failed in the mounting
  pub mount_fails : (failed done : Type 0) → Counts (disks was) (disks back) failed done
      → (IsTrue (disks was).honest → Run nothing (disks was) (disks back))
      → (result : Result StepReport NodeFault) → IfOk result (λ came. came.event_outcome ≡ event_outcome.MountFailed) → IfOk result IsSilent
      → IfOk result (λ came. came.tried ≡ None)
      → IfOk result (Steps disks old_node new_node Recover)
  mount_fails failed done counts run (Err fault) end silent tried = tt
  mount_fails failed done counts run (Ok came) end silent tried = λ now s at stands mounting. rw end (
    does refl (down_phase id s.state (sym stands.state ∙ fallen)) tt (tried_none Recover came.tried tried) silent.1 silent.0 refl,
    stands_down disks new_node s back id fallen refl (left_quiet (disks was) (disks back) s counts.sectors counts.honest run
        (stands.disk was there)) stands.state stands.doubt,
  )

  -- each image of an honest disk that was left by a history stands for something
  abbrev pub Mounts : StoreFault → Type 0
  Mounts fault = IsTrue (disks was).honest → 24 ≤ (disks was).sectors
      → ((image : Image) → IsImage (disks was) image → (state : Durable) × (stands_for (slots_for (disks was).sectors) image ≡ Some state))
      → (fault ≡ by_store.Device) ⊎ (fault ≡ by_store.NoMemory)

  unmountable : (fault : StoreFault) → Mounts fault → (fault ≡ by_store.Device → ⊥) → (fault ≡ by_store.NoMemory → ⊥)
      → IsUnmountable disks old_node new_node Recover
  unmountable fault mounts not_device not_memory = record {
    mounting = (down_phase id core.state fallen, refl);
    strange = λ now s at stands honest. (let left : IsLeft (disks was) s = stands.disk was there in
        let so : IsTrue (disks was).honest = rw (is_some now was (sym at ∙ there)) at honest in
        ⊎_elim not_device not_memory (mounts so left.sectors (λ image im. (let f = left.images so image im in (settled f.0 s, f.2)))));
    same = rw fallen;
  }

  by_fault : (fault : StoreFault) → Mounts fault → (fault ≡ by_store.NoMemory → back ≡ was) → fault ≢ by_store.Device
      → Stuck disks old_node new_node Recover (fault_for fault)
  by_fault by_store.Device mounts untouched other = absurd (other refl)
  by_fault by_store.NoMemory mounts untouched other = (refl, rw (fallen, there, untouched refl), rw fallen refl)
  by_fault by_store.NotFormatted mounts untouched other = unmountable by_store.NotFormatted mounts (λ e. cc) (λ e. cc)
  by_fault (by_store.Damaged sector) mounts untouched other = unmountable (by_store.Damaged sector) mounts (λ e. cc) (λ e. cc)
  by_fault by_store.TooSmall mounts untouched other = unmountable by_store.TooSmall mounts (λ e. cc) (λ e. cc)

  -- the disk isn't mounted
  pub stuck : (fault : StoreFault) → Mounts fault
      → ((fault ≡ by_store.TooSmall) ⊎ (fault ≡ by_store.NoMemory) → back ≡ was)
      → (result : Result StepReport NodeFault) → IfErr result (λ why. (why ≡ fault_for fault) × (fault ≢ by_store.Device))
      → IfErr result (Stuck disks old_node new_node Recover)
  stuck fault mounts untouched (Ok came) err = tt
  stuck fault mounts untouched (Err why) err = rw err.0 (by_fault fault mounts (λ e. untouched (inr e)) err.1)

-- what was mounted is still shown after the raise
mounted_as : {Disk : Type 0} (d : Durable) (count : ℕ) (store : StoreState Disk) → durable_of store ≡ record d { counter = count }
    → mounted_in (Some d.counter) (Some store) ≡ Some d
mounted_as d count store is = (λ i. Some (record {
  counter = d.counter;
  next = ap (λ (e : Durable). e.next) is i;
  pending =
      ap (λ (e : Durable). e.pending) is i;
}))

module _ {Disk : Type 0} (id : ℕ) (kept : Bool) (core core' : Core) (mid end : StoreState Disk) (doubt doubt' : Option (Wanted × ℕ))
    (came : StepReport) where
  -- what was mounted is shown, nothing is sent, and the flag is answered
  pub shows : (w : EventOutcome) → HasRisen id kept core core' mid end doubt doubt' came w
      → (mounted_in (Some (durable_of mid).counter) (Some end) ≡ Some (durable_of mid)) × (came.sent.items ≡ [])
      × (IsKeptIn doubt (durable_of mid) kept → IsMountedBy doubt w (Some (durable_of mid)))
  shows (event_outcome.Recovered k) is = (
    mounted_as (durable_of mid) ((durable_of mid).counter + 1) end is.1.kept,
    is.1.sent,
    rw is.0 (λ flagged. flagged),
  )
  shows (event_outcome.RaiseFailed k) is = (
    mounted_as (durable_of mid) (durable_of mid).counter end is.1.kept,
    is.2.0,
    rw is.0 (λ flagged. flagged),
  )
  shows (event_outcome.RaiseRefused k) is = (rw is.3.same_store, is.2.0, rw is.0 (λ flagged. flagged))
  shows w is = absurd is

module _ {Disk : Type 0} (disks : Disk → DiskState) (id nodes : ℕ) (core core' : Core) (mid end : StoreState Disk)
    (doubt doubt' : Option (Wanted × ℕ)) (fallen : core.state ≡ down id)
    (failed : Type 0) (keeps : KeepsSound disks mid end failed) (came : StepReport) where
  abbrev Ended : NodeState → HistoryEvent → Type 0
  Ended s what = Does mid.journal.slots id nodes s Recover came (mounted_in (Some (durable_of mid).counter) (Some end)) what
      × Stands disks (node_with id nodes core' (Mounted end) doubt' (Some (durable_of mid).counter)) (after id nodes s what)

  -- what was mounted is one of the two that the node stood for
  module _ (s : NodeState) (stood : core.state ≡ s.state) (in_doubt : doubt ≡ shown_doubt s.durable s.doubt) (kept : Bool)
      (settling : IsSettling kept s.doubt) (is : durable_of mid ≡ settled kept s)
      (at : mid.journal.slots ≡ slots_for (disks mid.disk).sectors) (left : IsLeft (disks mid.disk) s)
      (all : AllStandFor mid.journal.slots (durable_of mid) (disks mid.disk)) (honest : IsTrue (disks mid.disk).honest)
      (mounted : mounted_in (Some (durable_of mid).counter) (Some end) ≡ Some (settled kept s)) where
    by_kept : (w : EventOutcome) → HasRisen id kept core core' mid end doubt doubt' came w → came.tried ≡ option_map attempt_of (raise_by w)
        → Writes disks mid end (Some Raise) (IsOk (answered_as came (fault_of w)))
        → Ended s (what_of Recover w)
    by_kept (event_outcome.Recovered k) risen tried writes =
        let new = after id nodes s (Recovered kept) in
        let count = ap (λ (d : Durable). d.counter) is in
        let kept_is : durable_of end ≡ after_command (settled kept s) Raise = risen.1.kept
        ∙ ap (λ (d : Durable). after_command d Raise) is in
        rw risen.0 (
          does refl (
            down_phase id s.state (sym stood ∙ fallen),
            settling,
            rw count at risen.1.fits,
          ) tt (tried_raise Recover came.tried tried) (rw count at risen.1.answer) risen.1.sent mounted,
          stands_at disks _ new end.disk refl (left_done disks mid end failed keeps at left.sectors new (λ h.
              subst (λ (d : Durable). AllStandFor mid.journal.slots d (disks end.disk)) kept_is (writes.after h all refl)))
              (rw count at risen.1.state) risen.1.doubt (λ up. (rw up (ap (λ (d : Durable). Some d) kept_is), refl)),
        )
    by_kept (event_outcome.RaiseFailed k) risen tried writes =
        let new = after id nodes s (RaiseFailed kept) in
        let count = ap (λ (d : Durable). d.counter) is in
        rw risen.0 (
          does refl (
            down_phase id s.state (sym stood ∙ fallen),
            settling,
            rw count at risen.1.fits,
          ) tt (tried_raise Recover came.tried tried) risen.2.1 risen.2.0 mounted,
          stands_down disks _ new end.disk id (risen.1.state ∙ fallen) refl (left_cut disks mid end failed keeps at left.sectors new refl
              (λ h. subst (λ (d : Durable). Each (disks mid.disk) (disks end.disk) (BeforeOrAfter mid.journal.slots d (Some Raise))) is
              (writes.images h all))) (risen.1.state ∙ fallen) (rw count at risen.1.doubt),
        )
    by_kept (event_outcome.RaiseRefused k) risen tried writes = rw risen.0 (
      does refl (
        down_phase id s.state (sym stood ∙ fallen),
        settling,
        rw (ap (λ (d : Durable). d.counter) is) at risen.1,
      ) tt (tried_none Recover came.tried tried) risen.2.1 risen.2.0 mounted,
      stands_down disks _ s mid.disk id (risen.3.same_state ∙ fallen)
          (ap (λ (st : StoreState Disk). Some st.disk) risen.3.same_store) left (risen.3.same_state ∙ stood)
          (risen.3.same_doubt ∙ in_doubt),
    )
    by_kept w risen tried writes = absurd risen

  -- the disk is mounted, and the raise is tried
  pub rises : (disk : NodeDisk Disk) (was : Disk) (before : Option ℕ) → disk_in disk ≡ Some was
      → mid.journal.slots ≡ slots_for (disks was).sectors
      → (other done : Type 0) → Counts (disks was) (disks mid.disk) other done
      → (IsTrue (disks was).honest → Run nothing (disks was) (disks mid.disk))
      → (IsTrue (disks was).honest → AllStandFor mid.journal.slots (durable_of mid) (disks mid.disk))
      → (flag : Bool) → IsKeptIn doubt (durable_of mid) flag
      → HasRisen id flag core core' mid end doubt doubt' came came.event_outcome
      → came.tried ≡ option_map attempt_of (raise_by came.event_outcome) → Writes disks mid end (Some Raise) (IsOk (answered (Ok came)))
      → Steps disks (node_with id nodes core disk doubt before)
      (node_with id nodes core' (Mounted end) doubt' (Some (durable_of mid).counter)) Recover came
  rises disk was before there at other done counts quiet remains flag flagged risen tried writes now s now_there stands mounting =
      let on : was ≡ now = is_some was now (sym there ∙ now_there) in
      let slots : mid.journal.slots ≡ slots_for (disks now).sectors = at ∙ ap (λ (d : Disk). slots_for (disks d).sectors) on in
      let honest : IsTrue (disks was).honest = rw on (mounting (down_phase id core.state fallen, refl)) in
      let left : IsLeft (disks was) s = stands.disk was there in
      let kept = settles (disks was) (disks mid.disk) s (durable_of mid) honest (quiet honest) left (rw at at (remains honest)) in
      let so = settled_so s (durable_of mid) flag kept.0 (rw stands.doubt at flagged) kept.1 kept.2 in
      let shown = (shows id flag core core' mid end doubt doubt' came came.event_outcome risen).0 ∙ ap (λ (d : Durable). Some d) so.1 in
      rw (← slots) (by_kept s stands.state stands.doubt flag so.0 so.1 (at ∙ ap (λ (n : ℕ). slots_for n) (sym counts.sectors))
      (left_quiet (disks was) (disks mid.disk) s counts.sectors counts.honest quiet left) (remains honest)
      (rw counts.honest honest) shown came.event_outcome risen tried writes)
