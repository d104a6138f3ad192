-- What a compaction leaves of a node that is up.
use Rattle.std.proofs.Common.{◌≡◌, ◌⊎◌, inl, inr, ⊎_elim, ℕ, true, false, Bool, Option, Some, None, Result, Ok, Err, sym, ◌∙◌, ap, refl}
use Rattle.std.proofs.Common.{IsTrue, IsOk, if◌then◌else◌}
use Rattle.sector_disk.specs.Disk.{DiskState}
use Rattle.sector_disk.specs.Run.{Each}
use Rattle.job_model.specs.Durable.{Durable}
use Rattle.node_core.specs.declared.wanted.Wanted.{Wanted}
use Rattle.node_core.specs.declared.fault.CoreFault.TheVariants.{Down}
use Rattle.node_core.specs.Core.{Core}
use Rattle.node_core.specs.declared.fault.Refusal.TheVariants.{AreaExhausted}
use Rattle.node_core.specs.State.{is_down}
use Rattle.node_store.specs.Store.{StoreState, durable_of, slots_for, StaysAs}
use Rattle.histories.specs.NodeState.{NodeState}
use Rattle.histories.specs.declared.history_event.HistoryEvent.TheVariants.{NoOp, Crashed}
use Rattle.histories.specs.After.{after}
use Rattle.histories.specs.declared.history_event.NoOpKind.TheVariants.{Compacted, CompactDown, CompactAreaExhausted}
use Rattle.durable_node.specs.Carrying.{KeepsSound}
use Rattle.durable_node.specs.declared.fault.NodeFault.{NodeFault}
use Rattle.durable_node.specs.declared.node_disk.NodeDisk.{NodeDisk}
use Rattle.durable_node.specs.declared.node_disk.NodeDisk.TheVariants.{Mounted}
use Rattle.durable_node.specs.Node.{IsLeft, Stands, area_of, node_with}
use Rattle.durable_node.specs.Refusing.{AnswersTo, compaction_refusal, is_last}
use Rattle.durable_node.specs.Compacting.{Compacts, IsRewrittenCore}
use Rattle.durable_node.specs.declared.fault.NodeFault.TheVariants as node
use Rattle.durable_node.proofs.Mounts.{left_done}
use Rattle.durable_node.proofs.Parts.{is_some, stands_at, stands_down}

-- how a compaction ends
ends_as : {A : Type 0} (b : Bool) (result : Result A NodeFault) → AnswersTo (if b then Some AreaExhausted else None) result
    → IsOk result ⊎ ((result ≡ Err node.Device) ⊎ (result ≡ Err node.Exhausted))
ends_as true result answers = inr (inr answers)
ends_as false result answers = ⊎_elim (λ ok. inl ok) (λ d. inr (inl d)) answers

ok_is_none : {A : Type 0} (result : Result A NodeFault) (fault : NodeFault) → IsOk result → result ≡ Err fault → ⊥
ok_is_none (Ok a) fault ok is = cc
ok_is_none (Err f) fault ok is = absurd cc

-- a node that is down refuses it
pub compact_down : {Disk A : Type 0} (disks : Disk → DiskState) (id nodes : ℕ) (core : Core) (disk : NodeDisk Disk)
    (doubt : Option (Wanted × ℕ)) (was : Option ℕ) (result : Result A NodeFault)
    → is_down core.state.phase ≡ true → result ≡ Err (node.Core Down)
    → Compacts disks (node_with id nodes core disk doubt was) (node_with id nodes core disk doubt None) result
compact_down disks id nodes core disk doubt was result fallen is on s at stands =
    (NoOp CompactDown, is, rw stands.state at fallen, assumption stands)

module _ {Disk A : Type 0} (disks : Disk → DiskState) (id nodes : ℕ) (core core' : Core) (store store' : StoreState Disk)
    (doubt : Option (Wanted × ℕ)) (was : Option ℕ) (up : is_down core.state.phase ≡ false) where
  pub compacts : (result : Result A NodeFault) → store.journal.slots ≡ slots_for (disks store.disk).sectors
      → IsRewrittenCore id nodes core core' result
      → AnswersTo (compaction_refusal (Some (area_of store))) result → durable_of store' ≡ durable_of store → (failed : Type 0)
      → KeepsSound disks store store' failed
      → (IsTrue (disks store.disk).honest → Each (disks store.disk) (disks store'.disk) (StaysAs store))
      → Compacts disks (node_with id nodes core (Mounted store) doubt was) (node_with id nodes core' (Mounted store') doubt None) result
  compacts result slots left answers same_kept failed keeps each on s at stands =
      elim (ends_as (is_last (area_of store)) result answers) [
        | inl ok ↦ (NoOp Compacted, ok, rw stands.state at up, stays (left.stays (ok_is_none result node.Device ok)))
        | inr (inl device) ↦ (
          Crashed,
          device,
          tt,
          stands_down disks _ (after id nodes s Crashed) store'.disk id (left.falls device) refl
              (ends (after id nodes s Crashed) refl) (left.falls device) stands.doubt,
        )
        | inr (inr area_exhausted) ↦ (NoOp CompactAreaExhausted, area_exhausted, rw stands.state at up, stays (left.stays (λ e. cc)))
      ]
    where
      kept : durable_of store ≡ s.durable
      kept = is_some (durable_of store) s.durable (rw up at (stands.up up).0)

      ends : (t : NodeState) → t.durable ≡ s.durable → IsLeft (disks store'.disk) t
      ends t same = left_done disks store store' failed keeps slots (stands.disk store.disk refl).sectors t
          (λ honest image im. each honest image ((keeps.run honest).ends image im) ∙ ap (λ (d : Durable). Some d) (kept ∙ sym same))

      stays : core'.state ≡ core.state → Stands disks (node_with id nodes core' (Mounted store') doubt None) s
      stays same = stands_at disks _ s store'.disk refl (ends s refl)
          (same ∙ stands.state) stands.doubt (λ _. (rw (same, up) (ap (λ (d : Durable). Some d) (same_kept ∙ kept)), (stands.up up).1))
