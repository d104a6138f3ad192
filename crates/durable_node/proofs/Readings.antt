-- What a recovery that mounts its disk reads there, and why it can't.
use Rattle.std.proofs.Common.{◌≡◌, ◌<◌, ◌≤◌, ◌⊎◌, ◌↔◌, inl, inr, ⊎_elim, ℕ, Some, None, Result, Ok, Err, ◌∙◌, ap, refl, arith, IsTrue}
use Rattle.std.proofs.Common.{IfErr}
use Rattle.sector_disk.specs.Disk.{DiskState, Image, nothing}
use Rattle.sector_disk.specs.Run.{Run}
use Rattle.job_model.specs.Durable.{Durable}
use Rattle.node_store.specs.declared.fault.StoreFault.{StoreFault}
use Rattle.node_store.specs.Store.{slots_for, stands_for}
use Rattle.node_store.specs.Mounting.{IsRefusedFor}
use Rattle.node_store.specs.declared.fault.StoreFault.TheVariants as by_store
use Rattle.durable_node.specs.declared.fault.NodeFault.{NodeFault}
use Rattle.durable_node.specs.declared.step_report.StepReport.{StepReport}
use Rattle.durable_node.specs.Faults.{fault_for}
use Rattle.durable_node.specs.Node.{Node}
use Rattle.durable_node.specs.Reading.{IsRead, IsUnread}
use Rattle.durable_node.specs.Remounting.{Remounted}
use Rattle.durable_node.specs.declared.fault.NodeFault.TheVariants as node

small_alone : (fault : StoreFault) → fault_for fault ≡ node.TooSmall → fault ≡ by_store.TooSmall
small_alone by_store.TooSmall e = refl
small_alone fault e = absurd cc

abbrev ByStore : ℕ → Image → StoreFault → Type 0
ByStore slots image fault = (fault ≡ by_store.TooSmall) ⊎ (fault ≡ by_store.NoMemory) ⊎ (fault ≡ by_store.Device)
    ⊎ IsRefusedFor slots image fault

refused_for : (slots : ℕ) (image : Image) (fault : StoreFault) → IsRefusedFor slots image fault → IsUnread slots image (fault_for fault)
refused_for slots image by_store.NotFormatted is = is
refused_for slots image (by_store.Damaged sector) is = is
refused_for slots image fault is = tt

unread : (slots : ℕ) (image : Image) (fault : StoreFault) → ByStore slots image fault → IsUnread slots image (fault_for fault)
unread slots image fault (inl small) = rw small tt
unread slots image fault (inr (inl memory)) = rw memory tt
unread slots image fault (inr (inr (inl device))) = rw device tt
unread slots image fault (inr (inr (inr is))) = refused_for slots image fault is

-- a mounting that is refused
pub unread_at : {Disk : Type 0} (disks : Disk → DiskState) (was back : Disk) (fault : StoreFault)
    → ((fault ≡ by_store.TooSmall) ↔ ((disks was).sectors < 24)) → ((fault ≡ by_store.TooSmall) ⊎ (fault ≡ by_store.NoMemory) → back ≡ was)
    → (IsTrue (disks was).honest → ByStore (slots_for (disks was).sectors) (disks was).contents fault)
    → (IsTrue (disks was).honest → Run nothing (disks was) (disks back))
    → IsRead disks was back (Err (fault_for fault)) None
unread_at disks was back fault small untouched refusal run = record {
  too_small = (λ e. small.0 (small_alone fault (cc e)), λ few. ap (λ (f : StoreFault). Err (fault_for f)) (small.1 few));
  uncalled = λ e. untouched (inl (small_alone fault (cc e)));
  refused = λ honest. unread (slots_for (disks was).sectors) (disks was).contents fault (refusal honest);
  finds = λ honest d e. absurd cc;
  unwritten = λ honest e. run honest;
}

module _ {Disk : Type 0} (disks : Disk → DiskState) (was now : Disk) (old new : Node Disk) (d : Durable) where
  not_small : (result : Result StepReport NodeFault) → Remounted old new result (Some d) → result ≡ Err node.TooSmall → ⊥
  not_small (Ok came) is e = absurd cc
  not_small (Err fault) is e = ⊎_elim (λ device. absurd (let same = device.0 in cc)) (λ spent. absurd (let same = spent.0 in cc)) is.1

  raise_refused : (slots : ℕ) (image : Image) (result : Result StepReport NodeFault) → Remounted old new result (Some d)
      → IfErr result (IsUnread slots image)
  raise_refused slots image (Ok came) is = tt
  raise_refused slots image (Err fault) is = ⊎_elim (λ device. rw device.0 tt) (λ spent. rw spent.0 tt) is.1

  -- a mounting that is done
  pub read_at : (result : Result StepReport NodeFault) → Remounted old new result (Some d) → 24 ≤ (disks was).sectors
      → (IsTrue (disks was).honest → stands_for (slots_for (disks was).sectors) (disks was).contents ≡ Some d)
      → IsRead disks was now result (Some d)
  read_at result is enough reads = record {
    too_small = (λ e. absurd (not_small result is e), λ few. absurd (omega (arith, enough, few)));
    uncalled = λ e. absurd (not_small result is e);
    refused = λ honest. raise_refused (slots_for (disks was).sectors) (disks was).contents result is;
    finds = λ honest e is. reads honest ∙ is;
    unwritten = λ honest e. absurd cc;
  }
