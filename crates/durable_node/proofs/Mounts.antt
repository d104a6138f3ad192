-- What calls of a store leave of what its disk stands for.
use Rattle.std.proofs.Common.{◌≡◌, ◌+◌, ◌*◌, ◌≤◌, inl, ⊎_elim, ℕ, true, false, Bool, Option, Some, None, sym, ◌∙◌, ap, refl, arith, IsSome}
use Rattle.std.proofs.Common.{IsTrue, IsFalse}
use Rattle.sector_disk.specs.Disk.{Image, DiskState, IsImage, Laws, SameBut, nothing}
use Rattle.sector_disk.specs.Run.{Run, Each}
use Rattle.safe_cell.specs.Cell.{cell_at}
use Rattle.job_model.specs.declared.node_command.NodeCommand.{NodeCommand as Command}
use Rattle.job_model.specs.Durable.{Durable}
use Rattle.job_journal.specs.Journal.{AllWithin, RisesByOne, jobs_by, jobs_in, IsSound, ImagesSince}
use Rattle.job_journal.proofs.PublicLaws.{SameFrom, cell_same_from, replay_same_from}
use Rattle.node_store.specs.Store.{StoreState, durable_by, durable_of, stands_for, slots_for, AllStandFor, Lasts}
use Rattle.node_store.specs.Store.{BeforeOrAfter as StoreBeforeOrAfter}
use Rattle.node_store.proofs.PublicLaws.{sound_kept}
use Rattle.histories.specs.NodeState.{NodeState, settled}
use Rattle.histories.specs.Possible.{IsSettling}
use Rattle.durable_node.specs.Area.{AllEndIn, area_of, records_at}
use Rattle.durable_node.specs.Carrying.{BeforeOrAfter, KeepsSound, Writes}
use Rattle.durable_node.specs.Node.{IsLeft}
use Rattle.durable_node.proofs.Parts.{is_some}

pub quiet_same : (at many : ℕ) (d c : Image) → SameBut nothing d c → SameFrom at many d c
quiet_same at many d c same = record { same = λ k le lt. same.same k (λ no. no) }

-- an image with the same sectors stands for the same
pub stands_same : (slots : ℕ) (d c : Image) → SameBut nothing d c → stands_for slots c ≡ stands_for slots d
stands_same slots d c same =
    ap (λ (v : Option ℕ). durable_by v (jobs_in slots c)) (cell_same_from 0 d c (quiet_same 0 4 d c same))
    ∙ ap (λ f. durable_by (cell_at d 0) (jobs_by f)) (replay_same_from slots d c (quiet_same 4 (4 + 4 * slots) d c same))

-- calls that wrote nothing leave the number of the area
pub quiet_within : (old new : DiskState) → Run nothing old new → (bound : ℕ) → AllWithin bound old → AllWithin bound new
quiet_within old new run bound within image number is at =
    let from = run.follows image (run.ends image is) in
    within from.0 number from.1 (sym (cell_same_from 4 from.0 image (quiet_same 4 4 from.0 image from.2)) ∙ at)

pub quiet_rises : (old new : DiskState) → (IsTrue old.honest → Run nothing old new) → RisesByOne old new
quiet_rises old new run honest bound within image number is at =
    omega (arith, quiet_within old new (run honest) bound within image number is at)

-- and then a call of a store
pub rises_behind : (old mid new : DiskState) → mid.honest ≡ old.honest → (IsTrue old.honest → Run nothing old mid) → RisesByOne mid new
    → RisesByOne old new
rises_behind old mid new same run rises honest bound within = rises (same ∙ honest) bound (quiet_within old mid (run honest) bound within)

-- a store that wasn't called
pub unwritten : {Disk : Type 0} (disks : Disk → DiskState) (store : StoreState Disk) (wants : Option Command) (done : Type 0)
    → (IsTrue (disks store.disk).honest → Laws (disks store.disk)) → (done → ⊥) → Writes disks store store wants done
unwritten disks store wants done laws none = record {
  images = λ honest all image since. inl (all image ((laws honest).only_now image since));
  after = λ honest all _. all;
  spelled = λ honest ok. absurd (none ok);
}

-- a store that took a command
pub written : {Disk : Type 0} (disks : Disk → DiskState) (old new : StoreState Disk) (command : Command) (done : Type 0)
    → IsFalse old.broken → new.journal.slots ≡ old.journal.slots
    → (IsTrue (disks old.disk).honest → IsFalse old.broken → ImagesSince old.journal.slots (disks old.disk) (disks new.disk)
    (StoreBeforeOrAfter old command))
    → (IsTrue (disks old.disk).honest → done → Lasts new.journal.slots (durable_of new) (disks new.disk))
    → (IsTrue (disks old.disk).honest → done → AllEndIn (area_of new) (records_at (durable_of old) (area_of old) (Some command))
    (disks new.disk))
    → Writes disks old new (Some command) done
written disks old new command done whole slots images after spelled = record {
  images = λ honest all. (images honest whole).each;
  after = λ honest all ok. rw slots at (after honest ok).stands;
  spelled = spelled;
}

-- what calls that wrote nothing left stands for what was there
quiet_image : (old new : DiskState) (s : NodeState) → IsLeft old s → IsTrue old.honest → Run nothing old new → (image : Image)
    → IsImage new image
    → (kept : Bool) × IsSettling kept s.doubt × (stands_for (slots_for old.sectors) image ≡ Some (settled kept s))
quiet_image old new s left honest run image is =
    let from = run.follows image (run.ends image is) in
    let choice = left.images honest from.0 from.1 in (
      choice.0,
      choice.1,
      stands_same (slots_for old.sectors) from.0 image from.2 ∙ choice.2,
    )

pub left_quiet : (old new : DiskState) (s : NodeState) → new.sectors ≡ old.sectors → new.honest ≡ old.honest
    → (IsTrue old.honest → Run nothing old new) → IsLeft old s → IsLeft new s
left_quiet old new s sectors same run left = record {
  sectors = omega (arith, left.sectors, sectors);
  images = λ honest image is. (let was = rw same at honest in rw sectors (quiet_image old new s left was (run was) image is));
  sound = rw sectors (sound_kept (slots_for old.sectors) old new same run left.sound);
}

-- a mounting gives what was kept, with the command in doubt or without it
pub settles : (old new : DiskState) (s : NodeState) (d : Durable) → IsTrue old.honest → Run nothing old new → IsLeft old s
    → AllStandFor (slots_for old.sectors) d new
    → (kept : Bool) × IsSettling kept s.doubt × (d ≡ settled kept s)
settles old new s d honest run left all =
    let is : IsImage new new.contents = record { size = refl; same = λ at still. refl } in
    let choice = quiet_image old new s left honest run new.contents is in
    (choice.0, choice.1, is_some d (settled choice.0 s) (sym (all new.contents is) ∙ choice.2))

-- with no doubt each image stands for what is kept
pub stands_all : (disk : DiskState) (s : NodeState) → s.doubt ≡ None → IsLeft disk s → IsTrue disk.honest
    → AllStandFor (slots_for disk.sectors) s.durable disk
stands_all disk s none left honest image is = (let choice = left.images honest image is in of_choice choice.0 choice.1 choice.2)
  where
    of_choice : (kept : Bool) → IsSettling kept s.doubt → stands_for (slots_for disk.sectors) image ≡ Some (settled kept s)
        → stands_for (slots_for disk.sectors) image ≡ Some s.durable
    of_choice true wanted h = (let some : IsSome s.doubt = wanted refl in absurd cc (none, some))
    of_choice false wanted h = h

-- after a command was carried out
pub left_by : (disk : DiskState) (s : NodeState) → 24 ≤ disk.sectors
    → (IsTrue disk.honest → AllStandFor (slots_for disk.sectors) s.durable disk) → IsSound (slots_for disk.sectors) disk → IsLeft disk s
left_by disk s sectors all sound = record {
  sectors = sectors;
  images =
      λ honest image is. (false, λ kept. absurd cc, all honest image is);
  sound = sound;
}

-- what a call left of a store
module _ {Disk : Type 0} (disks : Disk → DiskState) (old new : StoreState Disk) (failed : Type 0) (keeps : KeepsSound disks old new failed)
    (at : old.journal.slots ≡ slots_for (disks old.disk).sectors) where
  -- as many slots as the disk has
  pub slots_kept : old.journal.slots ≡ slots_for (disks new.disk).sectors
  slots_kept = at ∙ ap (λ (n : ℕ). slots_for n) (sym keeps.counts.sectors)

  module _ (enough : 24 ≤ (disks old.disk).sectors) (s : NodeState) where
    -- where it was done
    pub left_done : (IsTrue (disks old.disk).honest → AllStandFor old.journal.slots s.durable (disks new.disk)) → IsLeft (disks new.disk) s
    left_done all =
        left_by (disks new.disk) s (omega (arith, enough, keeps.counts.sectors))
        (λ honest. rw slots_kept at (all (rw keeps.counts.honest at honest))) (rw slots_kept at keeps.sound)

    -- where the device failed in a command
    pub left_cut : IsSome s.doubt → (IsTrue (disks old.disk).honest
        → Each (disks old.disk) (disks new.disk) (BeforeOrAfter old.journal.slots s.durable s.doubt)) → IsLeft (disks new.disk) s
    left_cut wanted each = record {
      sectors = omega (arith, enough, keeps.counts.sectors);
      images = λ honest image is. (let was = rw keeps.counts.honest at honest in
          ⊎_elim (λ before. (false, λ kept. absurd cc, before)) (λ after. (true, λ kept. wanted, after))
          (rw slots_kept at (each was image ((keeps.run was).ends image is))));
      sound = rw slots_kept at keeps.sound;
    }
