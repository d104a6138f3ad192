use Rattle.job_journal.proofs.Common.{◌≡◌, ◌∙◌, ◌∷◌, [], Some, sym, ap, subst, arith, AllHold, IsOk, appended, JournalState, EndsIn}
use Rattle.job_journal.proofs.Common.{record_for, jobs_of, bytes_of, slot_at, InSlot, SameBut}
use Rattle.job_journal.proofs.Spellings.{one_ends}
use Rattle.job_journal.proofs.Changes.{append_since, append_after, append_run}
use Rattle.job_journal.proofs.Frames.{first_between, synced_image}
use Rattle.job_journal.proofs.Numbers.{slot_numbered}
use Rattle.job_journal.proofs.journal.JobJournal.write.Goals as goal

pub returns-clause-writes : goal.returns-clause-writes
returns-clause-writes g c = record {
  answers = grind arith;
  counts = grind arith;
  run =
      λ honest. append_run c.args.self.now c.next_slot-slot.ensures.slot c.requires.admitted.free
      (c.store-stored.ensures.writes.run honest);
}

pub returns-clause-images : goal.returns-clause-images
returns-clause-images g c = λ honest sound all.
    append_since honest c.next_slot-slot.ensures.kept c.requires.admitted c.body_for-body.ensures.reads c.next_slot-slot.ensures.slot sound
    all (c.store-stored.ensures.images honest)

pub returns-clause-after : goal.returns-clause-after
returns-clause-after g c = λ honest ok.
    let stored : IsOk c.store-stored.result = grind arith in
    let done : c.conclude.new.self ≡ appended c.args.self.now c.args.command = grind arith in
    let synced = c.store-stored.ensures.synced honest stored in
    record {
      synced = synced;
      spelled = λ i image. subst (λ (w : JournalState). EndsIn w.slots w.area.value w.used
          (record_for (jobs_of c.args.self.now.table) c.args.command ∷ []) i) (sym done)
          (one_ends c.args.self.now.slots c.args.self.now.area.value c.args.self.now.used
          (record_for (jobs_of c.args.self.now.table) c.args.command) i
          (subst (λ s. slot_at i s ≡ Some (bytes_of (record_for (jobs_of c.args.self.now.table) c.args.command)))
          c.next_slot-slot.ensures.slot
          (ap (λ d. slot_at d c.next_slot-slot.result) (synced_image (g.D.SectorDisk.state c.store-stored.new.disk) i synced image)
          ∙ c.store-stored.ensures.sealed honest stored ∙ ap (λ s. Some s) c.body_for-body.ensures.bytes)));
      holds = λ known. subst (λ w. AllHold w (g.D.SectorDisk.state c.store-stored.new.disk)) (sym done)
          (append_after honest c.next_slot-slot.ensures.kept c.requires.admitted c.body_for-body.ensures.reads c.next_slot-slot.ensures.slot
          known.0 known.1
          (c.store-stored.ensures.writes.run honest) synced (c.store-stored.ensures.sealed honest stored));
    }

pub returns-clause-numbered : goal.returns-clause-numbered
returns-clause-numbered g c = λ honest all.
    slot_numbered c.args.self.now (omega (
      arith,
      c.next_slot-slot.ensures.slot,
      (first_between c.args.self.now.slots c.args.self.now.area.value).0,
    )) all (c.store-stored.ensures.writes.run honest)

pub returns-clause-others : goal.returns-clause-others
returns-clause-others g c = λ honest.
    subst (λ s. SameBut (InSlot s) (g.D.SectorDisk.state c.args.disk.now).contents (g.D.SectorDisk.state c.store-stored.new.disk).contents)
    c.next_slot-slot.ensures.slot (c.store-stored.ensures.writes.run honest).contents
