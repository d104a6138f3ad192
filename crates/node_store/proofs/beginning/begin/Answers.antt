use Rattle.std.proofs.Common.{◌≡◌, Some, subst, ◌∙◌, arith, IsOk}
use Rattle.sector_disk.specs.Run.{Run, Each}
use Rattle.job_journal.specs.Jobs.{jobs_of, kept}
use Rattle.job_journal.specs.Journal.{IsSoundImage}
use Rattle.node_store.specs.Beginning.{NothingOr}
use Rattle.node_store.specs.Store.{stands_for, InStore}
use Rattle.node_store.proofs.Parts.{both}
use Rattle.node_store.proofs.Beginnings.{all_begun, journal_begun, jobs_stay, journal_run, sound_stays, still_unsealed, store_run}
use Rattle.node_store.proofs.beginning.begin.Goals as goal

pub returns-in_err-or-clause-makes : goal.returns-in_err-or-clause-makes
returns-in_err-or-clause-makes g c =
    let state = g.D.SectorDisk.state in record {
      too_small = grind arith;
      untouched = grind arith;
      no_other = grind arith;
      counts = grind arith;
      run = λ honest. subst (λ n. Run (InStore n) (state c.args.disk.now) (state c.begin.new.disk)) c.in_ok-slots.ensures.value
          (journal_run c.in_ok-slots.slots (state c.args.disk.now) (state c.begin.new.disk) (c.begin.ensures.writes.run honest));
    }

pub returns-in_err-or-clause-images : goal.returns-in_err-or-clause-images
returns-in_err-or-clause-images g c = λ honest none.
    let state = g.D.SectorDisk.state in
    subst (λ n. Each (state c.args.disk.now) (state c.begin.new.disk) (NothingOr n (kept c.args.count (jobs_of c.args.table.now))))
    c.in_ok-slots.ensures.value
    (journal_begun c.in_ok-slots.slots c.args.count (jobs_of c.args.table.now) (state c.args.disk.now) (state c.begin.new.disk)
    (c.begin.ensures.writes.run honest) none)

pub returns-clause-makes : goal.returns-clause-makes
returns-clause-makes g c =
    let state = g.D.SectorDisk.state in record {
      too_small = grind arith;
      untouched = grind arith;
      no_other = grind arith;
      counts = grind arith;
      run = λ honest. subst (λ n. Run (InStore n) (state c.args.disk.now) (state c.begin-2.new.disk)) c.in_ok-slots.ensures.value
          (store_run c.in_ok-slots.slots (state c.args.disk.now) (state c.begin.new.disk) (state c.begin-2.new.disk)
          (c.begin.ensures.writes.run honest) (c.begin-2.ensures.writes.run (c.begin.ensures.writes.counts.honest ∙ honest)));
    }

pub returns-clause-images : goal.returns-clause-images
returns-clause-images g c = λ honest none.
    let state = g.D.SectorDisk.state in
    let still = c.begin.ensures.writes.counts.honest ∙ honest in
    let first = c.begin.ensures.writes.run honest in
    subst (λ n. Each (state c.args.disk.now) (state c.begin-2.new.disk) (NothingOr n (kept c.args.count (jobs_of c.args.table.now))))
    c.in_ok-slots.ensures.value
    (all_begun c.in_ok-slots.slots c.args.count (jobs_of c.args.table.now) (state c.args.disk.now) (state c.begin.new.disk)
    (state c.begin-2.new.disk) first none (c.begin.ensures.jobs honest (grind arith)) (c.begin-2.ensures.writes.run still)
    (c.begin-2.ensures.images still (still_unsealed c.in_ok-slots.slots 0 (state c.args.disk.now) (state c.begin.new.disk) (omega arith)
    first none.0) (still_unsealed c.in_ok-slots.slots 2 (state c.args.disk.now) (state c.begin.new.disk) (omega arith) first none.1)))

pub returns-clause-begun : goal.returns-clause-begun
returns-clause-begun g c = λ honest none ok i image.
    let state = g.D.SectorDisk.state in
    let still = c.begin.ensures.writes.counts.honest ∙ honest in
    let run = c.begin-2.ensures.writes.run still in
    let went : IsOk c.begin-2.result = grind arith in
    let value = c.begin-2.ensures.value still (still_unsealed c.in_ok-slots.slots 2 (state c.args.disk.now) (state c.begin.new.disk)
    (omega arith) (c.begin.ensures.writes.run honest) none.1) went i image in
    subst (λ n. stands_for n i ≡ Some (kept c.args.count (jobs_of c.args.table.now))) c.in_ok-slots.ensures.value
    (both c.in_ok-slots.slots i c.args.count (jobs_of c.args.table.now) value
    (jobs_stay c.in_ok-slots.slots (jobs_of c.args.table.now) (state c.begin.new.disk) (state c.begin-2.new.disk)
    (c.begin.ensures.jobs honest (grind arith)) run i (run.ends i image)))

pub returns-clause-sound : goal.returns-clause-sound
returns-clause-sound g c = λ honest ok now i image.
    let state = g.D.SectorDisk.state in
    let still = c.begin.ensures.writes.counts.honest ∙ honest in
    subst (λ n. IsSoundImage n i) c.in_ok-slots.ensures.value
    (sound_stays c.in_ok-slots.slots (state c.begin.new.disk) (state c.begin-2.new.disk)
    (c.begin.ensures.sound honest (grind arith) still) (c.begin-2.ensures.writes.run still) i image)

pub returns-clause-synced : goal.returns-clause-synced
returns-clause-synced g c = λ honest ok. c.begin-2.ensures.synced (c.begin.ensures.writes.counts.honest ∙ honest) (grind arith)
