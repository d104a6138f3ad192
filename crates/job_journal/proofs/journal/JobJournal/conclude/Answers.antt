use Rattle.job_journal.proofs.Common.{◌≤◌, ◌+◌, length, sym, subst, arith, Admitted}
use Rattle.job_journal.proofs.Commands.{leaves_room}
use Rattle.job_journal.proofs.journal.JobJournal.conclude.Goals as goal

pub invariant_of-self-2 : goal.invariant_of-self-2
invariant_of-self-2 c =
    let is = c.self.invariant in
    let can = subst (λ w. Admitted w c.args.command) (sym c.self.view_is) c.requires.admitted in
    let fits = subst (λ t. (c.self.inside.slots ≤ t.room) × (length t.pending + 2 ≤ c.self.inside.slots)) (sym c.apply.ensures.table)
    (is.room, leaves_room _ _ c.args.command is.pending can.fits) in
    record {
      least = is.least;
      most = is.most;
      used = omega (arith, can.free);
      cell = is.cell;
      present = is.present;
      room =
          fits.0;
      pending = fits.1;
      whole = is.whole;
    }
