use Rattle.std.proofs.Common.{◌+◌, ◌∙◌, subst, arith}
use Rattle.slot_gate.proofs.PublicLaws.{slot_kept}
use Rattle.safe_cell.specs.Cell.{IsDamaged}
use Rattle.safe_cell.proofs.ReadOnly.{reads_on}
use Rattle.safe_cell.proofs.Mountings.{answers_fault, answers_damaged_first, answers_damaged_second, answers_values}
use Rattle.safe_cell.proofs.mounting.mount.Goals as goal

pub returns-in_err-first-clause-answers_for : goal.returns-in_err-first-clause-answers_for
returns-in_err-first-clause-answers_for g c = λ honest aside.
    let contents = (g.D.SectorDisk.state c.args.disk.now).contents in
    answers_fault c.args.at c.args.at contents c.from_residual.result c.in_err-first.field-0.0 c.from_residual.ensures.1
    c.in_err-first.ensures.no_other aside
    (λ is. answers_damaged_first c.args.at contents (c.in_err-first.ensures.damaged honest is))

pub returns-in_err-second-clause-answers_for : goal.returns-in_err-second-clause-answers_for
returns-in_err-second-clause-answers_for g c = λ honest aside.
    let state = g.D.SectorDisk.state in
    let reads = c.read_slot.ensures.only_reads in
    let kept = slot_kept (state c.args.disk.now) (state c.read_slot.new.disk) (c.args.at + 2) (reads.run honest) in
    answers_fault c.args.at (c.args.at + 2) (state c.args.disk.now).contents c.from_residual-in_err-second.result c.in_err-second.field-0.0
    c.from_residual-in_err-second.ensures.1 c.in_err-second.ensures.no_other aside
    (λ is. answers_damaged_second c.args.at (state c.args.disk.now).contents c.in_ok-first.first (c.in_ok-first.ensures.read honest)
    (subst (λ s. IsDamaged s) kept (c.in_err-second.ensures.damaged (reads.counts.honest ∙ honest) is)))

pub returns-in_err-second-clause-only_reads : goal.returns-in_err-second-clause-only_reads
returns-in_err-second-clause-only_reads g c = reads_on _ _ _ _ _ _ (λ no. cc) (λ l. grind arith)
    (λ f. grind arith) c.in_ok-first.ensures.only_reads c.in_err-second.ensures.only_reads

pub returns : goal.returns
returns g c =
    let state = g.D.SectorDisk.state in
    let known = answers_values c.args.at (state c.args.disk.now) (state c.read_slot.new.disk)
    (state c.read_slot-2.new.disk) c.in_ok-first.first c.in_ok-second.second c.of_values.result
    c.in_ok-first.ensures.read c.in_ok-second.ensures.read c.read_slot.ensures.only_reads.counts.honest c.read_slot.ensures.only_reads.run
    c.read_slot-2.ensures.only_reads.run
    c.of_values.ensures.none c.of_values.ensures.place c.of_values.ensures.stands c.of_values.ensures.before in
    record {
      place = c.of_values.ensures.place;
      mounted = λ honest. (known honest).1;
      answers_for = λ honest aside. (known honest).0;
      stands = λ honest. (known honest).2;
      no_other = grind arith;
      only_reads = reads_on _ _ _ _ _ _ (λ no. cc) (λ l. cc) (λ f. grind arith) c.in_ok-first.ensures.only_reads
          c.in_ok-second.ensures.only_reads;
    }
