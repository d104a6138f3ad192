use Rattle.job_journal.proofs.Common.{sym, ◌∙◌, ap, refl, arith, Some, record_of, bytes_of, records_for, jobs_of}
use Rattle.std.proofs.lemmas.Option.{slice_get-map}
use Rattle.std.specs.Prelude.{option_map}
use Rattle.job_journal.proofs.Changes.{writing_more, writing_run, written_fill}
use Rattle.job_journal.proofs.area.fill_area.Goals as goal

pub returns-in_err-fill_later-clause-writes : goal.returns-in_err-fill_later-clause-writes
returns-in_err-fill_later-clause-writes g c = record {
  answers = grind arith;
  counts = grind arith;
  run =
      writing_run (λ k is. (omega (arith, is), omega (arith, is))) c.loop-filled.invariant c.fill_later.ensures.writes.run;
}

pub loop-filled-preserved : goal.loop-filled-preserved
loop-filled-preserved g c =
    writing_more _ _ refl (λ k is. (omega (arith, is), omega (arith, is))) c.loop-filled.invariant c.in_ok-fill_later.ensures.writes.counts
    c.fill_later.ensures.writes.run
    (λ honest so_far. written_fill _ _ _ c.loop-filled.filled _ _ (c.fill_later.ensures.writes.run honest).contents
    (ap record_of (c.in_ok-fill_later.ensures.written honest refl) ∙ c.to_sector-body.ensures.read_back ∙ sym c.record_at.ensures)
    (ap (λ s. Some s) (c.in_ok-fill_later.ensures.written honest refl ∙ c.to_sector-body.ensures.bytes)
    ∙ sym (slice_get-map bytes_of (records_for (jobs_of c.args.table.now)) c.loop-filled.filled
    ∙ ap (λ o. option_map bytes_of o) c.record_at.ensures)) so_far)
