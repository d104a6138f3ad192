use Rattle.std.proofs.Common.{◌∙◌}
use Rattle.trace_check.specs.Traces.{claim_seen}
use Rattle.trace_text.specs.Fits.{ClaimFits}
use Rattle.trace_text.proofs.Printing.{entries_more, each_more}
use Rattle.trace_text.proofs.writing.write_history.Goals as goal

pub loop-place-preserved : goal.loop-place-preserved
loop-place-preserved c = (
  c.in_ok-write_entry.ensures.text.before ∙ c.loop-place.invariant.0,
  entries_more c.loop-place.out.tokens c.write_entry.new.out.tokens c.args.history.now c.loop-place.place (claim_seen c.in-Some.entry)
      c.in-Some.ensures.some c.in_ok-write_entry.ensures.text.tokens
      ∙ c.loop-place.invariant.1,
  λ rest. c.loop-place.invariant.2 (each_more ClaimFits c.args.history.now c.loop-place.place (claim_seen c.in-Some.entry)
      c.in-Some.ensures.some c.in_ok-write_entry.ensures.fits rest),
)
