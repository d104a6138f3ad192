use Rattle.trace_check.specs.Claims.{Claim}
use Rattle.trace_check.specs.Traces.{claim_seen}
use Rattle.trace_text.specs.Fits.{HasName}
use Rattle.trace_text.proofs.Printing.{each_more}
use Rattle.trace_text.proofs.writable.is_named.Goals as goal

pub loop-place-preserved : goal.loop-place-preserved
loop-place-preserved c rest =
    c.loop-place.invariant (each_more (λ (k : Claim). HasName k.action) c.args.history.now c.loop-place.place (claim_seen c.in-Some.entry)
    c.in-Some.ensures.some (c.has_name.ensures.0 c.if-not-has_name.false) rest)
