use Rattle.std.proofs.Common.{subst}
use Rattle.std.proofs.lemmas.Result.{on_ok_weaker}
use Rattle.wire_msg.specs.Spelling.{AreBytes}
use Rattle.trace_text.proofs.writing.write_work.Goals as goal

pub returns-clause-fits : goal.returns-clause-fits
returns-clause-fits c =
    on_ok_weaker c.write_rank.result (λ h. record {
      queue = h.0;
      priority = h.1;
      payload = c.as_slice.ensures.fits;
      bytes = subst AreBytes c.as_slice.ensures.value c.in_ok-write_bytes.ensures.fits;
    }) c.write_rank.ensures.fits
