use Rattle.std.proofs.Common.{arith}
use Rattle.wire_msg.specs.Spelling.{AreBytes}
use Rattle.wire_msg.proofs.PublicLaws.{AreBytes-from_index}
use Rattle.trace_text.proofs.Printing.{if_ok}
use Rattle.trace_text.proofs.writing.write_bytes.Goals as goal

pub returns-clause-fits : goal.returns-clause-fits
returns-clause-fits c = if_ok c.string.result (AreBytes c.args.bytes.now)
    (AreBytes-from_index c.args.bytes.now (λ i. omega (arith, c.type_inv.bytes i)))
