use Rattle.std.proofs.Common.{arith}
use Rattle.wire_msg.proofs.Messages.{headless}
use Rattle.wire_msg.proofs.reading.read.Goals as goal

pub returns-then-bytes-lt6-clause-value : goal.returns-then-bytes-lt6-clause-value
returns-then-bytes-lt6-clause-value c = headless c.args.bytes.now (λ i. omega (arith, c.type_inv.bytes i)) c.if-bytes-lt6.true
