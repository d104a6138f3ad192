use Rattle.std.proofs.Common.{◌∙◌, arith}
use Rattle.lease_message.proofs.Messages.{read_spelled, spelled_reads}
use Rattle.lease_message.proofs.reading.decode.Goals as goal

pub returns-clause-read : goal.returns-clause-read
returns-clause-read c = read_spelled c.args.bytes.now c.whole.result (λ i. omega (arith, c.type_inv.bytes i)) c.whole.ensures

pub returns-clause-only : goal.returns-clause-only
returns-clause-only c = λ m s. c.whole.ensures ∙ spelled_reads c.args.bytes.now m s
