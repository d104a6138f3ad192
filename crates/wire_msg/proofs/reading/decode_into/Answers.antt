use Rattle.std.proofs.Common.{not, refl, ap, sym, ◌∙◌, arith}
use Rattle.wire_msg.proofs.Frames.{some_read, none_read}
use Rattle.wire_msg.proofs.Messages.{message_takes, none_reads, one_reads}
use Rattle.wire_msg.proofs.reading.decode_into.Goals as goal

pub returns-clause-read : goal.returns-clause-read
returns-clause-read c =
    message_takes c.args.bytes.now c.read.new.self (λ i. omega (arith, c.type_inv.bytes i))
    (sym (some_read c.read.result c.read.new.self _ (c.is_none.ensures ∙ ap not c.if-is_none.false) c.read.ensures))

pub returns-clause-only : goal.returns-clause-only
returns-clause-only c = λ m s. (
  refl,
  one_reads c.args.bytes.now m c.read.new.self (some_read c.read.result c.read.new.self _ (c.is_none.ensures
      ∙ ap not c.if-is_none.false) c.read.ensures) s,
)

pub returns-then-is_none-clause-only : goal.returns-then-is_none-clause-only
returns-then-is_none-clause-only c = λ m s. absurd (none_reads c.args.bytes.now
    (none_read c.read.result c.read.new.self _ (c.is_none.ensures ∙ ap not c.if-is_none.true) c.read.ensures) m s)
