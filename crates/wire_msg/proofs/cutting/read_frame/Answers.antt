use Rattle.std.proofs.Common.{sym, ◌∙◌, arith}
use Rattle.wire_msg.proofs.Frames.{some_read, none_read}
use Rattle.wire_msg.proofs.Messages.{message_takes, none_reads}
use Rattle.wire_msg.proofs.cutting.read_frame.Goals as goal

pub returns-clause-read : goal.returns-clause-read
returns-clause-read c = λ h.
    message_takes c.args.frame.now c.read.new.self (λ i. omega (arith, c.type_inv.frame i))
    (sym (some_read c.read.result c.read.new.self _ (sym c.is_some.ensures ∙ h) c.read.ensures))

pub returns-clause-bad : goal.returns-clause-bad
returns-clause-bad c = λ h. none_reads c.args.frame.now (none_read c.read.result c.read.new.self _ (sym c.is_some.ensures
    ∙ h) c.read.ensures)
