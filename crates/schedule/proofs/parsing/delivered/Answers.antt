use Rattle.std.proofs.Common.{arith}
use Rattle.schedule.proofs.Delivered.{delivers}
use Rattle.schedule.proofs.parsing.delivered.Goals as goal

pub returns-in-100 : goal.returns-in-100
returns-in-100 c =
    delivers c.args.line.now c.number.result c.in-100.len_at_least (omega arith) (omega arith) (omega arith) (omega arith) (omega arith)
    (omega arith) (omega arith) (omega arith)
    c.number.ensures
