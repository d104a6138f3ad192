use Rattle.std.proofs.Common.{sym, ◌∙◌}
use Rattle.trace_console.proofs.Answered.{first_at, silent_first}
use Rattle.trace_console.proofs.answers.first_false.Goals as goal

pub returns-then-is_silent : goal.returns-then-is_silent
returns-then-is_silent c = silent_first c.args.trace.now c.args.told.now c.args.order.now (c.is_silent.ensures.0 c.if-is_silent.true)

pub returns-then-is_some : goal.returns-then-is_some
returns-then-is_some c =
    first_at c.args.trace.now c.args.told.now c.args.order.now c.loop-turn.turn c.in_ok-found.found (sym c.is_some.ensures
    ∙ c.if-is_some.true) c.in_ok-found.ensures c.loop-turn.invariant.so
