use Rattle.trace_check.specs.Followed.{IsFollowed, before}
use Rattle.trace_check.proofs.following.is_order.Given as goal

abbrev pub invariant-loop-turn : goal.invariant-loop-turn
invariant-loop-turn l = IsFollowed l.trace l.search (before l.order l.turn)
