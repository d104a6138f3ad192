use Rattle.std.proofs.Common.{take}
use Rattle.trace_check.specs.Searches.{PostsAll}
use Rattle.trace_check.proofs.search.post_all.Given as goal

abbrev pub invariant-loop-place : goal.invariant-loop-place
invariant-loop-place l = PostsAll l.stopped l.initial.posted l.posted l.initial.ready l.ready (take l.place l.sent)
