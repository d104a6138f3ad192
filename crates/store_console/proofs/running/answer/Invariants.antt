use Rattle.std.proofs.Common.{length}
use Rattle.store_console.specs.Session.{GoesOn}
use Rattle.store_console.proofs.running.answer.Given as goal

abbrev pub invariant-loop-request : goal.invariant-loop-request
invariant-loop-request g l = GoesOn l.requests l.has_failed l.mounted l.left l.text.items l.why.items

abbrev pub decreases-loop-request : goal.decreases-loop-request
decreases-loop-request g l = length l.left
