use Rattle.std.proofs.Common.{◌≡◌, length}
use Rattle.invite_console.specs.Answer.{answers_to}
use Rattle.invite_console.proofs.Answering.{onward_over}
use Rattle.invite_console.proofs.answers.answers_to.Given as goal

abbrev pub invariant-loop-after : goal.invariant-loop-after
invariant-loop-after l = onward_over l.session l.left ≡ answers_to l.fn.id l.fn.nodes l.bytes

abbrev pub decreases-loop-after : goal.decreases-loop-after
decreases-loop-after l = length l.left
