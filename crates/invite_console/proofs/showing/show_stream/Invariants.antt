use Rattle.std.proofs.Common.{◌≡◌, length}
use Rattle.console_text.specs.Ends.{before}
use Rattle.invite_console.specs.Show.{shown_of}
use Rattle.invite_console.proofs.showing.show_stream.Given as goal

abbrev pub invariant-loop-after : goal.invariant-loop-after
invariant-loop-after l = before l.text.items (shown_of l.left) ≡ shown_of l.bytes

abbrev pub decreases-loop-after : goal.decreases-loop-after
decreases-loop-after l = length l.left
