use Rattle.std.proofs.Common.{◌≡◌, length}
use Rattle.line_words.specs.Lines.{lines_of}
use Rattle.invite_console.specs.Lines.{all_bytes, then_bytes}
use Rattle.invite_console.proofs.lines.read_together.Given as goal

abbrev pub invariant-lines : goal.invariant-lines
invariant-lines l = then_bytes l.digits (all_bytes (lines_of l.left)) ≡ all_bytes (lines_of l.input)

abbrev pub decreases-lines : goal.decreases-lines
decreases-lines l = length l.left
