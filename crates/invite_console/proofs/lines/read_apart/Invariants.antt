use Rattle.std.proofs.Common.{◌≡◌, ◌+◌, ◌≤◌, length, Some}
use Rattle.line_words.specs.Lines.{lines_of}
use Rattle.invite_console.specs.Lines.{hex_lines_from, hex_lines_of, joined}
use Rattle.invite_console.proofs.lines.read_apart.Given as goal

abbrev pub invariant-loop-line : goal.invariant-loop-line
invariant-loop-line l = record {
  counted : l.number + length l.left ≤ length l.input + 1;
  written : joined l.number (Some l.bytes.items) (hex_lines_from l.number (lines_of l.left)) ≡ hex_lines_of l.input;
}

abbrev pub decreases-loop-line : goal.decreases-loop-line
decreases-loop-line l = length l.left
