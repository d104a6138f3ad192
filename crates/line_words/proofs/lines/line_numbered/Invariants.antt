use Rattle.std.proofs.Common.{◌≡◌}
use Rattle.line_words.specs.Lines.{line_numbered, lines_of}
use Rattle.line_words.proofs.lines.line_numbered.Given as goal

abbrev pub invariant-loop-number : goal.invariant-loop-number
invariant-loop-number l = record {
  same : line_numbered l.number (lines_of l.left) ≡ line_numbered l.fn.number (lines_of l.text);
}

abbrev pub decreases-loop-number : goal.decreases-loop-number
decreases-loop-number l = l.number
