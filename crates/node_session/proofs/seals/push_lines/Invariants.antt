use Rattle.std.proofs.Common.{◌≡◌, ◌++◌, length}
use Rattle.line_words.specs.Lines.{lines_of}
use Rattle.node_session.specs.Seals.{numbered, sealed_lines}
use Rattle.node_session.proofs.seals.push_lines.Given as goal

abbrev pub invariant-loop-line : goal.invariant-loop-line
invariant-loop-line l = record {
  text : l.text.items ++ sealed_lines l.fn.keys l.fn.life l.number (lines_of l.left)
      ≡ l.fn.text.items ++ sealed_lines l.fn.keys l.fn.life l.fn.number (lines_of l.fn.plain);
  number : numbered l.fn.life l.number (lines_of l.left) ≡ numbered l.fn.life l.fn.number (lines_of l.fn.plain);
}

abbrev pub decreases-loop-line : goal.decreases-loop-line
decreases-loop-line l = length l.left
