use Rattle.std.proofs.Common.{◌≡◌, ◌+◌, ◌≤◌, length}
use Rattle.line_words.specs.Lines.{lines_of}
use Rattle.schedule.specs.Text.{acts_from, behind}
use Rattle.schedule.specs.declared.size.TheConstants.{MOST_ACTS}
use Rattle.schedule.proofs.reading.read_acts.Given as goal

abbrev pub invariant-loop-line : goal.invariant-loop-line
invariant-loop-line l = record {
  few : length l.acts.items ≤ MOST_ACTS;
  counted : l.number + length l.left ≤ l.before + length l.text;
  rest_read : behind l.acts.items (acts_from l.number (length l.acts.items) (lines_of l.left)) ≡ acts_from l.before 0 (lines_of l.text);
}

abbrev pub decreases-loop-line : goal.decreases-loop-line
decreases-loop-line l = length l.left
