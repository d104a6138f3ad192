use Rattle.std.proofs.Common.{◌≡◌, ◌+◌, ◌≤◌, length}
use Rattle.line_words.specs.Lines.{lines_of}
use Rattle.schedule.specs.Text.{script_from, script_of}
use Rattle.schedule.proofs.reading.read_schedule.Given as goal

abbrev pub invariant-loop-line : goal.invariant-loop-line
invariant-loop-line l = record {
  counted : l.before + length l.left ≤ length l.input;
  rest_read : script_from l.before (lines_of l.left) ≡ script_of l.input;
}

abbrev pub decreases-loop-line : goal.decreases-loop-line
decreases-loop-line l = length l.left
