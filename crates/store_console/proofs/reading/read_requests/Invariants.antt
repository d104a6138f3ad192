use Rattle.std.proofs.Common.{◌≡◌, ◌+◌, ◌≤◌, length}
use Rattle.line_words.specs.Lines.{lines_of}
use Rattle.store_console.specs.Requests.{requests_from, requests_of, behind}
use Rattle.store_console.proofs.reading.read_requests.Given as goal

abbrev pub invariant-loop-line : goal.invariant-loop-line
invariant-loop-line l = record {
  counted : l.number + length l.left ≤ length l.input;
  rest_read : behind l.requests.items (requests_from l.number (lines_of l.left)) ≡ requests_of l.input;
}

abbrev pub decreases-loop-line : goal.decreases-loop-line
decreases-loop-line l = length l.left
