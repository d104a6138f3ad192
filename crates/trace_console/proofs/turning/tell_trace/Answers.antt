use Rattle.std.proofs.Common.{rules}
use Rattle.trace_console.proofs.turning.tell_trace.Goals as goal

pub returns-clause-printed : goal.returns-clause-printed
returns-clause-printed c = record {
  verdict = c.in_ok-examined.examined.verdict;
  is_verdict = c.in_ok-examined.ensures.verdict;
  decides = c.in_ok-examined.ensures.decides;
  taken = c.in_ok-examined.examined.taken.items;
  are_taken = c.in_ok-examined.ensures.taken;
  left = c.in_ok-examined.examined.left.items;
  are_left = c.in_ok-examined.ensures.left;
  found = c.in_ok-found.found;
  compared = c.in_ok-found.ensures;
  good = search rules;
  tells = c.in_ok-text.ensures;
}
