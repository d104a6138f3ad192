use Rattle.std.proofs.Common.{◌≡◌, ◌+◌, ◌<◌, ◌^◌, option_map}
use Rattle.threads_console.specs.Lines.{left_behind, length_left}
use Rattle.threads_console.proofs.lines.Lines.next.Given as goal

abbrev pub invariant-loop-self : goal.invariant-loop-self
invariant-loop-self l = record {
  same : left_behind l.self-inside.number (option_map (λ text. text.now) l.self-inside.left) ≡ l.fn.self;
  counted : l.self-inside.number + length_left (option_map (λ text. text.now) l.self-inside.left) + 1 < 2 ^ 64;
}

abbrev pub decreases-loop-self : goal.decreases-loop-self
decreases-loop-self l = length_left (option_map (λ text. text.now) l.self-inside.left)
