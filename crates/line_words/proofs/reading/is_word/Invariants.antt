use Rattle.std.proofs.Common.{◌≡◌, ◌-◌, ◌≤◌, drop, length, bytes_eq}
use Rattle.line_words.proofs.reading.is_word.Given as goal

abbrev pub invariant-loop-place : goal.invariant-loop-place
invariant-loop-place l = (l.place ≤ length l.name) × (bytes_eq (drop l.place l.word) (drop l.place l.name) ≡ bytes_eq l.word l.name)

abbrev pub decreases-loop-place : goal.decreases-loop-place
decreases-loop-place l = length l.name - l.place
