use Rattle.std.proofs.Common.{◌-◌, ◌≤◌}
use Rattle.memchr.specs.Find.{is_byte, Nowhere, Passes}
use Rattle.line_words.proofs.places.first_place.Given as goal

abbrev pub invariant-loop-place : goal.invariant-loop-place
invariant-loop-place l = (l.place ≤ l.near) × Nowhere (Passes (is_byte l.byte) l.text) 0 l.place

abbrev pub decreases-loop-place : goal.decreases-loop-place
decreases-loop-place l = l.near - l.place
