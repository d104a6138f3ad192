use Rattle.std.proofs.Common.{◌≡◌, ℕ, ◌<◌, slice_get}
use Rattle.link_ring.proofs.gathering.begins.Given as goal

-- so far both lists have the same messages
abbrev pub invariant-loop-place : goal.invariant-loop-place
invariant-loop-place l = (k : ℕ) → k < l.place → slice_get l.taken.messages k ≡ slice_get l.put.messages k
