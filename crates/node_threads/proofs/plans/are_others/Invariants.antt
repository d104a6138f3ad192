use Rattle.std.proofs.Common.{◌≡◌, ◌≢◌, ◌<◌, ℕ, slice_get, Some}
use Rattle.node_threads.proofs.plans.are_others.Given as goal

abbrev pub invariant-loop-place : goal.invariant-loop-place
invariant-loop-place l = (i j : ℕ) → i < l.place → slice_get l.polled i ≡ Some j → (l.fn.node ≢ j) × (j < l.fn.nodes)
