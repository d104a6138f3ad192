use Rattle.std.proofs.Common.{◌-◌, ◌≡◌, ◌+◌, ◌≤◌, ◌<◌, ℕ, false, slice_index_or}
use Rattle.node_core.specs.declared.in_hand.InHand.{InHand}
use Rattle.node_core.specs.Held.{is_of}
use Rattle.node_core.proofs.hand.place_among.Given as goal

abbrev pub invariant-loop-low : goal.invariant-loop-low
invariant-loop-low l = record {
  near : l.low ≤ l.high + 1;
  within : l.high ≤ l.to;
  before : (k : ℕ) (d : InHand) → l.from ≤ k → k < l.low → is_of (slice_index_or l.jobs k d) l.origin l.id ≡ false;
  behind : (k : ℕ) (d : InHand) → l.high ≤ k → k < l.to → is_of (slice_index_or l.jobs k d) l.origin l.id ≡ false;
}

abbrev pub decreases-loop-low : goal.decreases-loop-low
decreases-loop-low l = l.high - l.low
