use Rattle.std.proofs.Common.{◌≡◌, ◌≤◌, ◌+◌, ◌-◌, ◌++◌, length, replicate, vec_capacity}
use Rattle.sector_disk.proofs.front.keep.Given as goal

abbrev pub invariant-loop-kept : goal.invariant-loop-kept
invariant-loop-kept l = record {
  kept : l.kept.items ≡ l.initial.kept.items ++ replicate (length l.kept.items - length l.initial.kept.items) (replicate 512 0);
  needed : length l.kept.items - length l.initial.kept.items ≤ l.at + 1 - length l.initial.kept.items;
  more : length l.initial.kept.items ≤ length l.kept.items;
  room : vec_capacity l.kept ≡ vec_capacity l.initial.kept;
}

abbrev pub decreases-loop-kept : goal.decreases-loop-kept
decreases-loop-kept l = l.at + 1 - length l.kept.items
