use Rattle.std.proofs.Common.{◌≡◌, ◌<◌, ◌≤◌, ℕ, length}
use Rattle.sector_disk.specs.Disk.{sector_at}
use Rattle.sector_disk.specs.Crash.{fill_at, torn_at}
use Rattle.sector_disk.proofs.memory.tear.Given as goal

abbrev pub invariant-loop-at : goal.invariant-loop-at
invariant-loop-at l = record {
  size : length l.sectors ≡ length l.initial.sectors;
  left : l.rest ≡ fill_at l.unsynced l.at l.fill;
  behind : (k : ℕ) → k < l.at → sector_at l.sectors k ≡ torn_at l.unsynced l.fill k (sector_at l.initial.sectors k);
  ahead : (k : ℕ) → l.at ≤ k → sector_at l.sectors k ≡ sector_at l.initial.sectors k;
}
