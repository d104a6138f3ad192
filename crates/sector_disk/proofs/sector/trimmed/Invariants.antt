use Rattle.std.proofs.Common.{◌≡◌, ◌-◌, ◌*◌, ◌≤◌, drop, replicate}
use Rattle.sector_disk.proofs.sector.trimmed.Given as goal

abbrev pub invariant-loop-block : goal.invariant-loop-block
invariant-loop-block l = (l.len ≤ 512) × (2 * l.block ≤ l.len) × (16 ≤ l.block) × (drop l.len l.sector ≡ replicate (512 - l.len) 0)

abbrev pub decreases-loop-block : goal.decreases-loop-block
decreases-loop-block l = l.block
