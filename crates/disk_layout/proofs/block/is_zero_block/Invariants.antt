use Rattle.std.proofs.Common.{◌≡◌, take}
use Rattle.disk_layout.specs.Blank.{is_blank}
use Rattle.disk_layout.proofs.block.is_zero_block.Given as goal

abbrev pub invariant-loop-at : goal.invariant-loop-at
invariant-loop-at l = l.zeros ≡ is_blank (take l.at l.block)
