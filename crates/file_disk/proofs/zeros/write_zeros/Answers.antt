use Rattle.std.proofs.Common.{rules, arith, ◌≡◌, ◌+◌, ◌-◌, ◌≤◌, take, replicate}
use Rattle.std.proofs.lemmas.List.{take-replicate}
use Rattle.file_disk.proofs.Appended.{more_zeros}
use Rattle.file_disk.proofs.zeros.write_zeros.Goals as goal

pub loop-left-preserved : goal.loop-left-preserved
loop-left-preserved g c =
    let next = c.min-next.result in
    let (within, before) = c.loop-left.invariant in
    let fits : next ≤ 65536 = search rules in
    let some : next ≤ c.loop-left.left = search rules in
    let sum : c.args.count - c.loop-left.left + next ≡ c.args.count - (c.loop-left.left - next) = omega (arith, within, some) in (
      omega (arith, within),
      more_zeros _ _ _ _ next _ (take next (replicate 65536 0)) (take-replicate next 65536 0 fits) sum before
          c.in_ok-write_all.ensures.bytes,
    )
