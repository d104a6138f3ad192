use Rattle.std.proofs.Common.{◌≡◌, ℕ, ◌-◌, drop, replicate, sym, subst, arith}
use Rattle.std.proofs.lemmas.List.{drop_all, length-take}
use Rattle.sector_disk.proofs.Bytes.{trim_step, trim_done}
use Rattle.sector_disk.proofs.sector.trimmed.Goals as goal
use Rattle.sector_disk.proofs.sector.trimmed.Goals.{then-is_zero_block, else-is_zero_block}

pub loop-block-init : goal.loop-block-init
loop-block-init c = (omega arith, omega arith, omega arith, drop_all 512 c.args.sector.now (omega (arith, c.told-sector)))

pub loop-block-preserved : goal.loop-block-preserved
loop-block-preserved c =
    let h = c.loop-block.invariant in
    let room = h.1 in
    elim c.if-is_zero_block.branch [
      | then-is_zero_block w ↦ (
        omega (arith, w.len-is, h.0),
        omega (arith, w.len-is, room),
        omega (arith, c.loop-block-test.true),
        subst (λ (n : ℕ). drop n c.args.sector.now ≡ replicate (512 - n) 0) (sym w.len-is)
            (trim_step c.args.sector.now c.loop-block.len c.loop-block.block c.told-sector (omega (
              arith,
              room,
            )) h.0 (c.is_zero_block.ensures.zeros w.if-is_zero_block.true) h.3),
      )
      | else-is_zero_block w ↦ (
        omega (arith, w.len-is, h.0),
        omega (arith, w.len-is, room),
        omega (arith, c.loop-block-test.true),
        subst (λ (n : ℕ). drop n c.args.sector.now ≡ replicate (512 - n) 0) (sym w.len-is) h.3,
      )
    ]

pub returns-clause-least : goal.returns-clause-least
returns-clause-least c =
    let size = length-take c.loop-block.len c.args.sector.now in
    let room = c.loop-block.invariant.1 in
    let block = c.loop-block.invariant.2 in
    omega (arith, size, room, block, c.told-sector, c.loop-block.invariant.0)

pub returns-clause-whole : goal.returns-clause-whole
returns-clause-whole c = trim_done c.args.sector.now c.loop-block.len c.loop-block.invariant.0 c.told-sector c.loop-block.invariant.3
