use Rattle.std.proofs.Common.{◌≡◌, ◌∙◌, ◌-◌, ap, drop, length, length-drop, replicate, sym, arith}
use Rattle.std.proofs.lemmas.List.{take_all}
use Rattle.sector_disk.proofs.sector.is_short.Goals as goal

pub returns : goal.returns
returns c = λ short.
    let sector = c.args.sector.now in
    let rest = drop 32 sector in
    let size : length rest ≡ length sector - 32 = length-drop 32 sector in
    let all = take_all 480 rest (omega (arith, size, c.told-sector)) in
    sym all ∙ c.is_zero_block.ensures.zeros short ∙ ap (λ n. replicate n 0) (ap length all ∙ size)
