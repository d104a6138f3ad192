use Rattle.std.proofs.Common.{◌++◌, ◌∙◌, ap, List, ℕ, drop}
use Rattle.sector_disk.proofs.Shorts.{short_put}
use Rattle.sector_disk.proofs.sector.put.Goals as goal

pub returns-then-is_short : goal.returns-then-is_short
returns-then-is_short c =
    ap (λ (l : List ℕ). l ++ drop 32 c.args.sector.now) c.copy_from_slice.ensures.after
    ∙ short_put c.args.sector.now c.args.from.now c.told-sector c.told-from (c.requires.old c.if-was_short.true)
    (c.requires.new c.if-is_short.true)
