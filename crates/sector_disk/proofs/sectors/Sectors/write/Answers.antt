use Rattle.std.proofs.Common.{◌∙◌, ◌++◌, ◌-◌, ap, set, arith}
use Rattle.sector_disk.proofs.Halves.{set_low, set_high}
use Rattle.sector_disk.proofs.sectors.Sectors.write.Goals as goal

pub returns-then-at-below : goal.returns-then-at-below
returns-then-at-below c =
    ap (λ l. l ++ c.self.inside.high) c.write.ensures
    ∙ set_low c.self.inside.low c.self.inside.high c.args.at c.args.from.now (omega (arith, c.if-at-below.true, c.len-below.ensures))
    ∙ ap (λ l. set l c.args.at c.args.from.now) c.self.view_is

pub returns-else-at-below : goal.returns-else-at-below
returns-else-at-below c =
    ap (λ l. c.self.inside.low ++ l) (c.write-else-at-below.ensures
    ∙ ap (λ k. set c.self.inside.high (c.args.at - k) c.args.from.now) c.len-below.ensures)
    ∙ set_high c.self.inside.low c.self.inside.high c.args.at c.args.from.now (omega (arith, c.if-at-below.false, c.len-below.ensures))
    ∙ ap (λ l. set l c.args.at c.args.from.now) c.self.view_is
