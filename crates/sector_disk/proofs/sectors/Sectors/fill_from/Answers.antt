use Rattle.std.proofs.Common.{◌<◌, ◌≤◌, ◌∙◌, ◌++◌, ◌-◌, ap, set, length, arith}
use Rattle.sector_disk.specs.Crash.{filled}
use Rattle.sector_disk.specs.Disk.{sector_at}
use Rattle.sector_disk.proofs.Halves.{set_low, set_high, at_low, at_high}
use Rattle.sector_disk.proofs.sectors.Sectors.fill_from.Goals as goal

pub returns-then-at-below-clause-torn : goal.returns-then-at-below-clause-torn
returns-then-at-below-clause-torn c =
    let low = c.self.inside.low in
    let high = c.self.inside.high in
    let on : c.args.at < length low = omega (arith, c.if-at-below.true, c.len-below.ensures) in
    ap (λ l. l ++ high) (c.fill_from.ensures.torn ∙ ap (λ s. set low c.args.at (filled c.args.fill.now s)) (at_low low high c.args.at on))
    ∙ set_low low high c.args.at (filled c.args.fill.now (sector_at (low ++ high) c.args.at)) on
    ∙ ap (λ l. set l c.args.at (filled c.args.fill.now (sector_at l c.args.at))) c.self.view_is

pub returns-else-at-below-clause-torn : goal.returns-else-at-below-clause-torn
returns-else-at-below-clause-torn c =
    let low = c.self.inside.low in
    let high = c.self.inside.high in
    let off : length low ≤ c.args.at = omega (arith, c.if-at-below.false, c.len-below.ensures) in
    ap (λ l. low ++ l)
    (c.fill_from-else-at-below.ensures.torn
    ∙ ap (λ k. set high (c.args.at - k) (filled c.args.fill.now (sector_at high (c.args.at - k)))) c.len-below.ensures
    ∙ ap (λ s. set high (c.args.at - length low) (filled c.args.fill.now s)) (at_high low high c.args.at off))
    ∙ set_high low high c.args.at (filled c.args.fill.now (sector_at (low ++ high) c.args.at)) off
    ∙ ap (λ l. set l c.args.at (filled c.args.fill.now (sector_at l c.args.at))) c.self.view_is
