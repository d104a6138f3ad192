use Rattle.std.proofs.Common.{◌≡◌, ◌∙◌, ◌+◌, ◌-◌, ◌++◌, ◌/◌, ap, replicate, arith}
use Rattle.std.proofs.lemmas.List.{replicate-append-replicate}
use Rattle.sector_disk.proofs.sectors.Sectors.zeros.Goals as goal

pub returns : goal.returns
returns c =
    let half = c.args.count / 2 in
    let rest = c.args.count - half in
    let both : half + rest ≡ c.args.count = omega (arith) in
    ap (λ l. l ++ c.in_ok-high.high) c.in_ok-low.ensures
    ∙ ap (λ l. replicate half (replicate 512 0) ++ l) c.in_ok-high.ensures
    ∙ replicate-append-replicate half rest (replicate 512 0)
    ∙ ap (λ k. replicate k (replicate 512 0)) both
