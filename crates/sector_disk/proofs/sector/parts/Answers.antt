use Rattle.std.proofs.Common.{ℕ, ◌∙◌, ◌<◌, ◌-◌, ap, length, replicate, subst}
use Rattle.std.specs.Option.{MatchOption}
use Rattle.std.specs.Array.{IsFirstChunk}
use Rattle.sector_disk.specs.Shorts.{IsShort}
use Rattle.sector_disk.specs.Undo.{whole}
use Rattle.sector_disk.proofs.Bytes.{short_alone, last_of_long}
use Rattle.sector_disk.proofs.sector.parts.Goals as goal
use Rattle.sector_disk.proofs.sector.parts.Goals.{then-short-via-then-short, then-short-via-else-short+then-is_short}

pub returns-then-short : goal.returns-then-short
returns-then-short c =
    let sector = c.args.sector.now in
    let is : IsShort sector = elim c.then-short.branch [
      | then-short-via-then-short w ↦ c.requires w.if-short.true
      | then-short-via-else-short+then-is_short w ↦ w.is_short.ensures w.if-is_short.true
    ] in
    let first = subst (λ o. MatchOption o (length sector < 32) (λ y. IsFirstChunk sector y.now 32)) c.unwrap-first.ensures
    c.first_chunk.ensures.cases in
    short_alone sector c.unwrap-first.result.now c.told-sector first.same (is ∙ ap (λ (n : ℕ). replicate (n - 32) 0) c.told-sector)

pub returns : goal.returns
returns c = ap whole (last_of_long c.unwrap-first.result.now c.trimmed.result.now c.trimmed.ensures.least) ∙ c.trimmed.ensures.whole
