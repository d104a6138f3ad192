use Rattle.std.proofs.Common.{◌≡◌, ◌<◌, ⊎_elim, ◌∙◌, ap, sym, subst, ℕ, List, [], set, drop, length, arith}
use Rattle.std.proofs.lemmas.List.{length-set, get_or-set_same, get_or-set_other}
use Rattle.std.proofs.lemmas.Bool.{cases_lt}
use Rattle.sector_disk.specs.Disk.{Image, sector_at}
use Rattle.sector_disk.specs.Crash.{filled, torn_at}
use Rattle.sector_disk.proofs.Calls.{fill_after, torn_yes}
use Rattle.sector_disk.proofs.memory.tear.Goals as goal

pub loop-at-preserved : goal.loop-at-preserved
loop-at-preserved c =
    let at = c.loop-at.at in
    let sectors = c.loop-at.sectors in
    let initial = c.args.sectors.now in
    let unsynced = c.args.unsynced.now in
    let fill = c.args.fill.now in
    let so_far = c.loop-at.invariant in
    let on : at < length sectors = omega (arith, so_far.size) in
    let flag : at < length unsynced = omega (arith, so_far.size) in
    let sector = filled c.loop-at.rest.now (sector_at sectors at) in
    let torn : sector ≡ torn_at unsynced fill at (sector_at initial at) =
    ap (λ (l : List ℕ). filled l (sector_at sectors at)) so_far.left
    ∙ sym (torn_yes unsynced fill (sector_at sectors at) at c.if-not-unsynced-at.false)
    ∙ ap (torn_at unsynced fill at) (so_far.ahead at (omega arith)) in
    let now = c.fill_from-rest.new.self in
    let is : now ≡ set sectors at sector = c.fill_from-rest.ensures.torn in
    record {
      size = ap length is ∙ length-set sectors at sector ∙ so_far.size;
      left = c.fill_from-rest.ensures.rest ∙ ap (λ (l : List ℕ). drop 512 l) so_far.left
          ∙ fill_after unsynced fill at flag c.if-not-unsynced-at.false;
      behind = λ k below. ap (λ (s : Image). sector_at s k) is ∙ ⊎_elim
          (λ before. get_or-set_other sectors at k sector [] (omega (arith, before)) ∙ so_far.behind k before)
          (λ here.
          let same : k ≡ at = omega (arith, here, below) in
          subst (λ j. sector_at (set sectors at sector) j ≡ torn_at unsynced fill j (sector_at initial j)) (sym same)
          (get_or-set_same sectors at sector [] on ∙ torn))
          (cases_lt k at);
      ahead = λ k above. ap (λ (s : Image). sector_at s k) is ∙ get_or-set_other sectors at k sector [] (omega (arith, above))
          ∙ so_far.ahead k (omega (arith, above));
    }
