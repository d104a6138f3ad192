use Rattle.std.proofs.Common.{false, ◌≡◌, ◌<◌, ◌∙◌, [], ap, set}
use Rattle.std.proofs.lemmas.List.{get_or_default}
use Rattle.std.proofs.lemmas.Bool.{false≢true}
use Rattle.sector_disk.proofs.Paddings.{on, held, is_kept, written}
use Rattle.sector_disk.specs.Crash.{filled}
use Rattle.sector_disk.specs.Disk.{sector_at}
use Rattle.sector_disk.proofs.Shorts.{room_set}
use Rattle.sector_disk.proofs.front.Front.fill_from.Goals as goal

within : (c : goal.After-self-2-1) → c.args.at < c.self.inside.count
within c = on c.self.inside.kept.items c.self.inside.count c.args.at c.args.self.now c.self.invariant.0 c.self.view_is c.requires

pub invariant_of-self : goal.invariant_of-self
invariant_of-self c =
    let inside = c.self.inside in
    let inv = c.self.invariant in
    room_set inside.kept.items c.keep.new.kept.items inside.short.items inside.count c.args.at inside.kept.cap c.keep.new.kept.cap
    c.fill_from-rest.new.sector false inv.0 inv.1 inv.2 inv.3 (within c) c.keep.ensures.kept c.keep.ensures.room (λ no.
    absurd (false≢true no))

pub returns-clause-torn : goal.returns-clause-torn
returns-clause-torn c =
    let before : c.index_mut.result.now ≡ sector_at c.args.self.now c.args.at =
    c.index_mut.ensures.value
    ∙ get_or_default c.keep.new.kept.items c.args.at c.index_mut.result.now []
    (is_kept c.self.inside.kept.items c.keep.new.kept.items c.args.at c.keep.ensures.kept)
    ∙ held c.self.inside.kept.items c.keep.new.kept.items c.self.inside.count c.args.at c.self.invariant.0 (within c) c.keep.ensures.kept
    ∙ ap (λ s. sector_at s c.args.at) c.self.view_is in
    written c.self.inside.kept.items c.keep.new.kept.items c.self.inside.count c.args.at c.fill_from-rest.new.sector c.self.invariant.0
    (within c) c.keep.ensures.kept
    ∙ ap (λ l. set l c.args.at c.fill_from-rest.new.sector) c.self.view_is
    ∙ ap (set c.args.self.now c.args.at) (c.fill_from-rest.ensures.torn ∙ ap (filled c.args.fill.now) before)
