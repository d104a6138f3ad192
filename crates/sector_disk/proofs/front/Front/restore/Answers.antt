use Rattle.std.proofs.Common.{false, ◌<◌, ◌∙◌, ap, set}
use Rattle.std.proofs.lemmas.Bool.{false≢true}
use Rattle.sector_disk.proofs.Paddings.{on, written}
use Rattle.sector_disk.proofs.Shorts.{room_set}
use Rattle.sector_disk.proofs.front.Front.restore.Goals as goal

within : (c : goal.After-self-2-1) → c.args.at < c.self.inside.count
within c = on c.self.inside.kept.items c.self.inside.count c.args.at c.args.self.now c.self.invariant.0 c.self.view_is c.requires

pub invariant_of-self : goal.invariant_of-self
invariant_of-self c =
    let inside = c.self.inside in
    let inv = c.self.invariant in
    room_set inside.kept.items c.keep.new.kept.items inside.short.items inside.count c.args.at inside.kept.cap c.keep.new.kept.cap
    c.restore.new.sector false inv.0 inv.1 inv.2 inv.3 (within c) c.keep.ensures.kept c.keep.ensures.room (λ no. absurd (false≢true no))

pub returns : goal.returns
returns c =
    written c.self.inside.kept.items c.keep.new.kept.items c.self.inside.count c.args.at c.restore.new.sector c.self.invariant.0 (within c)
    c.keep.ensures.kept
    ∙ ap (λ l. set l c.args.at c.restore.new.sector) c.self.view_is
    ∙ ap (set c.args.self.now c.args.at) c.restore.ensures
