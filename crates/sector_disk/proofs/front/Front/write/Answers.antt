use Rattle.std.proofs.Common.{Bool, Some, [], ◌+◌, ◌-◌, length, refl, ℕ, List, subst, ◌<◌, ◌∙◌, sym, ap, set, replicate, arith}
use Rattle.std.proofs.lemmas.List.{get_or_default}
use Rattle.std.proofs.lemmas.Option.{slice_get_read}
use Rattle.sector_disk.proofs.Paddings.{is_kept, on, written, zeros_written}
use Rattle.sector_disk.proofs.Shorts.{room_set, short_more}
use Rattle.sector_disk.specs.Shorts.{IsShort}
use Rattle.sector_disk.proofs.front.Front.write.Goals as goal

within : (c : goal.After-self-2-1) → c.args.at < c.self.inside.count
within c = on c.self.inside.kept.items c.self.inside.count c.args.at c.args.self.now c.self.invariant.0 c.self.view_is c.requires

pub invariant_of-self : goal.invariant_of-self
invariant_of-self c =
    let inside = c.self.inside in
    let inv = c.self.invariant in
    room_set inside.kept.items c.keep.new.kept.items inside.short.items inside.count c.args.at inside.kept.cap c.keep.new.kept.cap
    c.put.new.sector c.is_short-short.result inv.0 inv.1 inv.2 inv.3 (within c) c.keep.ensures.kept c.keep.ensures.room (λ yes.
    subst (λ (s : List ℕ). IsShort s) (sym c.put.ensures) (c.is_short-short.ensures yes))

pub put-requires-clause-old : goal.put-requires-clause-old
put-requires-clause-old c = λ flagged.
    let inside = c.self.inside in
    let inv = c.self.invariant in
    let here = on inside.kept.items inside.count c.args.at c.args.self.now inv.0 c.self.view_is c.requires in
    let is = slice_get_read inside.short.items (length inside.short.items) c.args.at c.index.result.now refl (omega (
      arith,
      here,
      inv.2,
    )) c.index.ensures ∙ ap (λ (b : Bool). Some b) flagged in
    let now = c.keep.new.kept.items in
    subst (λ (s : List ℕ). IsShort s) (sym (c.index_mut.ensures.value
    ∙ get_or_default now c.args.at c.index_mut.result.now [] (is_kept inside.kept.items now c.args.at c.keep.ensures.kept)))
    (short_more inside.kept.items now inside.short.items (c.args.at + 1 - length inside.kept.items) inv.3 c.keep.ensures.kept c.args.at is)

pub returns-then-is_zero : goal.returns-then-is_zero
returns-then-is_zero c =
    let inside = c.self.inside in
    sym c.self.view_is
    ∙ zeros_written inside.kept.items inside.count c.args.at
    (omega (arith, c.if-at-len.true, c.len.ensures, inside.kept.ok.0))
    (on inside.kept.items inside.count c.args.at c.args.self.now c.self.invariant.0 c.self.view_is c.requires)
    ∙ ap (λ l. set l c.args.at (replicate 512 0)) c.self.view_is
    ∙ ap (set c.args.self.now c.args.at) (sym (c.is_zero.ensures.0 c.if-is_zero.true))

pub returns : goal.returns
returns c =
    written c.self.inside.kept.items c.keep.new.kept.items c.self.inside.count c.args.at c.put.new.sector c.self.invariant.0 (within c)
    c.keep.ensures.kept
    ∙ ap (λ l. set l c.args.at c.put.new.sector) c.self.view_is
    ∙ ap (set c.args.self.now c.args.at) c.put.ensures
