use Rattle.std.proofs.Common.{◌≡◌, ◌≤◌, ◌∷◌, [], ◌++◌, length, drop, subst, IfSome, arith}
use Rattle.sector_disk.specs.Noted.{Noted}
use Rattle.sector_disk.specs.Times.{FollowFrom, times_from}
use Rattle.sector_disk.proofs.Parts.{follow_within, length-pop, noted-pop}
use Rattle.sector_disk.proofs.notes.Notes.pop.Goals as goal

-- the times that are over keep theirs
stays : (c : goal.After-pop) → c.self.inside.closed ≤ length c.pop.new.self.items
stays c =
    let i = c.self.inside in
    omega (
      arith,
      c.self.invariant.within,
      c.if-len-self.false,
      c.len.ensures,
      i.notes.ok.0,
      length-pop i.notes.items c.pop.new.self.items c.pop.result c.pop.ensures.items,
    )

follows : (c : goal.After-pop) → FollowFrom 0 c.self.inside.ends.items (length c.pop.new.self.items)
follows c =
    let i = c.self.inside in
    follow_within 0 i.ends.items (length i.notes.items) (length c.pop.new.self.items) c.self.invariant.follow
    (subst (λ k. k ≤ length c.pop.new.self.items) c.self.invariant.closed (stays c))

pub invariant_of-self : goal.invariant_of-self
invariant_of-self c = record { closed = c.self.invariant.closed; follow = follows c; within = stays c }

pub returns-clause-some : goal.returns-clause-some
returns-clause-some c =
    let i = c.self.inside in
    let now = c.pop.new.self.items in
    subst (λ (n : Noted). IfSome c.pop.result (λ note. (n.since ≡ drop i.closed now ++ note ∷ [])
    × (times_from 0 i.ends.items now ≡ n.times))) c.self.view_is
    (noted-pop i.ends.items i.closed i.notes.items now c.pop.result (follows c) (stays c) c.pop.ensures.items)
