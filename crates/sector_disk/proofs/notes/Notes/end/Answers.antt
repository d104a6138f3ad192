use Rattle.std.proofs.Common.{◌≡◌, ◌∷◌, [], ◌++◌, ◌∙◌, ap, length, subst, sym, arith}
use Rattle.sector_disk.specs.Noted.{Noted}
use Rattle.sector_disk.specs.Times.{FollowFrom, last_from}
use Rattle.sector_disk.proofs.Parts.{follow-end, last-end, noted, noted-end}
use Rattle.sector_disk.proofs.notes.Notes.end.Goals as goal

-- the place where the time ends
here : (c : goal.After-self-1) → c.len-end.result ≡ length c.self.inside.notes.items
here c = c.len-end.ensures ∙ c.self.inside.notes.ok.0

ends : (c : goal.After-self-1) → c.push.new.self.items ≡ c.self.inside.ends.items ++ length c.self.inside.notes.items ∷ []
ends c = c.in_ok-push.ensures.items ∙ ap (λ k. c.self.inside.ends.items ++ k ∷ []) (here c)

pub invariant_of-self-2 : goal.invariant_of-self-2
invariant_of-self-2 c =
    let i = c.self.inside in
    let count = length i.notes.items in
    record {
      closed = here c ∙ sym (ap (λ l. last_from 0 l) (ends c) ∙ last-end 0 i.ends.items count);
      follow = subst (λ l. FollowFrom 0 l count) (sym (ends c)) (follow-end 0 i.ends.items count c.self.invariant.follow);
      within = omega (arith, here c);
    }

pub returns-clause-ok : goal.returns-clause-ok
returns-clause-ok c = λ ok.
    let i = c.self.inside in
    let now = c.push.new.self.items in
    ap (λ k. noted now k i.notes.items) (here c)
    ∙ subst (λ (n : Noted). noted now (length i.notes.items) i.notes.items
    ≡ record { times = n.times ++ n.since ∷ []; since = [] }) c.self.view_is
    (noted-end i.ends.items now i.closed i.notes.items c.self.invariant.closed (ends c))
