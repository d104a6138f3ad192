use Rattle.std.proofs.Common.{◌≡◌, ◌+◌, ◌∷◌, [], ◌++◌, ◌∙◌, ap, length, subst, arith}
use Rattle.std.proofs.lemmas.List.{length_push}
use Rattle.sector_disk.specs.Noted.{Noted}
use Rattle.sector_disk.proofs.Parts.{follow_within, last_below, noted, noted-note}
use Rattle.sector_disk.proofs.notes.Notes.add.Goals as goal

pub invariant_of-self-2 : goal.invariant_of-self-2
invariant_of-self-2 c =
    let i = c.self.inside in
    let was = c.self.invariant in
    let now = c.push.new.self.items in
    let long : length now ≡ length i.notes.items + 1 = ap length c.in_ok-push.ensures.items ∙ length_push i.notes.items c.args.note in
    record {
      closed = was.closed;
      follow = follow_within 0 i.ends.items (length i.notes.items)
          (length now) was.follow (omega (arith, long, last_below 0 i.ends.items (length i.notes.items) was.follow));
      within = omega (arith, long, was.within);
    }

pub returns-clause-ok : goal.returns-clause-ok
returns-clause-ok c = λ ok.
    let i = c.self.inside in
    subst (λ (n : Noted). noted i.ends.items i.closed c.push.new.self.items
    ≡ record n { since = n.since ++ c.args.note ∷ [] }) c.self.view_is
    (noted-note i.ends.items i.closed i.notes.items c.push.new.self.items c.args.note c.self.invariant.follow c.self.invariant.within
    c.in_ok-push.ensures.items)
