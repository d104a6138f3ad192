use Rattle.std.proofs.Common.{◌≡◌, ℕ, List, reverse, Option, subst}
use Rattle.std.specs.Prelude.{MatchOption}
use Rattle.trace_check.specs.declared.search.Search.{Search}
use Rattle.trace_check.specs.Claims.{Claim}
use Rattle.trace_check.specs.Orders.{IsComplete}
use Rattle.trace_check.specs.Searches.{AreAtPlaces, Rests}
use Rattle.trace_check.specs.Verdicts.{IsFirstLeft}
use Rattle.trace_check.proofs.checking.verdict.Goals as goal

abbrev IsLeft : List (List Claim) → List ℕ → Option (ℕ × ℕ) → Type 0
IsLeft hs past o = MatchOption o (IsComplete hs past) (λ left. IsFirstLeft hs past left.0 left.1)

left_at : (hs : List (List Claim)) (d : Search) (o found : Option (ℕ × ℕ)) → Rests hs d
    → ((past : List ℕ) → AreAtPlaces hs d.seats.items past → IsLeft hs past o) → o ≡ found → IsLeft hs (reverse d.order.items) found
left_at hs d o found rests left same = subst (λ (x : Option (ℕ × ℕ)). IsLeft hs (reverse d.order.items) x) same
    (left (reverse d.order.items) (record { legal = rests.legal; places = rests.places }))

pub returns-in-Some-clause-verdict : goal.returns-in-Some-clause-verdict
returns-in-Some-clause-verdict c =
    let rests = c.requires in (
      reverse c.args.search.order.items,
      rests.legal,
      rests.least,
      rests.stuck,
      left_at c.args.trace.now c.args.search _ _ rests c.first_left.ensures c.in-Some.is,
    )

pub returns-in-None-clause-verdict : goal.returns-in-None-clause-verdict
returns-in-None-clause-verdict c = let rests = c.requires in
    (rests.legal, rests.least, left_at c.args.trace.now c.args.search _ _ rests c.first_left.ensures c.in-None.is)
