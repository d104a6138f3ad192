use Rattle.std.proofs.Common.{◌≡◌, ◌∙◌, List, ℕ, reverse, sym, subst}
use Rattle.trace_check.specs.declared.search.NodeCursor.{NodeCursor}
use Rattle.trace_check.specs.declared.trace.Verdict.{Verdict}
use Rattle.trace_check.specs.Claims.{Claim}
use Rattle.trace_check.specs.Searches.{IsAtRest}
use Rattle.trace_check.specs.Verdicts.{AreTaken, IsOrderOf}
use Rattle.trace_check.proofs.checking.examine.Goals as goal

taken_at_rest : (hs : List (List Claim)) (seats : List NodeCursor) (order taken : List ℕ) (v : Verdict) → IsAtRest hs seats (reverse order)
    → taken ≡ order → IsOrderOf v order → AreTaken hs v taken
taken_at_rest hs seats order taken v rests same run =
    subst (λ (o : List ℕ). AreTaken hs v o) (sym same) (record { legal = rests.legal; least = rests.least; stuck = rests.stuck; run = run })

pub returns-clause-taken : goal.returns-clause-taken
returns-clause-taken c =
    let d = c.leftovers.new.search in
    taken_at_rest c.args.trace.now d.seats.items d.order.items c.in_ok-taken.taken.items c.decided-verdict.result c.in_ok-left.ensures.rests
    (c.in_ok-taken.ensures.items_if_clones_equal (λ x y same. same) ∙ c.deref.ensures.value) c.decided-verdict.ensures.order
