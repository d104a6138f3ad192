use Rattle.std.proofs.Common.{◌≡◌, ℕ, suc, ◌+◌, Bool, true, false, List, length, reverse, slice_get, Option, Some, None, refl, sym, ap, ◌∙◌}
use Rattle.std.proofs.Common.{subst, arith}
use Rattle.std.proofs.lemmas.List.{take_all}
use Rattle.std.proofs.lemmas.Option.{slice_get_read}
use Rattle.std.specs.Prelude.{IsTrue, MatchOption, is_some, not, ◌↔◌}
use Rattle.trace_check.specs.declared.search.NodeCursor.{NodeCursor}
use Rattle.trace_check.specs.Claims.{Claim}
use Rattle.trace_check.specs.Followed.{AreFollowed, Followed, before}
use Rattle.trace_check.specs.Orders.{IsComplete}
use Rattle.trace_check.specs.Verdicts.{IsFirstLeft}
use Rattle.trace_check.proofs.Prefixes.{before_more, may_take}
use Rattle.trace_check.proofs.following.is_order.Goals as goal

pub returns-then-not-branch : goal.returns-then-not-branch
returns-then-not-branch c =
    let order = c.args.order.now in
    let turn = c.loop-turn.turn in
    let node = c.index-order-turn.result in
    let at : slice_get order turn ≡ Some node = slice_get_read order (length order) turn node refl c.loop-turn-test.true
    c.index-order-turn.is in (
      λ no. absurd (let clash : false ≡ true = no in cc),
      λ run. absurd ((subst (λ (b : Bool). Followed c.args.trace.now c.follow.new.search (before order turn) node b) c.if-not-branch.true
          (c.in_ok-follow.ensures (before order turn) c.loop-turn.invariant))
          (may_take c.args.trace.now order turn node run.0 at)),
    )

pub loop-turn-preserved : goal.loop-turn-preserved
loop-turn-preserved c =
    let order = c.args.order.now in
    let turn = c.loop-turn.turn in
    let node = c.index-order-turn.result in
    let at : slice_get order turn ≡ Some node = slice_get_read order (length order) turn node refl c.loop-turn-test.true
    c.index-order-turn.is in
    let more : suc turn ≡ turn + 1 = omega arith in
    subst (λ (past : List ℕ). AreFollowed c.args.trace.now c.follow.new.search.seats.items c.follow.new.search.posted past)
    (sym (before_more order turn node at) ∙ ap (λ (k : ℕ). before order k) more)
    (subst (λ (b : Bool). Followed c.args.trace.now c.follow.new.search (before order turn) node b) c.if-not-branch.false
    (c.in_ok-follow.ensures (before order turn) c.loop-turn.invariant))

-- no entry is left exactly where all are taken
none_left : (hs : List (List Claim)) (past : List ℕ) (o : Option (ℕ × ℕ)) (b : Bool) → is_some o ≡ not b
    → MatchOption o (IsComplete hs past) (λ left. IsFirstLeft hs past left.0 left.1) → IsTrue b ↔ IsComplete hs past
none_left hs past None true same complete = (λ _. complete, λ _. refl)
none_left hs past None false same complete = absurd cc
none_left hs past (Some left) true same is = absurd cc
none_left hs past (Some left) false same is = (
  λ no. absurd (let clash : false ≡ true = no in cc),
  λ complete. let all = complete left.0 in
      let index = is.0 in let more = is.1 in absurd (omega (arith, all, index, more)),
)

pub returns : goal.returns
returns c =
    let order = c.args.order.now in
    let hs = c.args.trace.now in
    let all : before order c.loop-turn.turn ≡ reverse order =
    ap (λ (xs : List ℕ). reverse xs) (take_all c.loop-turn.turn order (let test = c.loop-turn-test.false in omega (arith, test))) in
    let are = subst (λ (past : List ℕ). AreFollowed hs c.loop-turn.search.seats.items c.loop-turn.search.posted past) all
    c.loop-turn.invariant in
    let left = c.first_left.ensures (reverse order) (record {
      legal = are.legal;
      places =
          λ n s at. ap (λ (v : NodeCursor). v.place) (are.fits n s at);
    }) in
    let ends = none_left hs (reverse order) _ c.is_none.result c.is_none.ensures left in
    (λ yes. (are.legal, ends.0 yes), λ run. ends.1 run.1)
