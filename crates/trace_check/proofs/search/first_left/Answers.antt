use Rattle.std.proofs.Common.{◌≡◌, ◌<◌, ℕ, true, false, List, length, option_map, slice_get, Option, Some, None, inl, inr, refl, sym, ap}
use Rattle.std.proofs.Common.{◌∙◌, subst, arith}
use Rattle.std.specs.Prelude.{is_some}
use Rattle.std.proofs.lemmas.Bool.{cases_lt}
use Rattle.std.proofs.lemmas.Option.{slice_get_within}
use Rattle.trace_check.specs.Claims.{Claim}
use Rattle.trace_check.specs.Orders.{history, taken}
use Rattle.trace_check.proofs.Turns.{all_taken, outside_taken, seat_numbered}
use Rattle.trace_check.proofs.search.first_left.Goals as goal

-- whether what an entry sent is there says whether the entry is
none_there : (o : Option Claim) → is_some (option_map (λ (c : Claim). c.sent) o) ≡ false → o ≡ None
none_there None is = refl
none_there (Some c) is = absurd cc

one_there : (h : List Claim) (k : ℕ) (o : Option Claim) → slice_get h k ≡ o → is_some (option_map (λ (c : Claim). c.sent) o) ≡ true
    → k < length h
one_there h k None at is = absurd cc
one_there h k (Some c) at is = slice_get_within h k c at

pub loop-number-preserved : goal.loop-number-preserved
loop-number-preserved c = λ past stands n less.
    let hs = c.args.trace.now in
    let number = c.loop-number.number in
    let s = c.index.result.now in
    elim (cases_lt n number) [
      | inl before ↦ c.loop-number.invariant past stands n before
      | inr not_before ↦ (
          let here : n ≡ number = omega (arith, less, not_before) in
          let at = seat_numbered hs c.args.search.now.seats.items c.from.result number c.nodes-number-end.result s c.requires
          c.nodes-number-end.ensures.value c.from.ensures c.loop-number-test.true c.index.ensures in
          let none : slice_get (history hs c.numbered-id.result) s.place ≡ None =
          none_there _ (ap is_some (sym c.sent.ensures) ∙ sym c.is_some.ensures ∙ c.if-is_some.false) in
          subst (λ (k : ℕ). taken k past ≡ length (history hs k)) (sym here)
          (all_taken hs past number s.place stands.legal (stands.places number s at)
          (subst (λ (k : ℕ). slice_get (history hs k) s.place ≡ None) c.numbered-id.ensures none))
          )
    ]

pub returns-then-is_some : goal.returns-then-is_some
returns-then-is_some c = λ past stands.
    let hs = c.args.trace.now in
    let number = c.loop-number.number in
    let s = c.index.result.now in
    let id = c.numbered-id.ensures in
    let at = seat_numbered hs c.args.search.now.seats.items c.from.result number c.nodes-number-end.result s c.requires
    c.nodes-number-end.ensures.value c.from.ensures c.loop-number-test.true c.index.ensures in (
      stands.places number s at ∙ ap (λ (k : ℕ). taken k past) (sym id),
      one_there (history hs c.numbered-id.result) s.place _ refl (ap is_some (sym c.sent.ensures) ∙ sym c.is_some.ensures
          ∙ c.if-is_some.true),
      λ m less. c.loop-number.invariant past stands m (omega (arith, less, id)),
    )

pub returns : goal.returns
returns c = λ past stands n.
    elim (cases_lt n c.loop-number.number) [
      | inl before ↦ c.loop-number.invariant past stands n before
      | inr not_before ↦ outside_taken c.args.trace.now past n stands.legal (let size = c.nodes-number-end.ensures.value in
          let test = c.loop-number-test.false in omega (arith, size, test, not_before))
    ]
