-- What one turn changes, and that verdicts decide.
use Rattle.std.proofs.Common.{◌≡◌, ◌≤◌, ◌<◌, ◌==◌, ◌⊎◌, ℕ, zero, suc, ◌+◌, List, [], ◌∷◌, length, take, reverse, slice_get, true, Some, inl}
use Rattle.std.proofs.Common.{inr, refl, sym, ap, ◌∙◌, subst, arith}
use Rattle.std.proofs.lemmas.Bool.{cases_Bool, cases_lt, eqb-true}
use Rattle.std.proofs.lemmas.Bool.Decides.{nat_tests}
use Rattle.std.proofs.lemmas.Option.{same_Some}
use Rattle.wire_msg.specs.Envelope.{Envelope}
use Rattle.histories.specs.Lists.{IsAmong}
use Rattle.histories.specs.NodeState.{NodeState}
use Rattle.trace_check.specs.declared.trace.Verdict.TheVariants.{Run, NotARun}
use Rattle.trace_check.specs.Claims.{Claim, after_claim, state_after}
use Rattle.trace_check.specs.Orders.{history, taken, state_of, IsSent}
use Rattle.trace_check.specs.Verdicts.{VerdictsDecide, TurnsGoOn}
use Rattle.trace_check.proofs.Furthest.{sent_more, not_complete}

pub state_more : (self nodes : ℕ) (s : NodeState) (h : List Claim) (k : ℕ) (c : Claim) → slice_get h k ≡ Some c
    → state_after self nodes s (take (suc k) h) ≡ after_claim self nodes (state_after self nodes s (take k h)) c
state_more self nodes s [] k c at = absurd cc
state_more self nodes s (x ∷ h) zero c at = ap (λ (y : Claim). after_claim self nodes s y) (same_Some x c at)
state_more self nodes s (x ∷ h) (suc k) c at = state_more self nodes (after_claim self nodes s x) h k c at

taken_here : (n : ℕ) (past : List ℕ) → taken n (n ∷ past) ≡ taken n past + 1
taken_here n past = let same : (n == n) ≡ true = grind (arith, nat_tests) in rw same refl

taken_more : (m k : ℕ) (past : List ℕ) → taken k past ≤ taken k (m ∷ past)
taken_more m k past = elim (cases_Bool (m == k)) [ inl same ↦ rw same (omega arith) | inr other ↦ rw other (omega arith) ]

turn_sends : (hs : List (List Claim)) (past : List ℕ) (n : ℕ) (c : Claim) (m : Envelope) → slice_get (history hs n) (taken n past) ≡ Some c
    → IsSent hs (n ∷ past) m → IsSent hs past m ⊎ IsAmong m c.sent
turn_sends hs past n c m at s =
    elim (cases_Bool (n == s.node)) [
      | inl same ↦ (let here : n ≡ s.node = eqb-true n s.node same in let within : s.index < taken s.node past + 1 = rw same at s.before in
          elim (cases_lt s.index (taken s.node past)) [
            | inl before ↦ inl (record {
              node = s.node;
              index = s.index;
              claim = s.claim;
              before = before;
              stands = s.stands;
              sends =
                  s.sends;
            })
            | inr now ↦ (let last : s.index ≡ taken s.node past = omega (arith, within, now) in
                let there : slice_get (history hs s.node) s.index ≡ Some c = ap (λ (i : ℕ). slice_get (history hs s.node) i) last
                ∙ subst (λ (j : ℕ). slice_get (history hs j) (taken j past) ≡ Some c) here at in
                inr (subst (λ (x : Claim). IsAmong m x.sent) (same_Some s.claim c (sym s.stands ∙ there)) s.sends))
          ])
      | inr other ↦ inl (record {
        node = s.node;
        index = s.index;
        claim = s.claim;
        before = rw other at s.before;
        stands = s.stands;
        sends =
            s.sends;
      })
    ]

pub turns : TurnsGoOn
turns hs past n c at = record {
  state =
      let more : taken n past + 1 ≡ suc (taken n past) = omega arith in
      ap (λ (k : ℕ). state_of hs n k) more ∙ state_more n (length hs) _ (history hs n) (taken n past) c at;
  sends = λ m s. turn_sends hs past n c m at s;
  keeps = λ m s. sent_more hs past (n ∷ past) m (λ k. taken_more n k past) s;
  adds = λ m is. record {
    node = n;
    index = taken n past;
    claim = c;
    before =
        (let here = taken_here n past in omega (arith, here));
    stands = at;
    sends = is;
  };
}

pub decide : VerdictsDecide
decide hs (Run order) v = (reverse order.items, v.0, v.2)
decide hs (NotARun node index) v = λ run. not_complete hs v.0 run.0 node v.3 (let is = v.4.0 in let left = v.4.1 in
    omega (arith, is, left)) run.1 run.2
