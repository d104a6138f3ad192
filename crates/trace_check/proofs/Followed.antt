-- Entries are taken in an order that is given.
use Rattle.std.proofs.Common.{◌≡◌, ◌≤◌, ℕ, ◌+◌, List, [], ◌∷◌, length, reverse, slice_get, slice_set, Some, inl, inr, refl, sym, ap, ◌∙◌}
use Rattle.std.proofs.Common.{subst, arith}
use Rattle.wire_msg.specs.Envelope.{Envelope}
use Rattle.histories.specs.Lists.{Each}
use Rattle.histories.specs.NodeState.{NodeState}
use Rattle.histories.proofs.PublicLaws.{each_more}
use Rattle.trace_check.specs.declared.search.NodeCursor.{NodeCursor}
use Rattle.trace_check.specs.declared.search.Judgement.TheVariants.{Stops, Waits}
use Rattle.trace_check.specs.Claims.{Claim, MayCome, after_claim, brought_by}
use Rattle.trace_check.specs.Orders.{history, taken, state_of, IsSent, MayTake}
use Rattle.trace_check.specs.Posts.{IsPosted}
use Rattle.trace_check.specs.Searches.{twin_at, IsDesk, IsTaken, Judges, PostsAll}
use Rattle.trace_check.specs.Followed.{AreFollowed, seat_at}
use Rattle.trace_check.specs.Verdicts.{Turned}
use Rattle.trace_check.proofs.Searches.{same_or_other, taken_same, taken_other, twin_in}
use Rattle.trace_check.proofs.Turning.{turns}
use Rattle.trace_check.proofs.Turns.{reseats_set, none_past}

module _ (hs : List (List Claim)) (seats : List NodeCursor) (posted : List Envelope) (past : List ℕ) (n : ℕ) (old new : NodeCursor)
    (are : AreFollowed hs seats posted past) (at : slice_get seats n ≡ Some old) where
  pub stops_cant : Judges hs posted n old new Stops → MayTake hs past n → ⊥
  stops_cant judged may =
      let is = are.fits n old at in
      judged.1 may.claim (subst (λ (s : NodeCursor). slice_get (history hs n) s.place ≡ Some may.claim) (sym is) may.next)
      (subst (λ (s : NodeCursor). MayCome s.node_model.id s.node_model.nodes s.node_model.node may.claim) (sym is) may.possible)
      may.addressed

  pub waits_cant : Judges hs posted n old new Waits → MayTake hs past n → ⊥
  waits_cant judged may =
      let unsent = judged.1 in
      let brought = unsent.brought may.claim (subst (λ (s : NodeCursor). slice_get (history hs n) s.place
      ≡ Some may.claim) (sym (are.fits n old at)) may.next) in
      let sent : Each (λ (m : Envelope). IsSent hs past m) (unsent.message ∷ []) =
      subst (λ (ms : List Envelope). Each (λ (m : Envelope). IsSent hs past m) ms) brought may.sent in
      unsent.unsent ((are.posts unsent.message).1 sent.0)

  taken_may : (t : IsTaken hs posted n old new) → MayTake hs past n
  taken_may t =
      let is = are.fits n old at in
      record {
        claim = t.claim;
        next = subst (λ (s : NodeCursor). slice_get (history hs n) s.place ≡ Some t.claim) is t.next;
        possible = subst (λ (s : NodeCursor). MayCome s.node_model.id s.node_model.nodes s.node_model.node t.claim) is t.possible;
        sent = each_more (λ (m : Envelope). IsPosted posted m) (λ (m : Envelope). IsSent hs past m) (brought_by t.claim.action)
            (λ m there. (are.posts m).0 there) t.sent;
        addressed = t.addressed;
      }

  seat_taken : (t : IsTaken hs posted n old new) → new ≡ seat_at hs (n ∷ past) n
  unfolding taken_may
  seat_taken t =
      let is = are.fits n old at in
      let may = taken_may t in
      let more = taken_same n past in
      let turned : Turned hs past n t.claim = turns hs past n t.claim may.next in
      let place : new.place ≡ taken n (n ∷ past) = t.place ∙ ap (λ (s : NodeCursor). s.place + 1) is ∙ sym more in
      let node_model : new.node_model ≡ twin_at hs (n ∷ past) n =
      t.node_model ∙ ap (λ (s : NodeCursor). record s.node_model {
        node =
            after_claim s.node_model.id s.node_model.nodes s.node_model.node t.claim;
      }) is
      ∙ ap (λ (x : NodeState). twin_in n (length hs) x) (sym turned.state)
      ∙ ap (λ (p : ℕ). twin_in n (length hs) (state_of hs n p)) (sym more) in
      λ i. record { node_model = node_model i; place = place i }

  pub takes_on : (ready ready' stopped : List ℕ) (posted' : List Envelope) (c : Claim) → (t : IsTaken hs posted n old new)
      → slice_get (history hs n) old.place ≡ Some c
      → PostsAll stopped posted posted' ready ready' c.sent → AreFollowed hs (slice_set seats n new) posted' (n ∷ past)
  takes_on ready ready' stopped posted' c t next all =
      let reseats = reseats_set seats n new in
      let is = are.fits n old at in
      let turned : Turned hs past n c = turns hs past n c (subst (λ (s : NodeCursor). slice_get (history hs n) s.place ≡ Some c) is next) in
      record {
        count = reseats.count ∙ are.count;
        fits = λ k s here. elim (same_or_other k n) [
          | inl same ↦ reseats.here s (subst (λ (j : ℕ). slice_get (slice_set seats n new) j ≡ Some s) same here) ∙ seat_taken t
              ∙ ap (λ (j : ℕ). seat_at hs (n ∷ past) j) (sym same)
          | inr other ↦ are.fits k s (sym (reseats.others k other) ∙ here)
              ∙ ap (λ (p : ℕ). record { node_model = twin_in k (length hs) (state_of hs k p); place = p })
              (sym (taken_other k n past other))
        ];
        posts = λ m. (
          λ there. elim ((all.posts m).0 there) [ inl now ↦ turned.adds m now | inr before ↦ turned.keeps m ((are.posts m).0 before) ],
          λ sent. (all.posts m).1 (elim (turned.sends m sent) [ inl before ↦ inr ((are.posts m).1 before) | inr now ↦ inl now ]),
        );
        legal = (taken_may t, are.legal);
      }

-- a node that isn't there takes nothing
pub outside_cant : (hs : List (List Claim)) (seats : List NodeCursor) (posted : List Envelope) (past : List ℕ) (n : ℕ)
    → AreFollowed hs seats posted past → length seats ≤ n → MayTake hs past n → ⊥
outside_cant hs seats posted past n are outside may =
    let count = are.count in
    let none : slice_get [] (taken n past) ≡ Some may.claim =
    subst (λ (h : List Claim). slice_get h (taken n past) ≡ Some may.claim) (none_past hs n (omega (arith, count, outside))) may.next in
    absurd cc

-- ---- the beginning

pub followed_opens : (hs : List (List Claim)) (seats : List NodeCursor) (ready stopped : List ℕ) (posted : List Envelope) (order : List ℕ)
    → IsDesk hs seats ready stopped posted (reverse order) → stopped ≡ [] → order ≡ []
    → AreFollowed hs seats posted []
followed_opens hs seats ready stopped posted order search none empty =
    let desk' : IsDesk hs seats ready [] posted [] = subst (λ (ss : List ℕ). IsDesk hs seats ready ss posted []) none
    (subst (λ (o : List ℕ). IsDesk hs seats ready stopped posted (reverse o)) empty search) in
    record {
      count = desk'.count;
      fits = λ n s at. let fits = desk'.fits n s at in let node_model = fits.node_model refl in let place = fits.place in
          λ i. record { node_model = node_model i; place = place i };
      posts = desk'.posts;
      legal = tt;
    }
