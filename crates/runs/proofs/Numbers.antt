-- A group's number is new when it is given.
use Rattle.std.proofs.Common.{◌≡◌, ◌⊎◌, ℕ, suc, ◌<◌, ◌≤◌, Bool, true, false, List, slice_get, refl, subst, inl, inr, arith, Some, IfSome}
use Rattle.std.proofs.Common.{Option}
use Rattle.std.specs.Prelude.{Contains, nat_lt}
use Rattle.std.proofs.lemmas.Bool.Decides.{nat_tests}
use Rattle.std.proofs.lemmas.Option.{get_or_from_slice_get, slice_get_within}
use Rattle.group_task.specs.Group.{Group}
use Rattle.node_core.specs.declared.phase.Phase.{Phase}
use Rattle.node_core.specs.declared.phase.Phase.TheVariants.{Down}
use Rattle.node_core.specs.State.{State}
use Rattle.histories.specs.Named.{StateHolds}
use Rattle.runs.specs.Uses.{GivenAtOnePlace, LaterIsGreater, NamedWasGiven}
use Rattle.runs.proofs.Elements.{among, contains}

pub later_is_greater : LaterIsGreater
later_is_greater nodes after r head i j g h lt at_i at_j same =
    let rises = head.rising i j g lt (slice_get_within r.groups j h at_j) in
    let is_g = get_or_from_slice_get r.groups i g g at_i in
    let is_h = get_or_from_slice_get r.groups j h g at_j in
    subst (λ (p : Group × Group). p.0.creator ≡ p.1.creator → p.0.count < p.1.count) (λ t. (is_g t, is_h t)) rises same

-- so of two places of one group neither is before the other
pub given_at_one_place : GivenAtOnePlace
given_at_one_place nodes after r head i j g at_i at_j = by_order (nat_lt i j) refl (nat_lt j i) refl
  where
    apart : (a b : ℕ) → slice_get r.groups a ≡ Some g → slice_get r.groups b ≡ Some g → a < b → ⊥
    apart a b at_a at_b lt = (let rises = later_is_greater nodes after r head a b g g lt at_a at_b refl in omega (arith, rises))

    by_order : (b : Bool) → nat_lt i j ≡ b → (c : Bool) → nat_lt j i ≡ c → i ≡ j
    by_order true is c of = absurd (apart i j at_i at_j (grind (arith, nat_tests)))
    by_order false is true of = absurd (apart j i at_j at_i (grind (arith, nat_tests)))
    by_order false is false of =
        let above : j ≤ i = grind (arith, nat_tests) in
        let below : i ≤ j = grind (arith, nat_tests) in
        omega (arith, above, below)

-- a node that is up shows its group
group_shown : (P : Group → Type 0) (s : State) (phase : Phase) → s.phase ≡ phase → StateHolds P s → (s.phase ≡ Down) ⊎ P s.group
group_shown P s Down is h = inl is
group_shown P s phase is h = inr (h (λ down. absurd cc (is, down))).0

pub named_was_given : NamedWasGiven
named_was_given nodes after r head k m at =
    let given : List Group = (after (suc k)).groups in
    let named = head.given k m at in (
      elim (group_shown (Contains given) m.state m.state.phase refl named.by_state) [
        | inl down ↦ inl down
        | inr it ↦ inr (among m.state.group given it)
      ],
      λ x g here says. among g given (subst (λ (o : Option Group). IfSome o (Contains given)) says
          (named.by_messages x (contains x m.sent here))),
    )
