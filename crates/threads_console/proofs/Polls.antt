-- An intake polls other nodes, also behind a turn more.
use Rattle.std.proofs.Common.{◌≡◌, ◌≢◌, ◌==◌, ℕ, zero, suc, ◌<◌, Bool, true, false, List, [], ◌∷◌, ◌++◌, length, replicate, slice_get}
use Rattle.std.proofs.Common.{slice_set, Some, refl, sym, subst, ◌∙◌, arith}
use Rattle.std.proofs.lemmas.Bool.Decides.{nat_tests}
use Rattle.std.proofs.lemmas.List.{length-set}
use Rattle.node_lock.specs.Planned.{Planned}
use Rattle.node_threads.specs.Nodes.{ArePolled, PollOthers}
use Rattle.node_threads.proofs.PublicLaws.{place_of}
use Rattle.threads_console.specs.declared.turn.PlanTurn.{PlanTurn}
use Rattle.threads_console.specs.declared.turn.PlanTurn.TheVariants.{Poll, Fire, Do}
use Rattle.threads_console.specs.Planning.{IsPlaced, PollFits, TurnFits, no_plans, with_turn}
use Rattle.threads_console.proofs.Filling.{all_empty, set_here, set_elsewhere}

one_more : (own nodes : ℕ) (js : List ℕ) (j : ℕ) → (own ≢ j) × (j < nodes) → ArePolled own nodes js → ArePolled own nodes (js ++ j ∷ [])
one_more own nodes [] j fits polled zero k at = let same : j ≡ k = cc in subst (λ (x : ℕ). (own ≢ x) × (x < nodes)) same fits
one_more own nodes [] j fits polled (suc i) k at = absurd cc
one_more own nodes (x ∷ js) j fits polled zero k at = polled zero k at
one_more own nodes (x ∷ js) j fits polled (suc i) k at = one_more own nodes js j fits (λ i k at. polled (suc i) k at) i k at

with_poll : (own nodes : ℕ) (p : Planned) (turn : PlanTurn) → PollFits nodes own turn → ArePolled own nodes p.intake
    → ArePolled own nodes (with_turn p turn).intake
with_poll own nodes p (Poll j) fits polled = one_more own nodes p.intake j fits polled
with_poll own nodes p (Fire timer) fits polled = polled
with_poll own nodes p (Do order) fits polled = polled

pub placed_polls : (turn : ℕ × PlanTurn) (old new : List Planned) → TurnFits (length old) turn → IsPlaced turn old new → PollOthers old
    → PollOthers new
placed_polls turn old new fits is polls =
    let at = place_of old turn.0 fits.0 in
    let x = with_turn at.0 turn.1 in
    let more = with_poll turn.0 (length old) at.0 turn.1 fits.1 (polls turn.0 at.0 at.1) in
    subst (λ (ps : List Planned). PollOthers ps) (sym (is at.0 at.1))
    (λ n p there. subst (λ (nodes : ℕ). ArePolled n nodes p.intake) (sym (length-set old turn.0 x))
    (each x more (turn.0 == n) n refl p there))
  where
    each : (x : Planned) → ArePolled turn.0 (length old) x.intake → (b : Bool) (n : ℕ) → (turn.0 == n) ≡ b → (p : Planned)
        → slice_get (slice_set old turn.0 x) n ≡ Some p → ArePolled n (length old) p.intake
    each x more true n same p there =
        let one : turn.0 ≡ n = grind (arith, nat_tests, same) in
        let place_set = set_here old n x p (subst (λ (k : ℕ). slice_get (slice_set old k x) n ≡ Some p) one there) in
        subst (λ (k : ℕ). ArePolled k (length old) p.intake) one
        (subst (λ (q : Planned). ArePolled turn.0 (length old) q.intake) (sym place_set.0) more)
    each x more false n other p there =
        let apart : turn.0 ≢ n = λ same. grind (arith, nat_tests, other, same) in
        polls n p (sym (set_elsewhere old turn.0 n x apart) ∙ there)

pub none_polls : (nodes : ℕ) → PollOthers (replicate nodes no_plans)
none_polls nodes n p at =
    subst (λ (q : Planned). ArePolled n (length (replicate nodes no_plans)) q.intake) (sym (all_empty nodes n p at)) (λ i j none. absurd cc)
