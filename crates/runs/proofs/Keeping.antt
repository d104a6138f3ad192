-- What each node keeps at its own steps, every node keeps.
use Rattle.std.proofs.Common.{◌≡◌, ◌⊎◌, inl, inr, ap, ◌≢◌, ℕ, Bool, true, false, List, [], ◌∷◌, length, slice_get, refl, sym, ◌∙◌, subst}
use Rattle.std.proofs.Common.{arith, Some}
use Rattle.std.specs.Prelude.{◌==◌}
use Rattle.std.proofs.lemmas.Bool.Decides.{nat_tests}
use Rattle.std.proofs.lemmas.List.{length-set}
use Rattle.histories.specs.NodeState.{NodeState, opening}
use Rattle.histories.specs.declared.history_event.HistoryEvent.{HistoryEvent}
use Rattle.histories.specs.After.{after}
use Rattle.histories.specs.Possible.{IsPossible, IsOfSlots}
use Rattle.histories.proofs.PublicLaws.{eq_nat}
use Rattle.runs.specs.World.{World, node_in, start}
use Rattle.runs.specs.Step.{Step, Takes, world_after}
use Rattle.runs.specs.Run.{world_at}
use Rattle.runs.specs.Acts.{IsLawful}
use Rattle.runs.proofs.Runs.{opened, state_here, state_elsewhere}

-- P holds of each node and its state
abbrev pub AllStates : (ℕ → NodeState → Type 0) → World → Type 0
AllStates P w = (n : ℕ) (s : NodeState) → slice_get w.states n ≡ Some s → P n s

-- where it holds of a node after its step, it holds of all nodes after that step
pub states_keep : (P : ℕ → NodeState → Type 0) (nodes : ℕ) (w : World) (m number : ℕ) (what : HistoryEvent) (s : NodeState)
    → slice_get w.states m ≡ Some s → P m (after m nodes s what)
    → AllStates P w → AllStates P (world_after nodes w (Takes m number what))
states_keep P nodes w m number what s at kept all n t at_n = by_place (m == n) refl
  where
    by_place : (b : Bool) → (m == n) ≡ b → P n t
    by_place true is =
        let same : m ≡ n = eq_nat m n is in
        let now = state_here m m nodes what w.states s refl at in
        let at_m : slice_get (world_after nodes w (Takes m number what)).states m ≡ Some t =
        subst (λ (j : ℕ). slice_get (world_after nodes w (Takes m number what)).states j ≡ Some t) (sym same) at_n in
        let is_after : after m nodes s what ≡ t = cc (now, at_m) in
        subst (λ (j : ℕ). P j t) same (subst (λ (x : NodeState). P m x) is_after kept)
    by_place false is =
        let ne : n ≢ m = grind (arith, nat_tests) in
        all n t (sym (state_elsewhere m n nodes what w.states ne) ∙ at_n)

-- a node after a step: it is as it was, or the step is its own
pub record GoesOn (nodes : ℕ) (w : World) (step : Step) (n : ℕ) (s : NodeState) : Type 0 where
  pub now : NodeState
  pub at : slice_get (world_after nodes w step).states n ≡ Some now
  pub how : (now ≡ s) ⊎ ((number : ℕ) × (what : HistoryEvent) × (step ≡ Takes n number what) × (now ≡ after n nodes s what))

pub node_goes_on : (nodes : ℕ) (w : World) (step : Step) (n : ℕ) (s : NodeState) → slice_get w.states n ≡ Some s → GoesOn nodes w step n s
node_goes_on nodes w (Takes m number what) n s at = by_node (m == n) refl
  where
    by_node : (b : Bool) → (m == n) ≡ b → GoesOn nodes w (Takes m number what) n s
    by_node true is = (let same : m ≡ n = eq_nat m n is in record {
      now = after n nodes s what;
      at = state_here m n nodes what w.states s same at;
      how = inr (number, what, ap (λ (j : ℕ). Takes j number what) same, refl);
    })
    by_node false is =
        let ne : n ≢ m = grind (arith, nat_tests) in
        record { now = s; at = state_elsewhere m n nodes what w.states ne ∙ at; how = inl refl }
node_goes_on nodes w _ n s at = record { now = s; at = at; how = inl refl }

-- what holds of each node as it opens holds of all at the start
pub opens_with : (P : ℕ → NodeState → Type 0) (nodes : ℕ) → ((n : ℕ) → P n (opening n)) → AllStates P (start nodes)
opens_with P nodes all n s at = subst (P n) (sym (opened nodes 0 n s n (omega arith) at)) (all n)

-- so it does after any step that may come where it does
pub lawful_keeps : (P Q : ℕ → NodeState → Type 0) (nodes slots : ℕ) → ((n : ℕ) (s : NodeState) → P n s → Q n s)
    → ((n : ℕ) (s : NodeState) (what : HistoryEvent) → IsPossible n nodes s what → IsOfSlots slots n nodes s what → P n s
    → Q n (after n nodes s what))
    → (w : World) (step : Step) → IsLawful slots nodes w step → AllStates P w → AllStates Q (world_after nodes w step)
lawful_keeps P Q nodes slots stays moves w (Takes n number what) may all =
    states_keep Q nodes w n number what may.0 may.1 (moves n may.0 what may.2 may.3 (all n may.0 may.1)) (λ k s at. stays k s (all k s at))
lawful_keeps P Q nodes slots stays moves w _ may all = λ k s at. stays k s (all k s at)

-- there are as many nodes as there were
pub step_length : (nodes : ℕ) (w : World) (step : Step) → length (world_after nodes w step).states ≡ length w.states
step_length nodes w (Takes n number what) = length-set w.states n (after n nodes (node_in w.states n) what)
step_length nodes w _ = refl

pub run_length : (nodes : ℕ) (steps : List Step) (w : World) → length (world_at nodes w steps).states ≡ length w.states
run_length nodes [] w = refl
run_length nodes (step ∷ steps) w = run_length nodes steps (world_after nodes w step) ∙ step_length nodes w step
