-- What a history says of a node, the report shows.
use Rattle.std.proofs.Common.{◌≡◌, ◌≢◌, ◌⊎◌, ℕ, zero, suc, Bool, true, false, List, [], ◌∷◌, ◌++◌, take, slice_get, refl, sym, ◌∙◌, ap, inl}
use Rattle.std.proofs.Common.{inr, arith, Some}
use Rattle.std.specs.Prelude.{if◌then◌else◌, ◌==◌}
use Rattle.std.proofs.lemmas.Bool.Decides.{nat_tests}
use Rattle.node_core.specs.State.{State}
use Rattle.histories.specs.Lists.{IsAmong}
use Rattle.histories.specs.NodeState.{NodeState}
use Rattle.histories.specs.After.{after, sent_at}
use Rattle.histories.specs.History.{vectors}
use Rattle.histories.proofs.PublicLaws.{eq_nat}
use Rattle.schedule.specs.declared.act.Act.{Act}
use Rattle.runs.specs.World.{World, node_in}
use Rattle.runs.specs.Step.{Step, Takes, Changes, Denies, world_after}
use Rattle.runs.specs.Run.{history_in}
use Rattle.runs.specs.Acts.{IsRunOf}
use Rattle.runs.specs.Reporting.{Moment, node_of, moment_of}
use Rattle.runs.proofs.Reports.{moments_from}
use Rattle.runs.proofs.Runs.{node_there, state_here, state_elsewhere}

-- a moment of these shows this state of the node
abbrev pub ShownIn : List Moment → ℕ → State → Type 0
ShownIn ms n v = (m : Moment) × IsAmong m ms × (m.node ≡ n) × (m.state ≡ v)

shown_now : (nodes n : ℕ) (w : World) (a : Act) (step : Step) (u : NodeState) (ms : List Moment) (v : State) → node_of step ≡ n
    → slice_get (world_after nodes w step).states n ≡ Some u → v ≡ u.state
    → ShownIn (moment_of nodes w a step ∷ ms) n v
shown_now nodes n w a step u ms v named at is = (
  moment_of nodes w a step,
  inl refl,
  named,
  ap (λ (j : ℕ). (node_in (world_after nodes w step).states j).state) named
      ∙ (ap (λ (x : NodeState). x.state) (node_there (world_after nodes w step).states n u at) ∙ sym is),
)

shown_later : (n : ℕ) (m : Moment) (ms : List Moment) (v : State) (s : State) → (v ≡ s) ⊎ ShownIn ms n v → (v ≡ s) ⊎ ShownIn (m ∷ ms) n v
shown_later n m ms v s either = elim either [ inl e ↦ inl e | inr it ↦ inr (it.0, inr it.1, it.2, it.3) ]

-- each state of a node in a run is the one before the run, or is shown
pub vector_shown : (nodes slots n : ℕ) (acts : List Act) (steps : List Step) (w : World) (s : NodeState) (v : State)
    → slice_get w.states n ≡ Some s → IsRunOf nodes slots w acts steps
    → IsAmong v (vectors n nodes s (history_in n nodes w steps)) → (v ≡ s.state) ⊎ ShownIn (moments_from nodes w acts steps) n v
vector_shown nodes slots n [] [] w s v at run i = elim i [ inl e ↦ inl e | inr none ↦ absurd none ]
vector_shown nodes slots n [] (step ∷ steps) w s v at run i = absurd run
vector_shown nodes slots n (a ∷ acts) [] w s v at run i = absurd run
vector_shown nodes slots n (a ∷ acts) (Takes m number what ∷ steps) w s v at run i =
    by_node (m == n) refl i (λ u here j. vector_shown nodes slots n acts steps (world_after nodes w (Takes m number what)) u v here run.2 j)
  where
    by_node : (b : Bool) → (m == n) ≡ b
        → IsAmong v (vectors n nodes s ((if b then record { what = what; sent = sent_at m nodes (node_in w.states m) what } ∷ [] else [])
        ++ history_in n nodes (world_after nodes w (Takes m number what)) steps))
        → ((u : NodeState) → slice_get (world_after nodes w (Takes m number what)).states n ≡ Some u
        → IsAmong v (vectors n nodes u (history_in n nodes (world_after nodes w (Takes m number what)) steps))
        → (v ≡ u.state) ⊎ ShownIn (moments_from nodes (world_after nodes w (Takes m number what)) acts steps) n v)
        → (v ≡ s.state) ⊎ ShownIn (moment_of nodes w a (Takes m number what) ∷ moments_from nodes
        (world_after nodes w (Takes m number what)) acts steps) n v
    by_node true is i rest =
        let same : m ≡ n = eq_nat m n is in
        let u : NodeState = after n nodes s what in
        let here : slice_get (world_after nodes w (Takes m number what)).states n ≡ Some u = state_here m n nodes what w.states s same at in
        elim i [
          | inl e ↦ inl e
          | inr j ↦ elim (rest u here j) [
            | inl e ↦ inr (shown_now nodes n w a (Takes m number what) u _ v same here e)
            | inr it ↦ inr (it.0, inr it.1, it.2, it.3)
          ]
        ]
    by_node false is i rest =
        let ne : n ≢ m = grind (arith, nat_tests) in
        shown_later n _ _ v s.state (rest s (state_elsewhere m n nodes what w.states ne ∙ at) i)
vector_shown nodes slots n (a ∷ acts) (Changes net ∷ steps) w s v at run i =
    shown_later n _ _ v s.state (vector_shown nodes slots n acts steps (world_after nodes w (Changes net)) s v at run.2 i)
vector_shown nodes slots n (a ∷ acts) (Denies named why ∷ steps) w s v at run i =
    shown_later n _ _ v s.state (vector_shown nodes slots n acts steps w s v at run.2 i)

-- the moments of the first acts are the first moments
pub moments_front : (k nodes : ℕ) (acts : List Act) (steps : List Step) (w : World)
    → moments_from nodes w (take k acts) (take k steps) ≡ take k (moments_from nodes w acts steps)
moments_front zero nodes acts steps w = refl
moments_front (suc k) nodes [] steps w = refl
moments_front (suc k) nodes (a ∷ acts) [] w = refl
moments_front (suc k) nodes (a ∷ acts) (step ∷ steps) w =
    ap (λ (ms : List Moment). moment_of nodes w a step ∷ ms) (moments_front k nodes acts steps (world_after nodes w step))
