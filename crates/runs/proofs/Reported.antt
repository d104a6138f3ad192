-- Each act is reported, and the openings are.
use Rattle.std.proofs.Common.{◌≡◌, ℕ, zero, suc, List, [], ◌∷◌, length, map, slice_get, refl, ◌∙◌, ap, Some}
use Rattle.std.proofs.lemmas.List.{length-map}
use Rattle.histories.specs.NodeState.{NodeState, opening}
use Rattle.schedule.specs.declared.act.Act.{Act}
use Rattle.runs.specs.World.{World, start}
use Rattle.runs.specs.Step.{Step, world_after}
use Rattle.runs.specs.Acts.{IsRunOf}
use Rattle.runs.specs.Reporting.{Moment}
use Rattle.runs.proofs.ExactRuns.{run_in}
use Rattle.runs.proofs.Reports.{moments_from, moments_are, opening_is}
use Rattle.node_core.specs.State.{State}
use Rattle.runs.specs.Uses.{ActsAreReported}
use Rattle.runs.proofs.Opened.{length_openings}
use Rattle.runs.proofs.Runs.{starts_opened}

pub acts_reported : (nodes slots : ℕ) (acts : List Act) (steps : List Step) (w : World) → IsRunOf nodes slots w acts steps
    → map (λ (m : Moment). m.act) (moments_from nodes w acts steps) ≡ acts
acts_reported nodes slots [] steps w run = refl
acts_reported nodes slots (a ∷ acts) [] w run = absurd run
acts_reported nodes slots (a ∷ acts) (step ∷ steps) w run =
    ap (λ (xs : List Act). a ∷ xs) (acts_reported nodes slots acts steps (world_after nodes w step) run.2)

pub state_there : (states : List NodeState) (n : ℕ) (x : NodeState) → slice_get states n ≡ Some x
    → slice_get (map (λ (s : NodeState). s.state) states) n ≡ Some x.state
state_there [] n x at = absurd cc
state_there (y ∷ states) zero x at = (let same : y ≡ x = cc at in ap (λ (s : NodeState). Some s.state) same)
state_there (y ∷ states) (suc n) x at = state_there states n x at

pub acts_are_reported : ActsAreReported
acts_are_reported nodes slots acts r h = rw h.reported (
  ap (map (λ (m : Moment). m.act)) (moments_are nodes acts h.steps)
      ∙ acts_reported nodes slots acts h.steps (start nodes) (run_in nodes slots acts r h),
  ap (λ (xs : List State). length xs) (opening_is nodes acts h.steps) ∙ length-map (start nodes).states (λ (s : NodeState). s.state)
      ∙ length_openings 0 nodes,
  λ n lt. ap (λ (xs : List State). slice_get xs n) (opening_is nodes acts h.steps)
      ∙ state_there (start nodes).states n (opening n) (starts_opened nodes n lt),
)
