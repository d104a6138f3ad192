-- The moments of a run, each at its front of the run.
use Rattle.std.proofs.Common.{◌≡◌, ℕ, zero, suc, List, [], ◌∷◌, length, take, map, slice_get, refl, ap, subst, Some}
use Rattle.wire_msg.specs.Envelope.{Envelope}
use Rattle.node_core.specs.State.{State}
use Rattle.histories.specs.Lists.{Each}
use Rattle.histories.specs.NodeState.{NodeState}
use Rattle.histories.proofs.PublicLaws.{each_split}
use Rattle.schedule.specs.declared.act.Act.{Act}
use Rattle.runs.specs.World.{World, node_in, start}
use Rattle.runs.specs.Step.{Step, Takes, world_after, step_sent}
use Rattle.runs.specs.Run.{RunFrom, world_at}
use Rattle.runs.specs.Acts.{IsRunOf}
use Rattle.runs.specs.Reporting.{Moment, Report, moment_of, grown, first_report, report_from, report_of}
use Rattle.runs.proofs.Reports.{moments_from}
use Rattle.histories.specs.After.{sent_at}

-- a front of a run is a run
pub run_front : (k nodes : ℕ) (steps : List Step) (w : World) → RunFrom nodes w steps → RunFrom nodes w (take k steps)
run_front zero nodes [] w run = tt
run_front zero nodes (step ∷ steps) w run = tt
run_front (suc k) nodes [] w run = tt
run_front (suc k) nodes (step ∷ steps) w run = (run.0, run_front k nodes steps (world_after nodes w step) run.1)

-- the first steps are a run of the first acts
pub acts_front : (k nodes slots : ℕ) (acts : List Act) (steps : List Step) (w : World) → IsRunOf nodes slots w acts steps
    → IsRunOf nodes slots w (take k acts) (take k steps)
acts_front zero nodes slots acts steps w run = tt
acts_front (suc k) nodes slots [] [] w run = tt
acts_front (suc k) nodes slots (a ∷ acts) (step ∷ steps) w run =
    (run.0, run.1, acts_front k nodes slots acts steps (world_after nodes w step) run.2)
acts_front (suc k) nodes slots _ _ w run = absurd run

-- of the report of the first acts the first steps decide
steps_past : (k nodes : ℕ) (acts : List Act) (steps : List Step) (w : World) (r : Report)
    → report_from nodes w r (take k acts) steps ≡ report_from nodes w r (take k acts) (take k steps)
steps_past zero nodes acts steps w r = refl
steps_past (suc k) nodes [] steps w r = refl
steps_past (suc k) nodes (a ∷ acts) [] w r = refl
steps_past (suc k) nodes (a ∷ acts) (step ∷ steps) w r = steps_past k nodes acts steps (world_after nodes w step) (grown nodes w a step r)

pub front_report : (nodes k : ℕ) (acts : List Act) (steps : List Step)
    → report_of nodes (take k acts) steps ≡ report_of nodes (take k acts) (take k steps)
front_report nodes k acts steps = steps_past k nodes acts steps (start nodes) (first_report nodes)

-- there is a step for each act
pub as_many : (nodes slots : ℕ) (acts : List Act) (steps : List Step) (w : World) → IsRunOf nodes slots w acts steps
    → length acts ≡ length steps
as_many nodes slots [] [] w run = refl
as_many nodes slots (a ∷ acts) (step ∷ steps) w run = ap suc (as_many nodes slots acts steps (world_after nodes w step) run.2)
as_many nodes slots _ _ w run = absurd run

-- a moment shows its node after the acts so far
pub moment_state : (k nodes : ℕ) (acts : List Act) (steps : List Step) (w : World) (m : Moment)
    → slice_get (moments_from nodes w acts steps) k ≡ Some m
    → m.state ≡ (node_in (world_at nodes w (take (suc k) steps)).states m.node).state
moment_state k nodes [] steps w m at = absurd cc
moment_state k nodes (a ∷ acts) [] w m at = absurd cc
moment_state zero nodes (a ∷ acts) (step ∷ []) w m at =
    let it : moment_of nodes w a step ≡ m = cc at in subst (λ (x : Moment). x.state
    ≡ (node_in (world_after nodes w step).states x.node).state) it refl
moment_state zero nodes (a ∷ acts) (step ∷ next ∷ steps) w m at =
    let it : moment_of nodes w a step ≡ m = cc at in subst (λ (x : Moment). x.state
    ≡ (node_in (world_after nodes w step).states x.node).state) it refl
moment_state (suc k) nodes (a ∷ acts) (step ∷ steps) w m at = moment_state k nodes acts steps (world_after nodes w step) m at

-- what a step sends is among all that was sent
step_says : (P : Envelope → Type 0) (nodes : ℕ) (w : World) (step : Step) → Each P (world_after nodes w step).net.sent
    → Each P (step_sent nodes w step)
step_says P nodes w (Takes n number what) h = (each_split P w.net.sent (sent_at n nodes (node_in w.states n) what) h).1
step_says P nodes w _ h = tt

pub moment_says : (P : Envelope → Type 0) (k nodes : ℕ) (acts : List Act) (steps : List Step) (w : World) (m : Moment)
    → slice_get (moments_from nodes w acts steps) k ≡ Some m
    → Each P (world_at nodes w (take (suc k) steps)).net.sent → Each P m.sent
moment_says P k nodes [] steps w m at h = absurd cc
moment_says P k nodes (a ∷ acts) [] w m at h = absurd cc
moment_says P zero nodes (a ∷ acts) (step ∷ []) w m at h =
    let it : moment_of nodes w a step ≡ m = cc at in subst (λ (x : Moment). Each P x.sent) it (step_says P nodes w step h)
moment_says P zero nodes (a ∷ acts) (step ∷ next ∷ steps) w m at h =
    let it : moment_of nodes w a step ≡ m = cc at in subst (λ (x : Moment). Each P x.sent) it (step_says P nodes w step h)
moment_says P (suc k) nodes (a ∷ acts) (step ∷ steps) w m at h = moment_says P k nodes acts steps (world_after nodes w step) m at h

-- a state of the map opening (range_with_len is that) of a node
pub opening_shown : (states : List NodeState) (n : ℕ) (s : State) → slice_get (map (λ (x : NodeState). x.state) states) n ≡ Some s
    → (x : NodeState) × (slice_get states n ≡ Some x) × (x.state ≡ s)
opening_shown [] n s at = absurd cc
opening_shown (x ∷ states) zero s at = (x, refl, cc at)
opening_shown (x ∷ states) (suc n) s at = opening_shown states n s at
