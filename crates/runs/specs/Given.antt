-- The groups that a run gives, and those that it names.
use Rattle.std.specs.Prelude.{ℕ, ◌≡◌, List, [], ◌∷◌, ◌++◌, map, slice_get, Some}
use Rattle.group_task.specs.Group.{Group}
use Rattle.node_core.specs.Words.{own_group}
use Rattle.histories.specs.Lists.{IsAmong}
use Rattle.histories.specs.NodeState.{NodeState}
use Rattle.histories.specs.After.{given_at}
use Rattle.histories.specs.Named.{AllHold, StateHolds}
use Rattle.std.specs.List.{range_with_len}
use Rattle.runs.specs.World.{World, node_in, start}
use Rattle.runs.specs.Step.{Step, Takes, world_after}
use Rattle.runs.specs.Run.{IsAllowed, RunFrom, world_at}

-- the groups that a step gives
abbrev pub groups_at : ℕ → World → Step → List Group
groups_at nodes w (Takes n number what) = map (own_group n) (given_at n nodes (node_in w.states n) what)
groups_at nodes w step = []

-- those of a run, from w on
abbrev pub groups_from : ℕ → World → List Step → List Group
groups_from nodes w [] = []
groups_from nodes w (step ∷ steps) = groups_at nodes w step ++ groups_from nodes (world_after nodes w step) steps

-- all groups of a run, the openings' first: each node gives the group of its first count
abbrev pub groups_of : ℕ → List Step → List Group
groups_of nodes steps = map (λ (n : ℕ). own_group n 1) (range_with_len 0 nodes) ++ groups_from nodes (start nodes) steps

-- each group in a vector, or in a message that was ever sent, is one of those that were given so far
pub record AllGiven (w : World) (given : List Group) : Type 0 where
  pub vectors : (n : ℕ) (s : NodeState) → slice_get w.states n ≡ Some s → StateHolds (λ g. IsAmong g given) s.state
  pub messages : AllHold (λ g. IsAmong g given) w.net.sent

-- after each run, so at each of its moments
abbrev pub GivenBefore : Type 0
GivenBefore = (nodes : ℕ) (steps : List Step) → RunFrom nodes (start nodes) steps
    → AllGiven (world_at nodes (start nodes) steps) (groups_of nodes steps)

-- no group number is given twice
abbrev pub IsOnceEach : List Group → Type 0
IsOnceEach [] = Unit {0}
IsOnceEach (g ∷ gs) = (IsAmong g gs → ⊥) × IsOnceEach gs

abbrev pub NoneTwice : Type 0
NoneTwice = (nodes : ℕ) (steps : List Step) → RunFrom nodes (start nodes) steps → IsOnceEach (groups_of nodes steps)

-- one more step of a run
abbrev pub RunGoesOn : Type 0
RunGoesOn = (nodes : ℕ) (w : World) (steps : List Step) (step : Step) → RunFrom nodes w steps
    → IsAllowed nodes (world_at nodes w steps) step →
    RunFrom nodes w (steps ++ step ∷ []) × (world_at nodes w (steps ++ step ∷ []) ≡ world_after nodes (world_at nodes w steps) step) ×
    (groups_from nodes w (steps ++ step ∷ []) ≡ groups_from nodes w steps ++ groups_at nodes (world_at nodes w steps) step)
