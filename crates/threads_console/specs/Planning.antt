-- The plans that turns are, node by node.
use Rattle.std.specs.Prelude.{◌≡◌, ◌≢◌, ◌<◌, ℕ, ◌==◌, if◌then◌else◌, List, [], ◌∷◌, ◌++◌, length, flat_map, slice_get, slice_set, Some}
use Rattle.line_words.specs.Words.{words_of}
use Rattle.node_core.specs.declared.timer.Timer.{Timer}
use Rattle.node_lock.specs.declared.order.OperatorOrder.{OperatorOrder}
use Rattle.node_lock.specs.Planned.{Planned}
use Rattle.threads_console.specs.declared.turn.PlanTurn.{PlanTurn}
use Rattle.threads_console.specs.declared.turn.PlanTurn.TheVariants.{Poll, Fire, Do}
use Rattle.threads_console.specs.Turns.{line_of}

-- the turns of one node, in the order of their lines
abbrev pub turns_at : ℕ → List (ℕ × PlanTurn) → List PlanTurn
turns_at n [] = []
turns_at n (turn ∷ turns) = if turn.0 == n then turn.1 ∷ turns_at n turns else turns_at n turns

-- what a turn is for each of the workers
abbrev pub polled_in : PlanTurn → List ℕ
polled_in (Poll j) = j ∷ []
polled_in (Fire timer) = []
polled_in (Do order) = []

abbrev pub fired_in : PlanTurn → List Timer
fired_in (Poll j) = []
fired_in (Fire timer) = timer ∷ []
fired_in (Do order) = []

abbrev pub done_in : PlanTurn → List OperatorOrder
done_in (Poll j) = []
done_in (Fire timer) = []
done_in (Do order) = order ∷ []

-- the plan of each worker: its turns among these, in their order
abbrev pub planned : List PlanTurn → Planned
planned turns = record { intake = flat_map polled_in turns; clock = flat_map fired_in turns; operator = flat_map done_in turns }

-- a node's plans for each of so many nodes, and they are what its lines say
pub record ArePlanned (nodes : ℕ) (turns : List (ℕ × PlanTurn)) (plans : List Planned) : Type 0 where
  pub count : length plans ≡ nodes
  pub each : (n : ℕ) (p : Planned) → slice_get plans n ≡ Some p → p ≡ planned (turns_at n turns)

-- an intake of a cluster of so many nodes polls another node than its own
abbrev pub PollFits : ℕ → ℕ → PlanTurn → Type 0
PollFits nodes own (Poll j) = (own ≢ j) × (j < nodes)
PollFits nodes own (Fire timer) = Unit {0}
PollFits nodes own (Do order) = Unit {0}

abbrev pub TurnFits : ℕ → ℕ × PlanTurn → Type 0
TurnFits nodes turn = (turn.0 < nodes) × PollFits nodes turn.0 turn.1

-- ---- for the code

abbrev pub no_plans : Planned
no_plans = record { intake = []; clock = []; operator = [] }

-- plans, and one turn more
abbrev pub with_turn : Planned → PlanTurn → Planned
with_turn p (Poll j) = record p { intake = p.intake ++ j ∷ [] }
with_turn p (Fire timer) = record p { clock = p.clock ++ timer ∷ [] }
with_turn p (Do order) = record p { operator = p.operator ++ order ∷ [] }

-- the turn was added to the plans of its node
abbrev pub IsPlaced : ℕ × PlanTurn → List Planned → List Planned → Type 0
IsPlaced turn old new = (p : Planned) → slice_get old turn.0 ≡ Some p → new ≡ slice_set old turn.0 (with_turn p turn.1)

-- and so was the turn of a line
pub record AddsLine (nodes : ℕ) (line : List ℕ) (old new : List Planned) : Type 0 where
  pub turn : ℕ × PlanTurn
  pub reads : line_of nodes (words_of line) ≡ Some turn
  pub within : turn.0 < nodes
  pub placed : IsPlaced turn old new
