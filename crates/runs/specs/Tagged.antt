-- The commands and mountings of a run, each with its node, in the order of the steps.
use Rattle.std.specs.Prelude.{ℕ, ◌+◌, ◌≡◌, ◌==◌, List, [], ◌∷◌, ◌++◌, map, length, slice_get, Some}
use Rattle.std.specs.List.{filter}
use Rattle.histories.specs.NodeState.{NodeState}
use Rattle.histories.specs.Counts.{IsShort}
use Rattle.histories.specs.Kept.{CommandsKept}
use Rattle.histories.specs.Marks.{Mark, commands_of, mountings_of, marks_at, opening_marks}
use Rattle.runs.specs.World.{World, node_in, start}
use Rattle.runs.specs.Step.{Step, Takes, world_after}
use Rattle.runs.specs.Run.{RunFrom}

abbrev pub tagged : ℕ → List Mark → List (ℕ × Mark)
tagged n ms = map (λ m. (n, m)) ms

-- those of one node
abbrev pub own : ℕ → List (ℕ × Mark) → List Mark
own n ps = map (λ p. p.1) (filter (λ p. p.0 == n) ps)

-- the marks of a step, where each node has given so many commands
abbrev pub step_marks : ℕ → World → (ℕ → ℕ) → Step → List (ℕ × Mark)
step_marks nodes w counts (Takes n number what) = tagged n (marks_at n nodes (node_in w.states n) (counts n) what)
step_marks nodes w counts step = []

-- how many commands each node gave, once these marks came too
abbrev pub counts_after : (ℕ → ℕ) → List (ℕ × Mark) → ℕ → ℕ
counts_after counts marks n = counts n + length (commands_of (own n marks))

-- the marks of a run, from w on
abbrev pub run_marks : ℕ → World → (ℕ → ℕ) → List Step → List (ℕ × Mark)
run_marks nodes w counts [] = []
run_marks nodes w counts (step ∷ steps) = step_marks nodes w counts step ++ run_marks nodes (world_after nodes w step)
    (counts_after counts (step_marks nodes w counts step)) steps

-- each node's commands and mountings in a run are kept; the opening's raise came first
abbrev pub RunsAreKept : Type 0
RunsAreKept = (nodes : ℕ) (steps : List Step) → RunFrom nodes (start nodes) steps → IsShort steps → (n : ℕ) (s : NodeState)
    → slice_get (start nodes).states n ≡ Some s →
    CommandsKept (commands_of (opening_marks ++ own n (run_marks nodes (start nodes) (λ k. 1) steps)))
    (mountings_of (opening_marks ++ own n (run_marks nodes (start nodes) (λ k. 1) steps)))
