-- Runs of a whole cluster: one list of steps.
use Rattle.std.specs.Prelude.{ℕ, zero, suc, ◌≡◌, ◌+◌, ◌==◌, List, [], ◌∷◌, ◌++◌, slice_get, if◌then◌else◌, Some, Ok}
use Rattle.group_task.specs.Assignment.{Assignment}
use Rattle.wire_msg.specs.Envelope.{Envelope}
use Rattle.histories.specs.Lists.{Each}
use Rattle.histories.specs.NodeState.{NodeState}
use Rattle.histories.specs.HistoryEvent.{Entry, event_of, brought, AreAddressed}
use Rattle.histories.specs.Possible.{IsPossible}
use Rattle.histories.specs.Bundle.{Bundle}
use Rattle.histories.specs.Book.{AgreesAt}
use Rattle.sim_net.specs.Network.{delivery}
use Rattle.histories.specs.After.{sent_at}
use Rattle.runs.specs.World.{World, node_in, start}
use Rattle.runs.specs.Step.{Step, Takes, Changes, Denies, world_after}

-- what is brought is the message that comes under this number
abbrev pub IsBrought : World → ℕ → List Envelope → Type 0
IsBrought w number ms = Each (λ (m : Envelope). delivery w.net number ≡ Ok m) ms

-- the step may happen: it is possible at its node, which is brought what comes under its number; and what was sent stays sent
abbrev pub IsAllowed : ℕ → World → Step → Type 0
IsAllowed nodes w (Takes n number what) =
    (s : NodeState) × (slice_get w.states n ≡ Some s) × IsPossible n nodes s what × IsBrought w number (brought (event_of what))
    × AreAddressed n (brought (event_of what))
IsAllowed nodes w (Changes net) = net.sent ≡ w.net.sent
IsAllowed nodes w (Denies n why) = Unit {0}

-- a run, from w on
abbrev pub RunFrom : ℕ → World → List Step → Type 0
RunFrom nodes w [] = Unit {0}
RunFrom nodes w (step ∷ steps) = IsAllowed nodes w step × RunFrom nodes (world_after nodes w step) steps

-- the cluster after a run, from w on
abbrev pub world_at : ℕ → World → List Step → World
world_at nodes w [] = w
world_at nodes w (step ∷ steps) = world_at nodes (world_after nodes w step) steps

-- the entry of a node in a step
abbrev pub entry_at : ℕ → ℕ → World → Step → List Entry
entry_at n nodes w (Takes m number what) = if m == n then record { what = what; sent = sent_at m nodes (node_in w.states m) what } ∷ []
    else []
entry_at n nodes w step = []

-- the history of a node in a run
abbrev pub history_in : ℕ → ℕ → World → List Step → List Entry
history_in n nodes w [] = []
history_in n nodes w (step ∷ steps) = entry_at n nodes w step ++ history_in n nodes (world_after nodes w step) steps

-- those of k nodes, from n on
abbrev pub histories_from : ℕ → ℕ → ℕ → List Step → List (List Entry)
histories_from n zero nodes steps = []
histories_from n (suc k) nodes steps = history_in n nodes (start nodes) steps ∷ histories_from (n + 1) k nodes steps

abbrev pub histories_of : ℕ → List Step → List (List Entry)
histories_of nodes steps = histories_from 0 nodes nodes steps

-- the histories of a run are a bundle
abbrev pub RunsAreBundles : Type 0
RunsAreBundles = (nodes : ℕ) (steps : List Step) → RunFrom nodes (start nodes) steps → Bundle (histories_of nodes steps)

-- in every run one book agrees with every node's vector, at the start and after each step
abbrev pub RunBook : Type 0
RunBook = (nodes : ℕ) (steps : List Step) → RunFrom nodes (start nodes) steps →
    (book : List Assignment) × ((done left : List Step) → done ++ left ≡ steps → (n : ℕ) (s : NodeState)
    → slice_get (world_at nodes (start nodes) done).states n ≡ Some s → AgreesAt book n s.state)
