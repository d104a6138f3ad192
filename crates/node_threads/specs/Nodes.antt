-- The nodes of a run, their plans, and the ends of their links.
use Rattle.std.specs.Prelude.{◌≡◌, ◌≢◌, ℕ, ◌<◌, ◌++◌, List, [], ◌∷◌, length, slice_get, Some}
use Rattle.link_ring.specs.Sides.{Side}
use Rattle.node_lock.specs.declared.run.Run.{Run}
use Rattle.node_lock.specs.Planned.{Planned}
use Rattle.node_threads.specs.declared.size.RunSize.{RunSize}

-- a node of a run of this size
abbrev pub run_at : RunSize → ℕ → Run
run_at size n = record { node = n; nodes = size.nodes; slots = size.slots; capacity = size.capacity }

-- all of these are other nodes than this one, in a cluster of so many
abbrev pub ArePolled : ℕ → ℕ → List ℕ → Type 0
ArePolled n nodes polled = (i j : ℕ) → slice_get polled i ≡ Some j → (n ≢ j) × (j < nodes)

-- each intake polls other nodes of the cluster alone
abbrev pub PollOthers : List Planned → Type 0
PollOthers plans = (n : ℕ) (p : Planned) → slice_get plans n ≡ Some p → ArePolled n (length plans) p.intake

-- the ends of a node's links, to other nodes and from them
pub record NodeEnds : Type 0 where
  pub puts : List Side
  pub takes : List Side

abbrev pub no_ends : NodeEnds
no_ends = record { puts = []; takes = [] }

abbrev pub with_put : NodeEnds → Side → NodeEnds
with_put ends end = record ends { puts = ends.puts ++ end ∷ [] }

abbrev pub with_take : NodeEnds → Side → NodeEnds
with_take ends end = record ends { takes = ends.takes ++ end ∷ [] }
