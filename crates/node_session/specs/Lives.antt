-- The history of a node over all its processes.
use Rattle.std.specs.Prelude.{ℕ, List, [], ◌∷◌, ◌++◌, ◌≡◌}
use Rattle.histories.specs.NodeState.{NodeState}
use Rattle.histories.specs.HistoryEvent.{Entry}
use Rattle.histories.specs.declared.history_event.HistoryEvent.TheVariants.{Crashed}
use Rattle.histories.specs.After.{after}
use Rattle.histories.specs.History.{Follows, FollowsSlots, replay}
use Rattle.node_session.specs.Chains.{entries_in}
use Rattle.node_session.specs.Stamping.{Life, AreLives, life_left}

-- the entries of all processes: each begins where the last one was ended, as a crash ends a node
abbrev pub entries_over : ℕ → ℕ → NodeState → List Life → List Entry
entries_over self nodes s [] = []
entries_over self nodes s (life ∷ lives) =
    record { what = Crashed; sent = [] } ∷ (entries_in self nodes (after self nodes s Crashed) life.all
    ++ entries_over self nodes (life_left self nodes s life) lives)

-- the state that they leave
abbrev pub left_over : ℕ → ℕ → NodeState → List Life → NodeState
left_over self nodes s [] = s
left_over self nodes s (life ∷ lives) = left_over self nodes (life_left self nodes s life) lives

-- over an honest disk they are one history of the node, with a crash in front of each process, whenever each was ended
abbrev pub LivesFollow : Type 0
LivesFollow = (self nodes slots : ℕ) (s : NodeState) (lives : List Life) → AreLives self nodes slots s lives →
    Follows self nodes s (entries_over self nodes s lives) × FollowsSlots slots self nodes s (entries_over self nodes s lives)
    × (replay self nodes s (entries_over self nodes s lives) ≡ left_over self nodes s lives)
