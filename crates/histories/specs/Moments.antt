-- The moments of the histories.
use Rattle.std.specs.Prelude.{ℕ, ◌≡◌, List, length, slice_get, Some}
use Rattle.node_core.specs.State.{State}
use Rattle.histories.specs.Lists.{IsAmong}
use Rattle.histories.specs.NodeState.{opening}
use Rattle.histories.specs.HistoryEvent.{Entry}
use Rattle.histories.specs.History.{vectors}

-- a state that a node has in its opening or after an entry
abbrev pub IsMoment : List (List Entry) → ℕ → State → Type 0
IsMoment histories n v = (h : List Entry) × (slice_get histories n ≡ Some h) × IsAmong v (vectors n (length histories) (opening n) h)
