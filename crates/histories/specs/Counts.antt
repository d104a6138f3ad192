-- How far a history can bring the counter.
use Rattle.std.specs.Prelude.{ℕ, ◌+◌, ◌≤◌, ◌<◌, ◌^◌, Bool, List, length}
use Rattle.histories.specs.NodeState.{opening, settled}
use Rattle.histories.specs.HistoryEvent.{Entry}
use Rattle.histories.specs.History.{replay}

-- Entries, steps or acts, each of which raises a counter by one at most: too few of them for a raise to be refused because
-- the counter has come to its greatest value. Any list that memory can hold is short.
abbrev pub IsShort : {A : Type 0} → List A → Type 0
IsShort xs = length xs + 1 < 2 ^ 64

-- the counter that is kept, or that the next mounting gives, is at most one more than the number of entries
abbrev pub FewCounts : Type 0
FewCounts = (self nodes : ℕ) (h : List Entry) (kept : Bool) → (settled kept (replay self nodes (opening self) h)).counter ≤ length h + 1
