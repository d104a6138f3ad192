-- What a history says of its node's disk: that its areas are never used up, and how often it failed.
use Rattle.std.specs.Prelude.{ℕ, ◌≡◌, ◌⊎◌, ◌+◌, ◌-◌, ◌^◌, ◌<◌, Bool, true, false, List, Option, Some, MatchBool}
use Rattle.std.specs.List.{AllByRecursion}
use Rattle.sector_disk.specs.Memory.{Memory, state_of}
use Rattle.job_journal.specs.Journal.{AllWithin}
use Rattle.node_core.specs.declared.event.Event.{Event}
use Rattle.node_core.specs.declared.fault.Refusal.TheVariants.{AreaExhausted}
use Rattle.histories.specs.declared.history_event.HistoryEvent.{HistoryEvent}
use Rattle.histories.specs.declared.history_event.HistoryEvent.TheVariants as what
use Rattle.histories.specs.HistoryEvent.{Entry}
use Rattle.node_lock.specs.Path.{Path}

-- an event was refused since the areas of its node's disk are used up
abbrev pub IsAreaExhausted : HistoryEvent → Type 0
IsAreaExhausted w = (event : Event) × (w ≡ what.Refused event AreaExhausted)

-- none of these was
abbrev pub NoneAreaExhausted : List Entry → Type 0
NoneAreaExhausted entries = AllByRecursion (λ (e : Entry). IsAreaExhausted e.what → ⊥) entries

-- no image that a crash now may leave has an area of a greater number
abbrev pub AreaWithin : ℕ → Option Memory → Type 0
AreaWithin bound disk = (d : Memory) → disk ≡ Some d → AllWithin bound (state_of d)

-- the number of the area rises by one at most, and where it can rise nothing is refused since it can't
abbrev pub AreaRises : Option Memory → Option Memory → HistoryEvent → Type 0
AreaRises old new w = (bound : ℕ) → AreaWithin bound old → AreaWithin (bound + 1) new × (bound + 1 < 2 ^ 64 → IsAreaExhausted w → ⊥)

-- whether the device failed
abbrev pub is_fault : HistoryEvent → Bool
is_fault (what.Faulted event) = true
is_fault what.MountFailed = true
is_fault (what.RaiseFailed kept) = true
is_fault w = false

-- the count of a disk's failures rises where the device failed, unless it is the greatest, and stays where it didn't
abbrev pub Fails : ℕ → Entry → ℕ → Type 0
Fails n e m = MatchBool (is_fault e.what) ((n < m) ⊎ (m ≡ 2 ^ 64 - 1)) (m ≡ n)

-- once these came of a node whose disk hadn't failed, it has failed so often
abbrev pub HasFailed : List Entry → ℕ → Type 0
HasFailed entries failures = Path Fails 0 entries failures
