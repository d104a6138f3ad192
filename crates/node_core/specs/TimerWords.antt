-- The words for timers.
use Rattle.std.specs.Prelude.{ℕ, List, bytes_eq, codes, if◌then◌else◌, Option, Some, None}
use Rattle.node_core.specs.declared.timer.Timer.{Timer}
use Rattle.node_core.specs.declared.timer.Timer.TheVariants.{Check, Merge, Accept, Ready, Coord, Dispatch}

abbrev pub word_of : Timer → List ℕ
word_of Check = codes "check"
word_of Merge = codes "merge"
word_of Accept = codes "accept"
word_of Ready = codes "ready"
word_of Coord = codes "coord"
word_of Dispatch = codes "dispatch"

-- the timer that a word names
abbrev pub timer_named : List ℕ → Option Timer
timer_named word =
    if bytes_eq word (codes "check") then Some Check else
    if bytes_eq word (codes "merge") then Some Merge else
    if bytes_eq word (codes "accept") then Some Accept else
    if bytes_eq word (codes "ready") then Some Ready else
    if bytes_eq word (codes "coord") then Some Coord else
    if bytes_eq word (codes "dispatch") then Some Dispatch else None
