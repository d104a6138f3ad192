-- What users were told of the leases of names, by the lines of a process, and that no lease is given up unsaid.
use Rattle.std.specs.Prelude.{ℕ, ◌≡◌, ◌⊎◌, ◌<◌, not, if◌then◌else◌, nat_eq, List, [], ◌∷◌, ◌++◌, Option, Some, None}
use Rattle.std.specs.List.{filter}
use Rattle.std.specs.Cmp.Lexicographic.{pointwise}
use Rattle.lease_network.specs.Network.{Name, request, grant, release, Event, begins, reserves, sends, takes}
use Rattle.lease_session.specs.declared.told.Told.{Told}
use Rattle.lease_session.specs.Rows.{Row, send, held, lost, refused, unserved, next, fault}
use Rattle.lease_session.specs.Marks.{Mark, did, wrote}

-- those of other names
abbrev pub without : Name → List Told → List Told
without name ts = filter (λ (t : Told). not (pointwise nat_eq t.name name)) ts

-- the epoch under which the user of a name was told last that it holds its lease, where it wasn't told since that it is lost
abbrev pub told_of : Name → List Told → Option ℕ
told_of name [] = None
told_of name (t ∷ ts) = if pointwise nat_eq t.name name then Some t.epoch else told_of name ts

-- behind a line
abbrev pub told_row : List Told → Row → List Told
told_row ts (send to message bytes) = ts
told_row ts (held name user epoch until) = without name ts ++ record { name = name; user = user; epoch = epoch; until = until } ∷ []
told_row ts (lost name epoch) = without name ts
told_row ts (refused why) = ts
told_row ts (unserved why name user) = ts
told_row ts (next time) = ts
told_row ts fault = ts

-- and behind all marks
abbrev pub told_after : List Told → List Mark → List Told
told_after ts [] = ts
told_after ts (did by what ∷ marks) = told_after ts marks
told_after ts (wrote row ∷ marks) = told_after (told_row ts row) marks

-- the user of the name wasn't told that it holds a lease of an epoch up to this one
abbrev pub NoneUpTo : Name → ℕ → List Told → Type 0
NoneUpTo name epoch ts = (t : ℕ) → told_of name ts ≡ Some t → epoch < t

-- the next of the marks is a line that says that a lease of the name is lost
abbrev pub IsLostOf : Name → Row → Type 0
IsLostOf name (send to message bytes) = ⊥
IsLostOf name (held other user epoch until) = ⊥
IsLostOf name (lost other epoch) = other ≡ name
IsLostOf name (refused why) = ⊥
IsLostOf name (unserved why other user) = ⊥
IsLostOf name (next time) = ⊥
IsLostOf name fault = ⊥

abbrev pub SaysLost : Name → List Mark → Type 0
SaysLost name [] = ⊥
SaysLost name (did by what ∷ marks) = ⊥
SaysLost name (wrote row ∷ marks) = IsLostOf name row

-- a release is sent of no epoch that a user was told to hold, but it is told at once that it is lost
abbrev pub IsTold : List Told → Event → List Mark → Type 0
IsTold ts (begins floor) marks = Unit {0}
IsTold ts (reserves bound) marks = Unit {0}
IsTold ts (sends (request name client number epoch)) marks = Unit {0}
IsTold ts (sends (grant name client number voter)) marks = Unit {0}
IsTold ts (sends (release name client epoch)) marks = NoneUpTo name epoch ts ⊎ SaysLost name marks
IsTold ts (takes message) marks = Unit {0}

abbrev pub AreTold : List Told → List Mark → Type 0
AreTold ts [] = Unit {0}
AreTold ts (did by what ∷ marks) = IsTold ts what marks × AreTold ts marks
AreTold ts (wrote row ∷ marks) = AreTold (told_row ts row) marks
