-- What is kept of each name.
use Rattle.std.specs.Prelude.{ℕ, ◌+◌, leb, ◌&&◌, is_none, if◌then◌else◌, nat_eq, Bool, true, List, [], ◌∷◌, Option, Some, None}
use Rattle.std.specs.Cmp.Lexicographic.{pointwise}
use Rattle.lease_runs.specs.declared.client_id.ClientId.{ClientId}
use Rattle.lease_runs.specs.declared.voter.LeaseVoter.{LeaseVoter}
use Rattle.lease_machine.specs.declared.name_entry.NameEntry.{NameEntry}

abbrev pub is_same : List ℕ → List ℕ → Bool
is_same name other = pointwise nat_eq name other

-- what is kept of the name
abbrev pub entry_of : List ℕ → List NameEntry → Option NameEntry
entry_of name [] = None
entry_of name (e ∷ es) = if is_same e.name name then Some e else entry_of name es

-- no name stands twice
abbrev pub are_apart : List NameEntry → Bool
are_apart [] = true
are_apart (e ∷ es) = is_none (entry_of e.name es) && are_apart es

-- no grant lasts
abbrev pub is_over : Option ClientId → ℕ → ℕ → Bool
is_over None ends now = true
is_over (Some holder) ends now = leb ends now

abbrev pub is_free : ℕ → LeaseVoter → Bool
is_free now v = is_over v.holder v.ends now

-- nobody here asks for the name, and no grant lasts
abbrev pub is_dead : ℕ → NameEntry → Bool
is_dead now e = is_none e.claim && is_free now e.voter

-- the first place of the name, and the first of a name that may be forgotten, counted from this one on
abbrev pub place_from : ℕ → List ℕ → List NameEntry → Option ℕ
place_from place name [] = None
place_from place name (e ∷ es) = if is_same e.name name then Some place else place_from (place + 1) name es

abbrev pub dead_from : ℕ → ℕ → List NameEntry → Option ℕ
dead_from place now [] = None
dead_from place now (e ∷ es) = if is_dead now e then Some place else dead_from (place + 1) now es

-- the same with another bound
abbrev pub raised : ℕ → NameEntry → NameEntry
raised bound e = record { name = e.name; voter = record e.voter { bound = bound }; claim = e.claim }
