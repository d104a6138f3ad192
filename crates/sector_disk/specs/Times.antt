-- Notes in one list, and where each time in it ended.
use Rattle.std.specs.Prelude.{◌≡◌, ◌≤◌, ℕ, ◌-◌, List, [], ◌∷◌, length, take, drop}
use Rattle.sector_disk.specs.Noted.{Noted}
use Rattle.sector_disk.specs.declared.notes.Notes.TheInside.{Inside}
use Rattle.sector_disk.specs.declared.overwritten.Overwritten.{Overwritten}

-- the notes of each time that ended at these places, the first of them having begun at a place
abbrev pub times_from : ℕ → List ℕ → List Overwritten → List (List Overwritten)
times_from start [] notes = []
times_from start (end ∷ ends) notes = take (end - start) (drop start notes) ∷ times_from end ends notes

-- where the last of them ended
abbrev pub last_from : ℕ → List ℕ → ℕ
last_from start [] = start
last_from start (end ∷ ends) = last_from end ends

-- these places follow one another, the last of them at the end of so many notes at most
abbrev pub FollowFrom : ℕ → List ℕ → ℕ → Type 0
FollowFrom start [] count = start ≤ count
FollowFrom start (end ∷ ends) count = (start ≤ end) × FollowFrom end ends count

-- the times that are over, and the notes behind the last of them
abbrev pub noted_of : Inside → Noted
noted_of it = record { times = times_from 0 it.ends.items it.notes.items; since = drop it.closed it.notes.items }

-- Times end one after another within the notes, and the last of them where it is noted.
pub record HasEnds (it : Inside) : Type 0 where
  pub closed : it.closed ≡ last_from 0 it.ends.items
  pub follow : FollowFrom 0 it.ends.items (length it.notes.items)
  pub within : it.closed ≤ length it.notes.items
