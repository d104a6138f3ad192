-- A disk in memory as its contracts see it, and what it says of each moment.
use Rattle.std.specs.Prelude.{◌⊎◌, ℕ, ◌+◌, ◌-◌, ◌^◌, ◌≤◌, List, [], ◌∷◌, length, get_or, drop, replicate, min, Bool, true, false, not, ◌==◌}
use Rattle.std.specs.Prelude.{◌||◌, ◌≡◌, IsTrue, IsFalse, IsOk, IsErrOf, Result, Option, Some, None}
use Rattle.sector_disk.specs.Disk.{Image, DiskState, IsImageOf}
use Rattle.sector_disk.specs.declared.fault.DiskFault.{DiskFault}
use Rattle.sector_disk.specs.declared.fault.DiskFault.TheVariants.{Device}

-- A time from one sync to the next: what reads gave at its end, and the sectors that writes took, done or failed.
pub record Span : Type 0 where
  pub contents : Image
  pub written : List ℕ

-- What a contract sees of a disk in memory.
pub record Memory : Type 0 where
  -- what reads give
  pub contents : Image
  -- what the last sync left, or the last crash
  pub synced : Image
  -- for each sector whether a write took it since then, done or failed
  pub unsynced : List Bool
  -- the times before, since the disk was made, last crashed or last forgot
  pub spans : List Span
  -- how many calls have failed
  pub failures : ℕ
  -- how many calls still pass, where it is armed
  pub left : Option ℕ

abbrev pub is_unsynced : Memory → ℕ → Bool
is_unsynced m at = get_or m.unsynced at false

abbrev pub was_written : List ℕ → ℕ → Bool
was_written [] at = false
was_written (k ∷ ks) at = at == k || was_written ks at

-- what a crash at some moment of a time might have left
abbrev pub LeftBy : Span → Image → Type 0
LeftBy span image = IsImageOf span.contents (λ at. IsFalse (was_written span.written at)) image

-- what a crash at some moment of one of these times might have left
abbrev pub LeftBySome : List Span → Image → Type 0
LeftBySome [] image = ⊥
LeftBySome (span ∷ spans) image = LeftBy span image ⊎ LeftBySome spans image

-- A moment is a time from one sync to the next: within it an earlier crash leaves no image that a later one may not leave.
abbrev pub state_of : Memory → DiskState
state_of m = record {
  sectors = length m.contents;
  failures = m.failures;
  armed = m.left;
  honest = true;
  contents = m.contents;
  synced = λ at. IsFalse (is_unsynced m at);
  moment = length m.spans;
  left_since = λ t image. LeftBySome (drop t m.spans) image
      ⊎ ((t ≤ length m.spans) × IsImageOf m.contents (λ at. IsFalse (is_unsynced m at)) image);
}

-- whether the next call passes
abbrev pub passes : Option ℕ → Bool
passes None = true
passes (Some calls) = not (calls == 0)

-- how many calls pass after one call more
abbrev pub spent : Option ℕ → Option ℕ
spent None = None
spent (Some calls) = Some (calls - 1)

-- the count of failures after one more: it stays at its greatest value
abbrev pub risen : ℕ → ℕ
risen failures = min (failures + 1) (2 ^ 64 - 1)

-- One call, and a sync where it passes. Where it is armed, no call passes but those that are left; where nothing is unsynced it takes no
-- memory, and exactly these pass. One that fails makes sure of nothing.
pub record IsSync (old new : Memory) (result : Result (Unit {0}) DiskFault) : Type 0 where
  pub armed : IsOk result → IsTrue (passes old.left)
  pub idle : ((at : ℕ) → IsFalse (is_unsynced old at)) → IsTrue (passes old.left) → IsOk result
  pub ok : IsOk result → new ≡ record old {
    synced = old.contents;
    unsynced = replicate (length old.unsynced) false;
    spans = new.spans;
    left = spent old.left;
  }
  pub failed : IsErrOf result Device → new ≡ record old { failures = risen old.failures; left = spent old.left }

-- a disk on which all is synced and no time is recorded
abbrev pub all_synced : Image → ℕ → Memory
all_synced image failures =
    record { contents = image; synced = image; unsynced = replicate (length image) false; spans = []; failures = failures; left = None }

-- a new disk: zeros
abbrev pub blank : ℕ → Memory
blank sectors = all_synced (replicate sectors (replicate 512 0)) 0
