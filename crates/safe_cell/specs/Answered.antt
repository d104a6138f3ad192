-- What a call on a disk answers, and what a call that only reads leaves.
use Rattle.std.specs.Prelude.{◌≡◌, ◌⊎◌, ℕ, Option, Some, None, Result, Err, IsTrue, IsSome, IsOk, IsErrOf}
use Rattle.sector_disk.specs.Disk.{DiskState, Counts, nothing}
use Rattle.sector_disk.specs.Run.{Run}

-- a call answers its refusal, or else what it does or the fault of the device
abbrev pub AnswersOr : {A F : Type 0} → F → Option F → Result A F → Type 0
AnswersOr device (Some fault) result = result ≡ Err fault
AnswersOr device None result = IsOk result ⊎ IsErrOf result device

-- What a call that ends in a fault leaves: refused, it changes neither disk nor state; of a device that failed it leaves what is said.
pub record FaultLeaves {Disk S A F : Type 0} (of_device : F) (why : Option F) (result : Result A F) (disk disk' : Disk) (old new : S)
    (left : Type 0) : Type 0 where
  pub refused : IsSome why → (disk' ≡ disk) × (new ≡ old)
  pub device : IsErrOf result of_device → left

-- A call that only reads counts its failures, writes nothing in any image, and leaves synced what was.
pub record OnlyReads (old new : DiskState) (failed : Type 0) : Type 0 where
  pub counts : Counts old new failed (failed → ⊥)
  pub run : IsTrue old.honest → Run nothing old new
  pub synced : IsTrue old.honest → (k : ℕ) → old.synced k → new.synced k
