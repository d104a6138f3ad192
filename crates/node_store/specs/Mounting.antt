-- What a mounting answers of a store.
use Rattle.std.specs.Prelude.{◌≡◌, ◌≢◌, ◌⊎◌, ℕ, Option, Some, None, Result, Ok, Err}
use Rattle.sector_disk.specs.Disk.{Image}
use Rattle.safe_cell.specs.Cell.{cell_at}
use Rattle.job_journal.specs.Journal.{cell_damage, replay_in}
use Rattle.job_journal.specs.Readings.{Replay, Reads, Damage}
use Rattle.node_store.specs.Store.{stands_for, StoreState, durable_of}
use Rattle.node_store.specs.declared.fault.StoreFault.{StoreFault}
use Rattle.node_store.specs.declared.mounting.MountFault.{MountFault}

-- a fault of the device, or of what it reads
abbrev pub IsReadFault : StoreFault → Type 0
IsReadFault fault = (fault ≢ StoreFault.TooSmall) × (fault ≢ StoreFault.NoMemory)

-- by the first damaged body of the counter, and its value
abbrev pub counter_fault : Option ℕ → Option ℕ → Option StoreFault
counter_fault (Some sector) value = Some (StoreFault.Damaged sector)
counter_fault None None = Some StoreFault.NotFormatted
counter_fault None (Some value) = None

-- why no counter is read from an image
abbrev pub counter_refusal : Image → Option StoreFault
counter_refusal image = counter_fault (cell_damage image 0) (cell_at image 0)

abbrev pub journal_fault : Replay → Option StoreFault
journal_fault (Reads reading) = None
journal_fault (Damage sector) = Some (StoreFault.Damaged sector)

-- why no journal is
abbrev pub journal_refusal : ℕ → Image → Option StoreFault
journal_refusal slots image = journal_fault (replay_in slots image)

abbrev pub first_refusal : Option StoreFault → Option StoreFault → Option StoreFault
first_refusal (Some first) second = Some first
first_refusal None second = second

-- An image that stands for nothing is refused with this fault: for its counter, or else for its journal.
pub record IsRefusedFor (slots : ℕ) (image : Image) (fault : StoreFault) : Type 0 where
  pub nothing : stands_for slots image ≡ None
  pub first : first_refusal (counter_refusal image) (journal_refusal slots image) ≡ Some fault

-- The answer is what an image stands for: the state of the store, or nothing where it is refused for what was read.
abbrev pub AnswersFor : {Disk : Type 0} → ℕ → Image → Result (StoreState Disk) (MountFault Disk) → Type 0
AnswersFor slots image (Ok store) = stands_for slots image ≡ Some (durable_of store)
AnswersFor slots image (Err refused) =
    (refused.fault ≡ StoreFault.TooSmall) ⊎ (refused.fault ≡ StoreFault.NoMemory) ⊎ (refused.fault ≡ StoreFault.Device)
    ⊎ IsRefusedFor slots image refused.fault

-- a mounting is refused with this fault
abbrev pub IsRefusedWith : {Disk : Type 0} → StoreFault → Result (StoreState Disk) (MountFault Disk) → Type 0
IsRefusedWith fault (Ok store) = ⊥
IsRefusedWith fault (Err refused) = refused.fault ≡ fault

-- the disk that was mounted, or is handed back
abbrev pub disk_of : {Disk : Type 0} → Result (StoreState Disk) (MountFault Disk) → Disk
disk_of (Ok store) = store.disk
disk_of (Err refused) = refused.disk
