-- A disk in memory that was just formatted, and that of a node that has just opened.
use Rattle.std.specs.Prelude.{ℕ, ◌≡◌, ◌≤◌, Some, None}
use Rattle.sector_disk.specs.Memory.{Memory, state_of}
use Rattle.job_model.specs.Durable.{formatted}
use Rattle.job_journal.specs.Journal.{AllWithin, IsSound}
use Rattle.node_store.specs.Store.{slots_for, AllStandFor}
use Rattle.durable_node.specs.Node.{Node}

-- No call of it failed, and every image that a crash might leave stands for a store on which no command was done.
pub record IsFresh (disk : Memory) : Type 0 where
  pub enough : 24 ≤ (state_of disk).sectors
  pub unfailed : disk.failures ≡ 0
  pub formatted : AllStandFor (slots_for (state_of disk).sectors) formatted (state_of disk)
  pub number : AllWithin 1 (state_of disk)
  pub sound : IsSound (slots_for (state_of disk).sectors) (state_of disk)

-- The disk of a node that has just opened is of this size. No call of it failed, and it isn't armed. It was formatted with the area's
-- number 1, and recovered once.
pub record HasNewDisk (size : ℕ) (node : Node Memory) : Type 0 where
  pub sectors : (held : Memory) → node.disk ≡ Some held → (state_of held).sectors ≡ size
  pub failures : (held : Memory) → node.disk ≡ Some held → held.failures ≡ 0
  pub disarmed : (held : Memory) → node.disk ≡ Some held → held.left ≡ None
  pub number : (held : Memory) → node.disk ≡ Some held → AllWithin 2 (state_of held)
