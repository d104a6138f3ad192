-- What a recovery that mounts its disk reads there, and why it can't.
use Rattle.std.specs.Prelude.{ℕ, ◌≡◌, ◌<◌, ◌↔◌, IsTrue, IsErrOf, IfErr, Option, Some, None, Result}
use Rattle.sector_disk.specs.Disk.{DiskState, Image, nothing}
use Rattle.sector_disk.specs.Run.{Run}
use Rattle.job_model.specs.Durable.{Durable}
use Rattle.node_store.specs.declared.fault.StoreFault.TheVariants as store
use Rattle.node_store.specs.Store.{slots_for, stands_for}
use Rattle.node_store.specs.Mounting.{IsRefusedFor}
use Rattle.durable_node.specs.declared.fault.NodeFault.{NodeFault}
use Rattle.durable_node.specs.declared.fault.NodeFault.TheVariants as node
use Rattle.durable_node.specs.declared.step_report.StepReport.{StepReport}

-- an image that can't be read is answered by what was read first of all that isn't allowed
abbrev pub IsUnread : ℕ → Image → NodeFault → Type 0
IsUnread slots image (node.Core fault) = Unit {0}
IsUnread slots image node.Full = Unit {0}
IsUnread slots image node.Exhausted = Unit {0}
IsUnread slots image node.Device = Unit {0}
IsUnread slots image node.NotFormatted = IsRefusedFor slots image store.NotFormatted
IsUnread slots image (node.Damaged sector) = IsRefusedFor slots image (store.Damaged sector)
IsUnread slots image node.TooSmall = Unit {0}

-- what a mounting answers and gives, by what its disk held before
pub record IsRead {Disk : Type 0} (disks : Disk → DiskState) (was now : Disk) (result : Result StepReport NodeFault)
    (mounted : Option Durable) : Type 0 where
  -- with fewer than 24 sectors, and only then, it is too small, and isn't called
  pub too_small : IsErrOf result node.TooSmall ↔ ((disks was).sectors < 24)
  pub uncalled : IsErrOf result node.TooSmall → now ≡ was
  -- an honest disk is refused for what reads give, or what is mounted is what they stand for
  pub refused : IsTrue (disks was).honest → IfErr result (IsUnread (slots_for (disks was).sectors) (disks was).contents)
  pub finds : IsTrue (disks was).honest → (d : Durable) → mounted ≡ Some d
      → stands_for (slots_for (disks was).sectors) (disks was).contents ≡ Some d
  -- and where nothing is mounted, nothing is written
  pub unwritten : IsTrue (disks was).honest → mounted ≡ None → Run nothing (disks was) (disks now)

-- the same of a node's disk, from before the call and after it
abbrev pub ReadsDisk : {Disk : Type 0} → (Disk → DiskState) → Option Disk → Option Disk → Result StepReport NodeFault → Option Durable
    → Type 0
ReadsDisk {Disk} disks old new result mounted = (was now : Disk) → old ≡ Some was → new ≡ Some now → IsRead disks was now result mounted
