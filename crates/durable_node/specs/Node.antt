-- What contracts see of a node over a disk, and what it stands for.
use Rattle.std.specs.Prelude.{ℕ, ◌≡◌, ◌<◌, ◌≤◌, Bool, true, false, IsTrue, IsFalse, IsSome, IsSomeAnd, Option, Some, None}
use Rattle.sector_disk.specs.Disk.{Image, DiskState, IsImage}
use Rattle.job_model.specs.declared.node_command.NodeCommand.{NodeCommand as Command}
use Rattle.job_model.specs.declared.node_command.NodeCommand.TheVariants.{Raise, Put, Done}
use Rattle.job_model.specs.Durable.{Durable}
use Rattle.node_core.specs.declared.wanted.Wanted.{Wanted}
use Rattle.node_core.specs.declared.wanted.Wanted.TheVariants as wanted
use Rattle.group_task.specs.declared.node.TheConstants.{NODES}
use Rattle.node_core.specs.Core.{Core}
use Rattle.node_core.specs.Start.{down}
use Rattle.node_core.specs.State.{State, is_down}
use Rattle.job_journal.specs.Journal.{IsSound}
use Rattle.node_store.specs.Store.{StoreState, durable_of, slots_for, stands_for}
use Rattle.histories.specs.NodeState.{NodeState, settled}
use Rattle.histories.specs.Possible.{IsSettling}
pub use Rattle.durable_node.specs.Area.{Area, area_of}
use Rattle.durable_node.specs.Carrying.{IsReady}
use Rattle.durable_node.specs.declared.node_disk.NodeDisk.{NodeDisk}
use Rattle.durable_node.specs.declared.node_disk.NodeDisk.TheVariants.{Bare, Mounted, Taken}

-- a command in doubt as the node shows it, with the count, or for a job the next id, from before it
abbrev pub shown_doubt : Durable → Option Command → Option (Wanted × ℕ)
shown_doubt d None = None
shown_doubt d (Some Raise) = Some (wanted.Raise, d.counter)
shown_doubt d (Some (Put work)) = Some (wanted.Put work, d.next)
shown_doubt d (Some (Done id)) = Some (wanted.Done id, d.next)

pub record Node (Disk : Type 0) : Type 0 where
  pub id : ℕ
  pub nodes : ℕ
  pub state : State
  -- the disk, mounted or not: each call that may use it says that it is there
  pub disk : Option Disk
  -- what the disk keeps, where the node is up
  pub kept : Option Durable
  -- the area of its journal, where the node is up
  pub area : Option Area
  -- the command in doubt
  pub doubt : Option (Wanted × ℕ)
  -- what the last call mounted
  pub mounted : Option Durable

-- the disk, wherever it stands
abbrev pub disk_in : {Disk : Type 0} → NodeDisk Disk → Option Disk
disk_in (Bare disk) = Some disk
disk_in (Mounted store) = Some store.disk
disk_in Taken = None

-- the store, where the disk is mounted
abbrev pub store_in : {Disk : Type 0} → NodeDisk Disk → Option (StoreState Disk)
store_in (Bare disk) = None
store_in (Mounted store) = Some store
store_in Taken = None

abbrev pub kept_in : {Disk : Type 0} → Bool → Option (StoreState Disk) → Option Durable
kept_in true store = None
kept_in false None = None
kept_in false (Some store) = Some (durable_of store)

abbrev pub area_in : {Disk : Type 0} → Bool → Option (StoreState Disk) → Option Area
area_in true store = None
area_in false None = None
area_in false (Some store) = Some (area_of store)

-- a store mounted with this count, whatever came of the raise: it left the jobs as they were
abbrev pub mounted_in : {Disk : Type 0} → Option ℕ → Option (StoreState Disk) → Option Durable
mounted_in None store = None
mounted_in (Some count) None = None
mounted_in (Some count) (Some store) = Some (record {
  counter = count;
  next = store.journal.table.next;
  pending =
      store.journal.table.pending;
})

-- a node of these parts
abbrev pub node_with : {Disk : Type 0} → ℕ → ℕ → Core → NodeDisk Disk → Option (Wanted × ℕ) → Option ℕ → Node Disk
node_with id nodes core disk doubt mounted = record {
  id = id;
  nodes = nodes;
  state = core.state;
  disk = disk_in disk;
  kept = kept_in (is_down core.state.phase) (store_in disk);
  area = area_in (is_down core.state.phase) (store_in disk);
  doubt = doubt;
  mounted = mounted_in mounted (store_in disk);
}

-- Each image that a crash now may leave stands for what is kept, with or without the command in doubt.
pub record IsLeft (disk : DiskState) (s : NodeState) : Type 0 where
  pub sectors : 24 ≤ disk.sectors
  pub images : IsTrue disk.honest → (image : Image) → IsImage disk image →
      (kept : Bool) × IsSettling kept s.doubt × (stands_for (slots_for disk.sectors) image ≡ Some (settled kept s))
  pub sound : IsSound (slots_for disk.sectors) disk

-- The node is in this state, and its disk too.
pub record Stands {Disk : Type 0} (disks : Disk → DiskState) (n : Node Disk) (s : NodeState) : Type 0 where
  pub state : n.state ≡ s.state
  pub doubt : n.doubt ≡ shown_doubt s.durable s.doubt
  pub up : is_down n.state.phase ≡ false → (n.kept ≡ Some s.durable) × (s.doubt ≡ None)
  pub disk : (disk : Disk) → n.disk ≡ Some disk → IsLeft (disks disk) s

-- What is true of every node: it has its disk, and it is up on a store that isn't broken, or down in the one state of a node that is down.
pub record IsNode {Disk : Type 0} (disks : Disk → DiskState) (id nodes : ℕ) (core : Core) (disk : NodeDisk Disk) : Type 0 where
  pub core_id : core.id ≡ id
  pub core_nodes : core.nodes ≡ nodes
  pub within : id < nodes
  pub most : nodes ≤ NODES
  pub there : IsSome (disk_in disk)
  pub up : is_down core.state.phase ≡ false → IsSomeAnd (store_in disk) (λ (store : StoreState Disk). IsFalse store.broken)
  pub fallen : is_down core.state.phase ≡ true → core.state ≡ down id
  pub slots : (store : StoreState Disk) → store_in disk ≡ Some store → store.journal.slots ≡ slots_for (disks store.disk).sectors
  pub sound : (now : Disk) → disk_in disk ≡ Some now → IsSound (slots_for (disks now).sectors) (disks now)

-- the core of this node, in a group of so many
pub record IsCoreOf (self group : ℕ) (core : Core) : Type 0 where
  pub id : core.id ≡ self
  pub nodes : core.nodes ≡ group

-- A node of so many stands over a store that a call may be made of.
pub record IsOver {Disk : Type 0} (disks : Disk → DiskState) (self group : ℕ) (core : Core) (store : StoreState Disk) : Type 0 where
  pub of : IsCoreOf self group core
  pub within : self < group
  pub most : group ≤ NODES
  pub ready : IsReady disks store
