-- A disk in memory that is armed or disarmed, wherever it stands.
use Rattle.std.specs.Prelude.{ℕ, Option, Some, None}
use Rattle.sector_disk.specs.Memory.{Memory}
use Rattle.durable_node.specs.declared.node_disk.NodeDisk.{NodeDisk}
use Rattle.durable_node.specs.declared.node_disk.NodeDisk.TheVariants.{Bare, Mounted, Taken}

-- a disk of which so many calls still pass, where it is armed
abbrev pub with_left : Option ℕ → Option Memory → Option Memory
with_left left None = None
with_left left (Some disk) = Some (record disk { left = left })

abbrev pub armed_disk : ℕ → Option Memory → Option Memory
armed_disk calls disk = with_left (Some calls) disk

-- the same of a disk where it stands
abbrev pub with_left_in : Option ℕ → NodeDisk Memory → NodeDisk Memory
with_left_in left (Bare disk) = Bare (record disk { left = left })
with_left_in left (Mounted store) = Mounted (record store { disk = record store.disk { left = left } })
with_left_in left Taken = Taken
