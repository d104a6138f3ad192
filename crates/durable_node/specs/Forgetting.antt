-- A disk in memory that has forgotten its earlier moments, wherever it stands.
use Rattle.std.specs.Prelude.{Option, Some, None, []}
use Rattle.sector_disk.specs.Memory.{Memory}
use Rattle.durable_node.specs.declared.node_disk.NodeDisk.{NodeDisk}
use Rattle.durable_node.specs.declared.node_disk.NodeDisk.TheVariants.{Bare, Mounted, Taken}

abbrev pub forgotten_disk : Option Memory → Option Memory
forgotten_disk None = None
forgotten_disk (Some disk) = Some (record disk { spans = [] })

-- the same of a disk where it stands
abbrev pub forgotten_in : NodeDisk Memory → NodeDisk Memory
forgotten_in (Bare disk) = Bare (record disk { spans = [] })
forgotten_in (Mounted store) = Mounted (record store { disk = record store.disk { spans = [] } })
forgotten_in Taken = Taken
