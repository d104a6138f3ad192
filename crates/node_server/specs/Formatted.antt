-- What is made on the disk of a node.
use Rattle.std.specs.Prelude.{◌≤◌, ◌+◌, length, IsTrue}
use Rattle.sector_disk.specs.Disk.{DiskState}
use Rattle.job_model.specs.Table.{Table, durable_of}
use Rattle.node_store.specs.Store.{slots_for, AllStandFor}
use Rattle.node_store.specs.Beginning.{HasNoCounter}

-- the disk has room for these jobs, and for two records more
abbrev pub HasRoom : DiskState → Table → Type 0
HasRoom disk jobs = length jobs.pending + 2 ≤ slots_for disk.sectors

-- a disk that had no store has one of these jobs in each image, and its next id is the number of its counter, too
abbrev pub IsMade : DiskState → DiskState → Table → Type 0
IsMade old new jobs = IsTrue old.honest → HasNoCounter old → AllStandFor (slots_for old.sectors) (durable_of jobs.next jobs) new
