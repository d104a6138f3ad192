-- A disk in memory seen from its fields.
use Rattle.sector_disk.specs.Memory.{Memory}
use Rattle.sector_disk.specs.Undo.{undone, spans_of, IsNoted}
use Rattle.sector_disk.specs.declared.memory.MemDisk.TheInside.{Inside}

abbrev pub memory_of : Inside → Memory
memory_of disk = record {
  contents = disk.sectors;
  synced = undone disk.notes.since disk.sectors;
  unsynced = disk.unsynced.items;
  spans = spans_of disk.notes.times (undone disk.notes.since disk.sectors);
  failures = disk.failures;
  left = disk.left;
}

abbrev pub HasNotes : Inside → Type 0
HasNotes disk = IsNoted disk.sectors disk.unsynced.items disk.notes.since disk.torn
