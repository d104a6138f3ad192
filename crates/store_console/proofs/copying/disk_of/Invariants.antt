use Rattle.std.proofs.Common.{◌≡◌, ◌<◌, ◌*◌, ◌/◌, ℕ, length, take, drop}
use Rattle.file_disk.specs.File.{bytes_of}
use Rattle.sector_disk.specs.Disk.{sector_at}
use Rattle.store_console.proofs.copying.disk_of.Given as goal

abbrev pub invariant-loop-at : goal.invariant-loop-at
invariant-loop-at l = record {
  size : length l.disk.contents ≡ length l.bytes / bytes_of l.stride;
  copied : (k : ℕ) → k < l.at → sector_at l.disk.contents k ≡ take 512 (drop (bytes_of l.stride * k) l.bytes);
}
