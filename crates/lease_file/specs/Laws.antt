-- What a process is told that begins after others.
use Rattle.std.specs.Prelude.{◌≡◌, ◌<◌, ◌≤◌, Some}
use Rattle.sector_disk.specs.Disk.{Image}
use Rattle.lease_file.specs.declared.file.Begun.{Begun}
use Rattle.lease_file.specs.Blocks.{bound_of}
use Rattle.lease_file.specs.Calls.{begun_by}
use Rattle.lease_file.specs.Kept.{Kept, kept_in}

-- it is another process than those who were told of these, no epoch that they may have granted is above its floor, and none of them kept
-- grants for longer than it is told
pub record IsAbove (old : Kept) (begun : Begun) : Type 0 where
  pub number : old.count < begun.process
  pub floor : bound_of old.count ≤ begun.floor
  pub waits : old.keeps ≤ begun.waits

-- it is told of what the image keeps
abbrev pub IsToldOf : Image → Begun → Type 0
IsToldOf image begun = (k : Kept) × (kept_in image ≡ Some k) × (begun ≡ begun_by k)
