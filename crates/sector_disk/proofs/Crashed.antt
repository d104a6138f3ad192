-- A disk in memory after a crash, for the layers that go on with it.
use Rattle.std.proofs.Common.{◌≡◌, ℕ, [], length}
use Rattle.std.proofs.lemmas.List.{ext_get_or}
use Rattle.sector_disk.specs.Disk.{Image, IsImage, AllSynced}
use Rattle.sector_disk.specs.Memory.{state_of, all_synced}
use Rattle.sector_disk.proofs.Calls.{none_unsynced}

pub all_are_synced : (image : Image) (failures : ℕ) → AllSynced (state_of (all_synced image failures))
all_are_synced image failures at = none_unsynced (length image) at

-- it has one image, which is what reads give
pub only_image : (image : Image) (failures : ℕ) (c : Image) → IsImage (state_of (all_synced image failures)) c → c ≡ image
only_image image failures c is = ext_get_or [] c image is.size (λ at on. is.same at (none_unsynced (length image) at))
