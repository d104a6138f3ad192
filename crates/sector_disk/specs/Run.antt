-- What a run of calls leaves at each moment since its start.
use Rattle.std.specs.Prelude.{◌⊎◌, ℕ, ◌≤◌}
use Rattle.sector_disk.specs.Disk.{Image, DiskState, IsImage, SameBut}

-- The calls from old to new wrote to no other sectors, in any image that a crash since might have left.
pub record Run (touched : ℕ → Type 0) (old new : DiskState) : Type 0 where
  pub later : old.moment ≤ new.moment
  -- for a run that began earlier
  pub splits : (t : ℕ) (c : Image) → t ≤ old.moment → new.left_since t c → old.left_since t c ⊎ new.left_since old.moment c
  pub keeps : (t : ℕ) (c : Image) → t ≤ old.moment → old.left_since t c → new.left_since t c
  -- of an earlier moment there are more
  pub earlier : (s t : ℕ) (c : Image) → s ≤ t → new.left_since t c → new.left_since s c
  -- what a crash may leave at the end is one of these images
  pub ends : (c : Image) → IsImage new c → new.left_since old.moment c
  -- each image since the start is one from the start, but for what was touched
  pub follows : (c : Image) → new.left_since old.moment c → (d : Image) × IsImage old d × SameBut touched d c
  pub contents : SameBut touched old.contents new.contents

-- each image that a crash since the start of a run might have left
abbrev pub Each : DiskState → DiskState → (Image → Type 0) → Type 0
Each old new P = (c : Image) → new.left_since old.moment c → P c
