-- Where the sectors of a file lie.
use Rattle.std.proofs.Common.{◌<◌, ◌≤◌, ◌+◌, ◌*◌, ◌/◌, ℕ, arith}
use Rattle.file_disk.specs.File.{bytes_of}
use Rattle.file_disk.specs.declared.stride.Stride.{Stride}
use Rattle.file_disk.specs.declared.stride.Stride.TheVariants.{Packed, Spaced}

pub fits : (stride : Stride) (at bytes : ℕ) → at < bytes / bytes_of stride → bytes_of stride * at + 512 ≤ bytes
fits Packed at bytes less = omega (arith, less)
fits Spaced at bytes less = omega (arith, less)
