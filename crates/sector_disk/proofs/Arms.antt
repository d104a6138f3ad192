-- How many calls of an armed disk still pass.
use Rattle.std.proofs.Common.{ℕ, Option, Some, None, refl, arith}
use Rattle.sector_disk.specs.Disk.{NoMorePass}

pub no_more_still : (armed : Option ℕ) → NoMorePass armed armed
no_more_still None = refl
no_more_still (Some calls) = omega arith

pub no_more_then : (old mid new : Option ℕ) → NoMorePass old mid → NoMorePass mid new → NoMorePass old new
no_more_then None None new first second = second
no_more_then None (Some calls) new first second = absurd (let bad = first in cc)
no_more_then (Some was) None new first second = absurd first
no_more_then (Some was) (Some calls) None first second = absurd second
no_more_then (Some was) (Some calls) (Some left) first second = omega (arith, first, second)
