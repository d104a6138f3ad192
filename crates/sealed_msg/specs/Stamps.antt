-- Which of two messages of one sender was sealed later.
use Rattle.std.specs.Prelude.{ℕ, nat_lt, ◌==◌, ◌&&◌, ◌||◌, Bool, List, ◌++◌}
use Rattle.std.specs.Int.{w64, to_be_bytes}
use Rattle.sealed_msg.specs.declared.stamp.Stamp.{Stamp}

-- one life is above another; in one life it is the numbers that tell
abbrev pub is_above : Stamp → Stamp → Bool
is_above stamp other = nat_lt other.life stamp.life || (stamp.life == other.life && nat_lt other.number stamp.number)

-- as bytes, high first
abbrev pub stamp_bytes : Stamp → List ℕ
stamp_bytes stamp = to_be_bytes w64 stamp.life ++ to_be_bytes w64 stamp.number
