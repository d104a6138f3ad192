-- What is sent in place of a message, and what it is opened to. A key is a block of 64 bytes.
use Rattle.std.specs.Prelude.{ℕ, ◌-◌, ◌<◌, nat_lt, List, ◌++◌, length, take, drop, bytes_eq, if◌then◌else◌, Option, Some, None, All}
use Rattle.std.specs.Int.{w64, from_be_bytes}
use Rattle.sealed_msg.specs.declared.stamp.Stamp.{Stamp}
use Rattle.sealed_msg.specs.Hmac.{hmac_by}
use Rattle.sealed_msg.specs.Stamps.{stamp_bytes}

-- a message and its stamp, of which the tag is
abbrev pub stamped : List ℕ → Stamp → List ℕ
stamped message stamp = message ++ stamp_bytes stamp

-- with the tag behind it
abbrev pub sealed : List ℕ → List ℕ → Stamp → List ℕ
sealed key message stamp = stamped message stamp ++ hmac_by key (stamped message stamp)

-- ---- the way back

-- the stamp that 16 bytes spell
abbrev pub stamp_in : List ℕ → Stamp
stamp_in bytes = record { life = from_be_bytes w64 (take 8 bytes); number = from_be_bytes w64 (drop 8 bytes) }

-- what stands in front of the last n bytes, and those
abbrev pub front : ℕ → List ℕ → List ℕ
front n bytes = take (length bytes - n) bytes

abbrev pub back : ℕ → List ℕ → List ℕ
back n bytes = drop (length bytes - n) bytes

-- the message and the stamp that bytes with the right tag have
abbrev pub opened : List ℕ → List ℕ → Option (List ℕ × Stamp)
opened key bytes =
    if nat_lt (length bytes) 48 then None else
    if bytes_eq (back 32 bytes) (hmac_by key (front 32 bytes)) then Some (front 16 (front 32 bytes), stamp_in (back 16 (front 32 bytes)))
    else None

-- each is a byte
abbrev pub AreBytes : List ℕ → Type 0
AreBytes bytes = All (λ b. b < 256) bytes
