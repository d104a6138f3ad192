-- A list in two halves.
use Rattle.std.proofs.Common.{refl, ◌≡◌, ◌<◌, ◌≤◌, ◌-◌, ℕ, List, [], ◌++◌, length, get_or, set, sym}
use Rattle.std.proofs.lemmas.List.{set-append_left, set-append_right, get_or_append_left, get_or-append_right}

pub set_low : (low high : List (List ℕ)) (at : ℕ) (sector : List ℕ) → at < length low
    → set low at sector ++ high ≡ set (low ++ high) at sector
set_low low high at sector on = sym (set-append_left low high at sector on)

pub set_high : (low high : List (List ℕ)) (at : ℕ) (sector : List ℕ) → length low ≤ at
    → low ++ set high (at - length low) sector ≡ set (low ++ high) at sector
set_high low high at sector off = sym (set-append_right low high (length low) at sector refl off)

pub at_low : (low high : List (List ℕ)) (at : ℕ) → at < length low → get_or low at [] ≡ get_or (low ++ high) at []
at_low low high at on = sym (get_or_append_left low high [] at on)

pub at_high : (low high : List (List ℕ)) (at : ℕ) → length low ≤ at → get_or high (at - length low) [] ≡ get_or (low ++ high) at []
at_high low high at off = sym (get_or-append_right low high (length low) at [] refl off)
