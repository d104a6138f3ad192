-- A short list kept in a list of fixed length, with zeros behind it.
use Rattle.std.proofs.Common.{◌≡◌, ℕ, ◌-◌, ◌≤◌, List, ◌++◌, length, take, drop, replicate, arith}
use Rattle.std.proofs.lemmas.List.{take-append-drop, length-take}

abbrev pub padded : ℕ → List ℕ → List ℕ
padded capacity xs = xs ++ replicate (capacity - length xs) 0

pub record IsPadded (capacity len : ℕ) (cells : List ℕ) : Type 0 where
  pub whole : length cells ≡ capacity
  pub within : len ≤ capacity
  pub zeros : drop len cells ≡ replicate (capacity - len) 0

pub length-front : (capacity len : ℕ) (cells : List ℕ) → IsPadded capacity len cells → length (take len cells) ≡ len
length-front capacity len cells h = omega (arith, length-take len cells, h.whole, h.within)

pub padded-take : (capacity len : ℕ) (cells : List ℕ) → IsPadded capacity len cells → padded capacity (take len cells) ≡ cells
padded-take capacity len cells h =
    rw (length-front capacity len cells h, ← h.zeros) (take-append-drop len cells)
