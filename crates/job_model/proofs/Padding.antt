-- Bytes written over the front of a padded list: zeros stand behind them, once those that were left of the old ones are cleared.
use Rattle.std.proofs.Common.{◌≡◌, ℕ, ◌+◌, ◌-◌, ◌<◌, ◌≤◌, List, ◌++◌, length, take, drop, replicate, ap, refl, arith}
use Rattle.std.proofs.lemmas.List.{take_at, drop_at, drop-drop, drop-replicate, replicate-append-replicate}
use Rattle.job_model.specs.Padded.{padded, IsPadded}

-- from each later place on there are zeros too
later : (capacity len n : ℕ) (cells : List ℕ) → IsPadded capacity len cells → len ≤ n → drop n cells ≡ replicate (capacity - n) 0
later capacity len n cells h more =
    let there : len + (n - len) ≡ n = omega (arith, more) in
    let left : capacity - len - (n - len) ≡ capacity - n = omega (arith, more) in
    rw (
      drop-drop (n - len) len cells,
      there,
      drop-replicate {X = ℕ} (n - len) (capacity - len) 0,
      left,
    ) at (ap (λ ys. drop (n - len) ys) h.zeros)

-- no fewer bytes than before
pub written : (capacity len : ℕ) (xs cells : List ℕ) → IsPadded capacity len cells → len ≤ length xs
    → xs ++ drop (length xs) cells ≡ padded capacity xs
written capacity len xs cells h more = rw (later capacity len (length xs) cells h more) refl

-- fewer bytes, and zeros up to the place where the old ones ended
pub cleared : (capacity len : ℕ) (xs cells zeros : List ℕ) → IsPadded capacity len cells → length xs < len
    → zeros ≡ replicate (len - length xs) 0
    → take (length xs) (xs ++ drop (length xs) cells) ++ (zeros ++ drop (len - length xs) (drop (length xs) (xs ++ drop (length xs) cells)))
    ≡ padded capacity xs
cleared capacity len xs cells zeros h fewer is =
    let there : length xs + (len - length xs) ≡ len = omega (arith, fewer) in
    let left : len - length xs + (capacity - len) ≡ capacity - length xs = omega (arith, fewer, h.within) in
    rw (
      take_at xs (drop (length xs) cells) (length xs) refl,
      drop_at xs (drop (length xs) cells) (length xs) refl,
      drop-drop (len - length xs) (length xs) cells,
      there,
      h.zeros,
      is,
      replicate-append-replicate {A = ℕ} (len - length xs) (capacity - len) 0,
      left,
    )
    refl
