-- A list whose first items are kept and whose others are all one.
use Rattle.std.proofs.Common.{refl, ◌≡◌, ◌<◌, ◌≤◌, ◌+◌, ◌-◌, ℕ, List, [], ◌++◌, length, get_or, set, replicate, sym, ◌∙◌, ap, arith}
use Rattle.std.proofs.Common.{length-append}
use Rattle.std.proofs.lemmas.List.{append_assoc, replicate-append-replicate, length-replicate, length-set, set-append_left, set-get_or}
use Rattle.std.proofs.lemmas.List.{get_or_append_left, get_or-append_right, get_or-replicate}

-- the list of n items that begins with these and goes on with zeros
abbrev pub padded : List (List ℕ) → ℕ → List (List ℕ)
padded kept n = kept ++ replicate (n - length kept) (replicate 512 0)

pub length-padded : (kept : List (List ℕ)) (n : ℕ) → length kept ≤ n → length (padded kept n) ≡ n
length-padded kept n fits =
    length-append kept (replicate (n - length kept) (replicate 512 0))
    ∙ ap (λ k. length kept + k) (length-replicate (n - length kept) (replicate 512 0))
    ∙ omega (arith, fits)

pub at_kept : (kept : List (List ℕ)) (n at : ℕ) → at < length kept → get_or (padded kept n) at [] ≡ get_or kept at []
at_kept kept n at on = get_or_append_left kept (replicate (n - length kept) (replicate 512 0)) [] at on

pub at_zeros : (kept : List (List ℕ)) (n at : ℕ) → length kept ≤ at → at < n → get_or (padded kept n) at [] ≡ replicate 512 0
at_zeros kept n at off on =
    get_or-append_right kept (replicate (n - length kept) (replicate 512 0)) (length kept) at [] refl off
    ∙ get_or-replicate (n - length kept) (at - length kept) (replicate 512 0) [] (omega (arith, off, on))

pub set_kept : (kept : List (List ℕ)) (n at : ℕ) (sector : List ℕ) → at < length kept
    → padded (set kept at sector) n ≡ set (padded kept n) at sector
set_kept kept n at sector on =
    ap (λ k. set kept at sector ++ replicate (n - k) (replicate 512 0)) (length-set kept at sector)
    ∙ sym (set-append_left kept (replicate (n - length kept) (replicate 512 0)) at sector on)

-- more of them are kept
pub kept_more : (kept : List (List ℕ)) (n k : ℕ) → k + length kept ≤ n → padded (kept ++ replicate k (replicate 512 0)) n ≡ padded kept n
kept_more kept n k fits =
    let zeros = replicate 512 0 in
    let long : length (kept ++ replicate k zeros) ≡ length kept + k = length-append kept (replicate k zeros)
    ∙ ap (λ j. length kept + j) (length-replicate k zeros) in
    let rest : k + (n - length (kept ++ replicate k zeros)) ≡ n - length kept = omega (arith, long, fits) in
    append_assoc kept (replicate k zeros) (replicate (n - length (kept ++ replicate k zeros)) zeros)
    ∙ ap (λ (l : List (List ℕ)). kept ++ l) (replicate-append-replicate k (n - length (kept ++ replicate k zeros)) zeros
    ∙ ap (λ j. replicate j zeros) rest)

-- the items up to one are kept
pub kept_to : (kept now : List (List ℕ)) (n at : ℕ) → length kept ≤ n → at < n
    → now ≡ kept ++ replicate (at + 1 - length kept) (replicate 512 0) → padded now n ≡ padded kept n
kept_to kept now n at fits on is = ap (λ l. padded l n) is ∙ kept_more kept n (at + 1 - length kept) (omega (arith, fits, on))

pub is_kept : (kept now : List (List ℕ)) (at : ℕ) → now ≡ kept ++ replicate (at + 1 - length kept) (replicate 512 0) → at < length now
is_kept kept now at is =
    let long : length now ≡ length kept + (at + 1 - length kept) =
    ap length is
    ∙ length-append kept (replicate (at + 1 - length kept) (replicate 512 0))
    ∙ ap (λ k. length kept + k) (length-replicate (at + 1 - length kept) (replicate 512 0)) in
    omega (arith, long)

-- then it holds what it held
pub held : (kept now : List (List ℕ)) (n at : ℕ) → length kept ≤ n → at < n
    → now ≡ kept ++ replicate (at + 1 - length kept) (replicate 512 0) → get_or now at [] ≡ get_or (padded kept n) at []
held kept now n at fits on is =
    sym (at_kept now n at (is_kept kept now at is)) ∙ ap (λ l. get_or l at []) (kept_to kept now n at fits on is)

-- and is written
pub written : (kept now : List (List ℕ)) (n at : ℕ) (sector : List ℕ) → length kept ≤ n → at < n
    → now ≡ kept ++ replicate (at + 1 - length kept) (replicate 512 0)
    → padded (set now at sector) n ≡ set (padded kept n) at sector
written kept now n at sector fits on is =
    set_kept now n at sector (is_kept kept now at is) ∙ ap (λ l. set l at sector) (kept_to kept now n at fits on is)

-- zeros over zeros
pub zeros_written : (kept : List (List ℕ)) (n at : ℕ) → length kept ≤ at → at < n → padded kept n ≡ set (padded kept n) at (replicate 512 0)
zeros_written kept n at off on =
    sym (set-get_or (padded kept n) at []) ∙ ap (λ x. set (padded kept n) at x) (at_zeros kept n at off on)

pub on : (kept : List (List ℕ)) (n at : ℕ) (all : List (List ℕ)) → length kept ≤ n → padded kept n ≡ all → at < length all → at < n
on kept n at all fits is below = omega (arith, below, ap length is, length-padded kept n fits)
