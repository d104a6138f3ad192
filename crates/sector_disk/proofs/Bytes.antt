-- A sector without its last zeros, and back.
use Rattle.std.proofs.Common.{◌≡◌, ◌+◌, ◌-◌, ◌≤◌, ⊎_elim, ℕ, List, [], ◌∷◌, ◌++◌, length, take, drop, replicate, min, refl, sym, ◌∙◌, ap}
use Rattle.std.proofs.Common.{arith, take-append-drop}
use Rattle.std.proofs.lemmas.List.{take_all, drop_all, drop-replicate, length-take, length-drop, replicate-append-replicate, drop-drop}
use Rattle.std.proofs.lemmas.Bool.{cases_lt}
use Rattle.sector_disk.specs.Undo.{last_of, whole}
use Rattle.sector_disk.specs.Crash.{filled}

pub trim_step : (s : List ℕ) (n b : ℕ) → length s ≡ 512 → b ≤ n → n ≤ 512
    → take (n - (n - b)) (drop (n - b) s) ≡ replicate (length (take (n - (n - b)) (drop (n - b) s))) 0 → drop n s ≡ replicate (512 - n) 0
    → drop (n - b) s ≡ replicate (512 - (n - b)) 0
trim_step s n b long some most block rest =
    let back = length-drop (n - b) s in
    let size : length (take (n - (n - b)) (drop (n - b) s)) ≡ b = length-take (n - (n - b)) (drop (n - b) s)
    ∙ omega (arith, some, most, long, back) in
    let next : n - b + (n - (n - b)) ≡ n = omega (arith, some) in
    let count : b + (512 - n) ≡ 512 - (n - b) = omega (arith, some, most) in
    sym (take-append-drop (n - (n - b)) (drop (n - b) s))
    ∙ ap (λ (l : List ℕ). l ++ drop (n - (n - b)) (drop (n - b) s)) (block ∙ ap (λ k. replicate k 0) size)
    ∙ ap (λ (l : List ℕ). replicate b 0 ++ l) (drop-drop (n - (n - b)) (n - b) s ∙ ap (λ k. drop k s) next ∙ rest)
    ∙ replicate-append-replicate b (512 - n) 0
    ∙ ap (λ k. replicate k 0) count

pub trim_done : (s : List ℕ) (n : ℕ) → n ≤ 512 → length s ≡ 512 → drop n s ≡ replicate (512 - n) 0 → whole (take n s) ≡ s
trim_done s n most long rest =
    let size : length (take n s) ≡ n = length-take n s ∙ omega (arith, most, long) in
    ap (λ (l : List ℕ). l ++ replicate (512 - length (take n s)) 0) (take_all 512 (take n s) (omega (arith, size, most)))
    ∙ ap (λ k. take n s ++ replicate (512 - k) 0) size
    ∙ ap (λ (l : List ℕ). take n s ++ l) (sym rest)
    ∙ take-append-drop n s

-- the least of a size and 512 does as 512 does, where all numbers from the size on do the same
by_least : (f : ℕ → List ℕ) (all : List ℕ) (size n : ℕ) → ((k : ℕ) → size ≤ k → f k ≡ all) → n ≡ min size 512 → f n ≡ f 512
by_least f all size n past is =
    ⊎_elim
    (λ big. let e : n ≡ 512 = omega (arith, is, big) in ap f e)
    (λ small. past n (omega (arith, is, small)) ∙ sym (past 512 small))
    (cases_lt 512 size)

pub taken : (bytes : List ℕ) (n : ℕ) → n ≡ min (length bytes) 512 → take n bytes ≡ take 512 bytes
taken bytes n is = by_least (λ k. take k bytes) bytes (length bytes) n (λ k le. take_all k bytes le) is

pub dropped : (bytes : List ℕ) (n : ℕ) → n ≡ min (length bytes) 512 → drop n bytes ≡ drop 512 bytes
dropped bytes n is = by_least (λ k. drop k bytes) [] (length bytes) n (λ k le. drop_all k bytes le) is

pub expanded : (bytes : List ℕ) (n : ℕ) → n ≡ min (length bytes) 512 → take n bytes ++ drop n (replicate 512 0) ≡ whole bytes
expanded bytes n is =
    let count : 512 - n ≡ 512 - length bytes = omega (arith, is) in
    ap (λ (l : List ℕ). l ++ drop n (replicate 512 0)) (taken bytes n is)
    ∙ ap (λ (l : List ℕ). take 512 bytes ++ l) (drop-replicate n 512 0 ∙ ap (λ k. replicate k 0) count)

pub torn : (fill sector : List ℕ) (n : ℕ) → n ≡ min (length fill) 512 → take n fill ++ drop n sector ≡ filled fill sector
torn fill sector n is =
    let size : length (take n fill) ≡ n = length-take n fill ∙ omega (arith, is) in
    ap (λ k. take n fill ++ drop k sector) (sym size)
    ∙ ap (λ (l : List ℕ). l ++ drop (length l) sector) (taken fill n is)

-- a sector of its first bytes and zeros
pub short_alone : (s short : List ℕ) → length s ≡ 512 → short ≡ take 32 s → drop 32 s ≡ replicate 480 0 → whole short ≡ s
short_alone s short long is zeros = ap whole is ∙ trim_done s 32 (omega arith) long zeros

pub last_of_long : (short long : List ℕ) → 32 ≤ length long → last_of short long ≡ long
last_of_long short [] least = absurd (omega (arith, least))
last_of_long short (byte ∷ bytes) least = refl
