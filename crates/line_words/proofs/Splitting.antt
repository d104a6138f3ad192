-- The first part of a text that a byte parts.
use Rattle.std.proofs.Common.{◌≡◌, ℕ, zero, suc, ◌+◌, ◌-◌, ◌<◌, ◌==◌, Bool, true, false, List, [], ◌∷◌, length, take, drop, refl, ap, ◌∙◌}
use Rattle.std.proofs.Common.{arith, add-one}
use Rattle.std.specs.Prelude.{slice_index}
use Rattle.std.specs.List.{onto_first, slice_split}
use Rattle.std.proofs.lemmas.List.Splits.{slice_split-cons_yes, slice_split-cons_no}
use Rattle.std.proofs.lemmas.List.{take_rest, length-drop}
use Rattle.memchr.specs.Find.{NoneBefore, Nowhere, Passes, is_byte}
use Rattle.line_words.specs.Lines.{lines_of, CutsLine}
use Rattle.line_words.specs.Words.{words_of, CutsWord}

-- the parts of a text between bytes of this value
abbrev parts : ℕ → List ℕ → List (List ℕ)
parts b text = slice_split (λ c. c == b) text

not_true : (b : Bool) → (b ≡ true → ⊥) → b ≡ false
not_true true h = absurd (h refl)
not_true false h = refl

-- a text without the byte is the only part
last_part : (b : ℕ) (text : List ℕ) → ((i : ℕ) → i < length text → is_byte b (slice_index text i) ≡ true → ⊥) → parts b text ≡ text ∷ []
last_part b [] none = refl
last_part b (c ∷ text) none =
    slice_split-cons_no (λ d. d == b) c text (not_true (c == b) (none 0 (omega arith)))
    ∙ ap (onto_first c) (last_part b text (λ i within. none (suc i) (omega arith)))

-- the first part ends before the first such byte
first_part : (b : ℕ) (text : List ℕ) (k : ℕ) → k < length text → ((i : ℕ) → i < k → is_byte b (slice_index text i) ≡ true → ⊥)
    → is_byte b (slice_index text k) ≡ true
    → parts b text ≡ take k text ∷ parts b (drop (suc k) text)
first_part b [] k within none here = absurd (omega arith)
first_part b (c ∷ text) zero within none here = slice_split-cons_yes (λ d. d == b) c text here
first_part b (c ∷ text) (suc k) within none here =
    slice_split-cons_no (λ d. d == b) c text (not_true (c == b) (none 0 (omega arith)))
    ∙ ap (onto_first c) (first_part b text k (omega arith) (λ i before. none (suc i) (omega arith)) here)

-- where the first such byte is found
first_at : (b : ℕ) (text : List ℕ) (k : ℕ) → NoneBefore (Passes (is_byte b) text) 0 (length text) k × Passes (is_byte b) text k
    → parts b text ≡ take k text ∷ parts b (drop (k + 1) text)
first_at b text k at_place = rw add-one (first_part b text k at_place.0.high (λ i before here.
    at_place.0.before i (omega arith) before here) at_place.1)

none_at : (b : ℕ) (text : List ℕ) → Nowhere (Passes (is_byte b) text) 0 (length text) → parts b text ≡ text ∷ []
none_at b text none = last_part b text (λ i within here. none i (omega arith) within here)

-- a text has a part, also where it is empty
some_part : (b : ℕ) (text : List ℕ) → 0 < length (parts b text)
some_part b [] = omega arith
some_part b (c ∷ text) = by_cases (c == b) refl
  where
    longer : (ps : List (List ℕ)) → 0 < length (onto_first c ps)
    longer [] = omega arith
    longer (p ∷ ps) = omega arith

    by_cases : (t : Bool) → (c == b) ≡ t → 0 < length (parts b (c ∷ text))
    by_cases true is = rw (slice_split-cons_yes (λ d. d == b) c text is) (omega arith)
    by_cases false is = rw (slice_split-cons_no (λ d. d == b) c text is) (longer (parts b text))

-- ---- lines

-- the first line ends where the first line feed is found
pub cut_at : (text : List ℕ) (k : ℕ) → NoneBefore (Passes (is_byte 10) text) 0 (length text) k × Passes (is_byte 10) text k
    → CutsLine text (take k text) (take (length text - (k + 1)) (drop (k + 1) text))
cut_at text k at_place = rw (take_rest text (k + 1)) (record {
  lines = first_at 10 text k at_place;
  shorter = let within : k < length text = at_place.0.high in rw (length-drop (k + 1) text) (omega arith);
})

-- without a line feed the text is one line
pub cut_nowhere : (text : List ℕ) → Nowhere (Passes (is_byte 10) text) 0 (length text) → lines_of text ≡ text ∷ []
cut_nowhere text none = none_at 10 text none

-- ---- words

-- the first word ends where the first space is found
pub cut_word_at : (line : List ℕ) (k : ℕ) → NoneBefore (Passes (is_byte 32) line) 0 (length line) k × Passes (is_byte 32) line k
    → CutsWord line (take k line) (take (length line - (k + 1)) (drop (k + 1) line))
cut_word_at line k at_place = rw (take_rest line (k + 1)) (record {
  words = first_at 32 line k at_place;
  some = some_part 32 (drop (k + 1) line);
})

-- without a space the line is one word
pub one_word : (line : List ℕ) → Nowhere (Passes (is_byte 32) line) 0 (length line) → words_of line ≡ line ∷ []
one_word line none = none_at 32 line none
