-- Lines of an answer: where they end, and which of them hand out a message.
use Rattle.std.proofs.Common.{◌≡◌, ℕ, zero, suc, ◌+◌, ◌/◌, ◌%◌, ◌<◌, ◌==◌, Bool, true, false, ◌&&◌, List, [], ◌∷◌, ◌++◌, get_or, refl, ap}
use Rattle.std.proofs.Common.{◌∙◌, arith, append_assoc}
use Rattle.std.specs.Prelude.{bytes_eq, codes, decimal, if◌then◌else◌, slice_index}
use Rattle.std.specs.Fmt.{digit_glyph, digits, digits_onto}
use Rattle.std.specs.List.{onto_first, slice_split}
use Rattle.std.proofs.lemmas.Bool.{lt-ltb}
use Rattle.std.proofs.lemmas.Bool.Decides.{nat_tests}
use Rattle.std.proofs.lemmas.List.Splits.{slice_split-cons_yes, slice_split-cons_no}
use Rattle.hex.specs.Hex.{encode_lower, encode_with, lower_digits}
use Rattle.console_text.specs.Words.{bytes_text, priority_text, work_text}
use Rattle.line_words.specs.Lines.{is_line_feed, lines_of}
use Rattle.line_words.specs.Words.{first_word, is_space, words_of}
use Rattle.node_session.specs.Sending.{is_send}

-- ---- texts without a line feed or a space

-- none of them passes
abbrev pub none_of : (ℕ → Bool) → List ℕ → Bool
none_of p [] = true
none_of p (c ∷ text) = if p c then false else none_of p text

pub none_first : (p : ℕ → Bool) (c : ℕ) (text : List ℕ) → none_of p (c ∷ text) ≡ true → (p c ≡ false) × (none_of p text ≡ true)
none_first p c text none = by_test (p c) refl none
  where
    by_test : (b : Bool) → p c ≡ b → (if b then false else none_of p text) ≡ true → (p c ≡ false) × (none_of p text ≡ true)
    by_test true is none = absurd cc
    by_test false is none = (is, none)

none_cons : (p : ℕ → Bool) (c : ℕ) (text : List ℕ) → p c ≡ false → none_of p text ≡ true → none_of p (c ∷ text) ≡ true
none_cons p c text first none = ap (λ (b : Bool). if b then false else none_of p text) first ∙ none

pub none_both : (p : ℕ → Bool) (x y : List ℕ) → none_of p x ≡ true → none_of p y ≡ true → none_of p (x ++ y) ≡ true
none_both p [] y first second = second
none_both p (c ∷ x) y first second = (let parts = none_first p c x first in none_cons p c (x ++ y) parts.0 (none_both p x y parts.1 second))

none_at : (p : ℕ → Bool) (text : List ℕ) (i : ℕ) → none_of p text ≡ true → p 0 ≡ false → p (get_or text i 0) ≡ false
none_at p [] i none past = past
none_at p (c ∷ text) zero none past = (none_first p c text none).0
none_at p (c ∷ text) (suc i) none past = none_at p text i (none_first p c text none).1 past

abbrev pub one_line : List ℕ → Type 0
one_line text = none_of is_line_feed text ≡ true

abbrev pub one_word : List ℕ → Type 0
one_word text = none_of is_space text ≡ true

-- ---- numbers and bytes

digits_free : (p : ℕ → Bool) → ((d : ℕ) → d < 10 → p (48 + d) ≡ false) → (k n : ℕ) (acc : List ℕ) → none_of p acc ≡ true
    → none_of p (digits_onto k 10 false n acc) ≡ true
digits_free p free zero n acc none = none
digits_free p free (suc k) n acc none = by_test (n / 10 == 0) (λ front later. digits_free p free k (n / 10) front later)
  where
    glyph : digit_glyph false (n % 10) ≡ 48 + n % 10
    glyph = ap (λ (b : Bool). if b then 48 + n % 10 else 87 + n % 10) (lt-ltb (n % 10) 10 (omega arith))

    more : none_of p (digit_glyph false (n % 10) ∷ acc) ≡ true
    more = none_cons p (digit_glyph false (n % 10)) acc (ap p glyph ∙ free (n % 10) (omega arith)) none

    by_test : (b : Bool) → ((front : List ℕ) → none_of p front ≡ true → none_of p (digits_onto k 10 false (n / 10) front) ≡ true)
        → none_of p (if b then digit_glyph false (n % 10) ∷ acc else digits_onto k 10 false (n / 10) (digit_glyph false (n % 10) ∷ acc))
        ≡ true
    by_test true later = more
    by_test false later = later (digit_glyph false (n % 10) ∷ acc) more

decimal_free : (p : ℕ → Bool) → ((d : ℕ) → d < 10 → p (48 + d) ≡ false) → (n : ℕ) → none_of p (decimal n) ≡ true
unfolding digits
decimal_free p free n = digits_free p free 64 n [] refl

pub number_line : (n : ℕ) → one_line (decimal n)
number_line n = decimal_free is_line_feed (λ d low. grind (arith, nat_tests, low)) n

pub number_word : (n : ℕ) → one_word (decimal n)
number_word n = decimal_free is_space (λ d low. grind (arith, nat_tests, low)) n

hex_free : (p : ℕ → Bool) → none_of p lower_digits ≡ true → p 0 ≡ false → (bytes : List ℕ) → none_of p (encode_lower bytes) ≡ true
unfolding encode_with
hex_free p none past [] = refl
hex_free p none past (b ∷ bytes) =
    none_cons p (slice_index lower_digits (b / 16)) (slice_index lower_digits (b % 16) ∷ encode_with lower_digits bytes)
    (none_at p lower_digits (b / 16) none past)
    (none_cons p (slice_index lower_digits (b % 16)) (encode_with lower_digits bytes) (none_at p lower_digits (b % 16) none past)
    (hex_free p none past bytes))

pub hex_line : (bytes : List ℕ) → one_line (encode_lower bytes)
hex_line bytes = hex_free is_line_feed refl refl bytes

pub hex_word : (bytes : List ℕ) → one_word (encode_lower bytes)
hex_word bytes = hex_free is_space refl refl bytes

payload_line : (bytes : List ℕ) → one_line (bytes_text bytes)
payload_line [] = refl
payload_line (b ∷ bytes) = hex_line (b ∷ bytes)

priority_line : (priority : ℕ) → one_line (priority_text priority)
priority_line priority = by_test (priority == 0)
  where
    by_test : (b : Bool) → one_line (if b then [] else codes " " ++ decimal priority)
    by_test true = refl
    by_test false = number_line priority

pub both_lines : (x y : List ℕ) → one_line x → one_line y → one_line (x ++ y)
both_lines x y first second = none_both is_line_feed x y first second

pub work_line : (queue : ℕ) (payload : List ℕ) (priority : ℕ) → one_line (work_text queue payload priority)
work_line queue payload priority =
    both_lines (decimal queue ++ codes " " ++ bytes_text payload) (priority_text priority)
    (both_lines (decimal queue ++ codes " ") (bytes_text payload) (both_lines (decimal queue) (codes " ") (number_line queue) refl)
    (payload_line payload)) (priority_line priority)

-- ---- where a line ends, and a word

split_first : (p : ℕ → Bool) (w : List ℕ) (c : ℕ) (rest : List ℕ) → none_of p w ≡ true → p c ≡ true
    → slice_split p (w ++ c ∷ rest) ≡ w ∷ slice_split p rest
split_first p [] c rest none ends = slice_split-cons_yes p c rest ends
split_first p (b ∷ w) c rest none ends =
    (let parts = none_first p b w none in slice_split-cons_no p b (w ++ c ∷ rest) parts.0
    ∙ ap (onto_first b) (split_first p w c rest parts.1 ends))

split_alone : (p : ℕ → Bool) (w : List ℕ) → none_of p w ≡ true → slice_split p w ≡ w ∷ []
split_alone p [] none = refl
split_alone p (b ∷ w) none = (let parts = none_first p b w none in
    slice_split-cons_no p b w parts.0 ∙ ap (onto_first b) (split_alone p w parts.1))

pub cut_first : (line rest : List ℕ) → one_line line → lines_of ((line ++ codes "\n") ++ rest) ≡ line ∷ lines_of rest
cut_first line rest one = ap lines_of (append_assoc line (codes "\n") rest) ∙ split_first is_line_feed line 10 rest one refl

pub word_first : (word rest : List ℕ) → one_word word → words_of (word ++ 32 ∷ rest) ≡ word ∷ words_of rest
word_first word rest one = split_first is_space word 32 rest one refl

pub word_alone : (word : List ℕ) → one_word word → words_of word ≡ word ∷ []
word_alone word one = split_alone is_space word one

-- ---- lines that begin with another word than `send`

no_send : (c d : ℕ) (parts : List (List ℕ)) → (c == 115 && d == 101) ≡ false
    → bytes_eq (first_word (onto_first c (onto_first d parts))) (codes "send") ≡ false
no_send c d [] other = by_tests (c == 115) (d == 101) other
  where
    by_tests : (a b : Bool) → (a && b) ≡ false → (a && (b && false)) ≡ false
    by_tests true true other = absurd cc
    by_tests true false other = refl
    by_tests false b other = refl
no_send c d (word ∷ parts) other = by_tests (c == 115) (d == 101) (bytes_eq word (codes "nd")) other
  where
    by_tests : (a b r : Bool) → (a && b) ≡ false → (a && (b && r)) ≡ false
    by_tests true true r other = absurd cc
    by_tests true false r other = refl
    by_tests false b r other = refl

-- its first two bytes tell
pub other_word : (c d : ℕ) (rest : List ℕ) → is_space c ≡ false → is_space d ≡ false → (c == 115 && d == 101) ≡ false
    → is_send (c ∷ d ∷ rest) ≡ false
other_word c d rest first second other =
    ap (λ (ws : List (List ℕ)). bytes_eq (first_word ws) (codes "send"))
    (slice_split-cons_no is_space c (d ∷ rest) first ∙ ap (onto_first c) (slice_split-cons_no is_space d rest second))
    ∙ no_send c d (words_of rest) other
