-- What a line asks for, as a function of its bytes.
use Rattle.std.specs.Prelude.{ℕ, List, [], ◌∷◌, length, nat_le, ◌&&◌, Bool, bytes_eq, codes, if◌then◌else◌, Option, Some, None}
use Rattle.std.specs.List.{list_all}
use Rattle.line_words.specs.Words.{number_of, words_of}
use Rattle.lease_network.specs.Network.{Name}
use Rattle.lease_message.specs.declared.lease_name.TheConstants.{NAME_CAPACITY}
use Rattle.lease_session.specs.declared.asked.Asked.{Asked}
use Rattle.lease_session.specs.declared.asked.Asked.TheVariants as ask

-- It can't be read; or it tells a time of the machine's clock, and of nothing else, of a message that came, of a user that asks for the
-- lease of a name, or of one
-- that asks no more.
pub data Meaning : Type 0 where
  Bad : Meaning
  Tick : ℕ → Meaning
  Deliver : ℕ → List ℕ → Meaning
  Acquire : ℕ → Name → ℕ → Meaning
  Release : ℕ → Name → ℕ → Meaning

-- as the code has it
abbrev pub meant : Asked → Meaning
meant ask.Bad = Bad
meant (ask.Tick now) = Tick now
meant (ask.Deliver now word) = Deliver now word.now
meant (ask.Acquire now name user) = Acquire now name user
meant (ask.Release now name user) = Release now name user

-- with what was read, if it could be read
abbrev pub meant_with : {A : Type 0} → (A → Meaning) → Option A → Meaning
meant_with meaning None = Bad
meant_with meaning (Some x) = meaning x

-- a letter of ASCII other than a space
abbrev pub is_printable : ℕ → Bool
is_printable c = nat_le 33 c && nat_le c 126

abbrev pub has_length : List ℕ → Bool
has_length word = nat_le 1 (length word) && nat_le (length word) NAME_CAPACITY

-- the name that a word is: 1 to 64 printable letters
abbrev pub name_of : List ℕ → Option Name
name_of word = if list_all is_printable word then (if has_length word then Some word else None) else None

abbrev pub one_field : List ℕ → List ℕ → Meaning
one_field name time = if bytes_eq name (codes "tick") then meant_with Tick (number_of time) else Bad

abbrev pub two_fields : List ℕ → List ℕ → List ℕ → Meaning
two_fields name time word = if bytes_eq name (codes "deliver") then meant_with (λ now. Deliver now word) (number_of time) else Bad

abbrev pub user_asks : List ℕ → ℕ → Name → ℕ → Meaning
user_asks name now lease user =
    if bytes_eq name (codes "acquire") then Acquire now lease user else
    if bytes_eq name (codes "release") then Release now lease user else Bad

abbrev pub three_fields : List ℕ → List ℕ → List ℕ → List ℕ → Meaning
three_fields name time lease user =
    meant_with (λ now. meant_with (λ lease. meant_with (λ user. user_asks name now lease user) (number_of user)) (name_of lease))
    (number_of time)

abbrev pub meaning_words : List (List ℕ) → Meaning
meaning_words [] = Bad
meaning_words (name ∷ []) = Bad
meaning_words (name ∷ time ∷ []) = one_field name time
meaning_words (name ∷ time ∷ word ∷ []) = two_fields name time word
meaning_words (name ∷ time ∷ lease ∷ user ∷ []) = three_fields name time lease user
meaning_words (name ∷ time ∷ lease ∷ user ∷ more ∷ rest) = Bad

-- what a line asks for
abbrev pub meaning_of : List ℕ → Meaning
meaning_of line = meaning_words (words_of line)
