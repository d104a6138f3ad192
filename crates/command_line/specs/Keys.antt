-- The secrets that a file of keys has.
use Rattle.std.specs.Prelude.{ℕ, ◌≡◌, ◌==◌, bit_and, List, [], ◌∷◌, length, if◌then◌else◌, option_map, Option, Some, None}
use Rattle.std.specs.Fs.{IsFile, file_type, metadata_mode}
use Rattle.std.specs.declared.fs.attrs.Metadata.{Metadata}
use Rattle.line_words.specs.Lines.{bytes_of}
use Rattle.command_line.specs.declared.keys.Secrets.{Secrets}

abbrev pub items_of : {A : Type 0} → Option A → (A → List ℕ) → Option (List ℕ)
items_of o items = option_map items o

-- the secret whose key seals, and the one whose key only opens
abbrev pub pair_of : Secrets → List ℕ × Option (List ℕ)
pair_of secrets = (secrets.own.items, items_of secrets.other (λ other. other.items))

abbrev pub secret_by : Option (List ℕ) → Option (List ℕ)
secret_by None = None
secret_by (Some bytes) = if length bytes == 32 then Some bytes else None

-- 64 hex digits spell one
abbrev pub secret_in : List ℕ → Option (List ℕ)
secret_in line = secret_by (bytes_of line)

abbrev pub one_of : Option (List ℕ) → Option (List ℕ × Option (List ℕ))
one_of None = None
one_of (Some own) = Some (own, None)

abbrev pub two_of : Option (List ℕ) → Option (List ℕ) → Option (List ℕ × Option (List ℕ))
two_of None other = None
two_of (Some own) None = None
two_of (Some own) (Some other) = Some (own, Some other)

-- a line, and what stands behind its line feed
abbrev pub first_and : List ℕ → List ℕ → Option (List ℕ × Option (List ℕ))
first_and first [] = one_of (secret_in first)
first_and first (c ∷ behind) = two_of (secret_in first) (secret_in (c ∷ behind))

-- a second line, and what stands behind its line feed
abbrev pub second_and : List ℕ → List ℕ → List ℕ → Option (List ℕ × Option (List ℕ))
second_and first second [] = two_of (secret_in first) (secret_in second)
second_and first second (c ∷ behind) = None

-- one secret a line, one line or two; the last line feed may be left out
abbrev pub secrets_of : List (List ℕ) → Option (List ℕ × Option (List ℕ))
secrets_of [] = None
secrets_of (first ∷ []) = one_of (secret_in first)
secrets_of (first ∷ behind ∷ []) = first_and first behind
secrets_of (first ∷ second ∷ behind ∷ []) = second_and first second behind
secrets_of (first ∷ second ∷ third ∷ fourth ∷ lines) = None

-- a regular file whose mode gives nothing to the group and to others
abbrev pub IsPrivate : Metadata → Type 0
IsPrivate about = IsFile (file_type about) × (bit_and (metadata_mode about) 0o077 ≡ 0)
