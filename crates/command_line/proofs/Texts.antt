-- A text of more than two lines has no secrets; and what is mapped twice.
use Rattle.std.proofs.Common.{◌≡◌, ◌<◌, ℕ, Bool, true, false, List, [], ◌∷◌, length, refl, ap, ◌∙◌, arith, Option, None, Some}
use Rattle.std.specs.Prelude.{option_map}
use Rattle.std.specs.List.{onto_first}
use Rattle.std.proofs.lemmas.List.Splits.{length-slice_split, slice_split-cons_yes, slice_split-cons_no}
use Rattle.line_words.specs.Lines.{is_line_feed, lines_of}
use Rattle.command_line.specs.Keys.{secrets_of}

behind_feed : (first second : List ℕ) (lines : List (List ℕ)) → 0 < length lines → secrets_of (first ∷ second ∷ [] ∷ lines) ≡ None
behind_feed first second [] some = absurd (omega arith)
behind_feed first second (line ∷ lines) some = refl

behind_byte : (first second : List ℕ) (c : ℕ) (lines : List (List ℕ)) → secrets_of (first ∷ second ∷ onto_first c lines) ≡ None
behind_byte first second c [] = refl
behind_byte first second c (line ∷ []) = refl
behind_byte first second c (line ∷ next ∷ lines) = refl

pub too_many : (first second rest : List ℕ) → 0 < length rest → secrets_of (first ∷ second ∷ lines_of rest) ≡ None
too_many first second [] some = absurd (omega arith)
too_many first second (c ∷ rest) some = by_feed (is_line_feed c) refl
  where
    by_feed : (b : Bool) → is_line_feed c ≡ b → secrets_of (first ∷ second ∷ lines_of (c ∷ rest)) ≡ None
    by_feed true is =
        ap (λ (lines : List (List ℕ)). secrets_of (first ∷ second ∷ lines)) (slice_split-cons_yes is_line_feed c rest is)
        ∙ behind_feed first second (lines_of rest) (let counts = length-slice_split is_line_feed rest in omega (arith, counts))
    by_feed false is =
        ap (λ (lines : List (List ℕ)). secrets_of (first ∷ second ∷ lines)) (slice_split-cons_no is_line_feed c rest is)
        ∙ behind_byte first second c (lines_of rest)

-- what is mapped twice is mapped once
pub mapped_twice : {A : Type 0} (o : Option A) (f : A → List ℕ) (g : List ℕ → List ℕ)
    → option_map (λ x. g (f x)) o ≡ option_map g (option_map f o)
mapped_twice None f g = refl
mapped_twice (Some x) f g = refl
