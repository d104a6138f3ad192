-- The first entry that is left and doesn't wait.
use Rattle.std.proofs.Common.{◌≡◌, ℕ, Bool, true, false, List, [], ◌∷◌, ◌++◌, codes, Some, Ok, inl, inr, sym, ap, ◌∙◌, subst}
use Rattle.std.proofs.lemmas.Bool.{cases_Bool}
use Rattle.std.proofs.lemmas.Option.{same_Some}
use Rattle.histories.specs.Lists.{IsAmong}
use Rattle.trace_check.specs.declared.contradiction.Contradiction.{Contradiction}
use Rattle.trace_check.specs.declared.leftover.Holdup.{Holdup}
use Rattle.trace_check.specs.declared.leftover.Holdup.TheVariants.{Waits}
use Rattle.trace_check.specs.declared.leftover.Leftover.{Leftover}
use Rattle.trace_text.specs.Fits.{IsWritable}
use Rattle.trace_text.specs.Wholes.{trace_of}
use Rattle.trace_text.specs.Written.{text_of_trace}
use Rattle.trace_console.specs.Contradicting.{IsShown, before_text}
use Rattle.trace_console.specs.Ongoing.{first_stopped}
use Rattle.trace_console.specs.Reported.{waits}

differ : (b : Bool) → b ≡ false → b ≡ true → ⊥
differ true low high = absurd cc
differ false low high = absurd cc

goes_on : (holdup : Holdup) → waits holdup ≡ false → holdup ≡ Waits → ⊥
goes_on holdup low is = differ (waits holdup) low (ap waits is)

pub stopped_among : (ls : List Leftover) (l : Leftover) → first_stopped ls ≡ Some l → IsAmong l ls × (l.holdup ≡ Waits → ⊥)
stopped_among [] l is = absurd cc
stopped_among (x ∷ ls) l is = elim (cases_Bool (waits x.holdup)) [
  | inl high ↦ (let later = stopped_among ls l (rw high at is) in (inr later.0, later.1))
  | inr low ↦ (let here : x ≡ l = same_Some x l (rw low at is) in
      (inl (sym here), subst (λ (y : Leftover). y.holdup ≡ Waits → ⊥) here (goes_on x.holdup low)))
]

-- what is printed of entries: how their node stands, and their text
pub shown : (c : Contradiction) (none before both all written : List ℕ) → written ≡ text_of_trace c.trace
    → (IsWritable c.trace → trace_of written ≡ Ok c.trace) → none ≡ [] → before ≡ none ++ before_text c → both ≡ before ++ written
    → all ≡ both ++ codes "\n" → IsShown c (record { text = all; good = false })
shown c none before both all written same back empty one two three =
    let front : before ≡ before_text c = one ∙ ap (λ (xs : List ℕ). xs ++ before_text c) empty in
    let text : all ≡ (before_text c ++ text_of_trace c.trace) ++ codes "\n" =
    three ∙ ap (λ (xs : List ℕ). xs ++ codes "\n") (two ∙ ap (λ (xs : List ℕ). xs ++ written) front
    ∙ ap (λ (xs : List ℕ). before_text c ++ xs) same) in
    record { printed = λ i. record { text = text i; good = false }; reads = λ writable. ap trace_of (sym same) ∙ back writable }
