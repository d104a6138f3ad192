-- Lines that are fed, one behind another.
use Rattle.std.proofs.Common.{◌≡◌, ℕ, Bool, true, false, List, [], ◌∷◌, ◌++◌, length, refl, sym, ◌∙◌, ap, subst, append_assoc}
use Rattle.std.specs.Prelude.{◌==◌}
use Rattle.line_words.specs.Lines.{lines_of}
use Rattle.lease_session.specs.Feeding.{AnyCutting, At, Answers, AnswersBy, AreAnswered, Fed, IsAnswer}
use Rattle.lease_session.specs.Reading.{meaning_of}
use Rattle.lease_session.proofs.Cutting.{lines_further}

-- a line that is answered
pub answer_so : (line : List ℕ) (old new : At) → old.stopped ≡ false → (length line == 0) ≡ false → IsAnswer (meaning_of line) old new
    → Answers line old new
answer_so line old new off some a = subst (λ (b : Bool). AnswersBy b line old new) (sym off) (by_line line some a)
  where
    by_line : (line : List ℕ) → (length line == 0) ≡ false → IsAnswer (meaning_of line) old new → AnswersBy false line old new
    by_line [] some a = (let bad : true ≡ false = some in absurd cc)
    by_line (c ∷ line) some a = a

pub answered_both : (first second : List (List ℕ)) (old mid new : At) → AreAnswered first old mid → AreAnswered second mid new
    → AreAnswered (first ++ second) old new
answered_both [] second old mid new same b = subst (λ (a : At). AreAnswered second a new) same b
answered_both (line ∷ first) second old mid new a b = (a.0, a.1, answered_both first second a.0 mid new a.2 b)

-- one line more
pub answered_more : (lines : List (List ℕ)) (line : List ℕ) (old mid new : At) → AreAnswered lines old mid → Answers line mid new
    → AreAnswered (lines ++ line ∷ []) old new
answered_more lines line old mid new a b = answered_both lines (line ∷ []) old mid new a (new, b, refl)

pub line_more : (whole left behind : List ℕ) (before : List (List ℕ)) (line : List ℕ) → lines_of whole ≡ before ++ lines_of left
    → lines_of left ≡ line ∷ lines_of behind
    → lines_of whole ≡ (before ++ line ∷ []) ++ lines_of behind
line_more whole left behind before line so cut = so ∙ (ap (λ (ls : List (List ℕ)). before ++ ls) cut
    ∙ sym (append_assoc before (line ∷ []) (lines_of behind)))

-- a piece, as the code takes it
pub fed_so : (kept piece whole left emptied rest : List ℕ) (lines : List (List ℕ)) (old new : At) → whole ≡ kept ++ piece
    → lines_of whole ≡ lines ++ left ∷ []
    → AreAnswered lines old new → emptied ≡ [] → rest ≡ emptied ++ left → Fed kept piece rest old new
fed_so kept piece whole left emptied rest lines old new all cut answered none behind =
    let last : rest ≡ left = behind ∙ ap (λ (r : List ℕ). r ++ left) none in
    record { lines = lines; cut = ap lines_of (sym all) ∙ (cut ∙ ap (λ (r : List ℕ). lines ++ r ∷ []) (sym last)); answered = answered }

pub cutting : AnyCutting
cutting kept first second rest last old mid new a b = record {
  lines = a.lines ++ b.lines;
  cut = ap lines_of (sym (append_assoc kept first second))
      ∙ (lines_further (kept ++ first) second a.lines rest a.cut
      ∙ (ap (λ (ls : List (List ℕ)). a.lines ++ ls) b.cut ∙ sym (append_assoc a.lines b.lines (last ∷ []))));
  answered = answered_both a.lines b.lines old mid new a.answered b.answered;
}
