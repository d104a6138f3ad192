-- Where a text is cut.
use Rattle.std.proofs.Common.{◌≡◌, ℕ, suc, ◌+◌, ◌-◌, ◌<◌, ◌≤◌, true, false, ◌==◌, List, [], ◌∷◌, ◌++◌, length, take, drop, get_or}
use Rattle.std.proofs.Common.{Option, Some, None, is_some, sym, ap, ◌∙◌, subst, arith, length-drop, take-add, take-append-drop}
use Rattle.std.proofs.Common.{take_all}
use Rattle.std.proofs.lemmas.Bool.{true≢false, false_from_ne_true}
use Rattle.std.proofs.lemmas.List.{drop-drop, drop_more, get_or-drop}
use Rattle.memchr.specs.Find.{IsFirstByte, OccursAt, is_byte}
use Rattle.trace_text.specs.Pieces.{IsCut, NoBackslash}

pub no_backslash : (xs : List ℕ) → ((k : ℕ) → k < length xs → (get_or xs k 0 == 92) ≡ true → ⊥) → NoBackslash xs
no_backslash [] h = tt
no_backslash (x ∷ xs) h = (false_from_ne_true (x == 92) (h 0 (omega arith)), no_backslash xs (λ k few e. h (suc k) (omega (arith, few)) e))

front_plain : (xs ys : List ℕ) → NoBackslash (xs ++ ys) → NoBackslash xs
front_plain [] ys h = tt
front_plain (x ∷ xs) ys h = (h.0, front_plain xs ys h.1)

at_place : (text : List ℕ) (i x : ℕ) → i < length text → get_or text i 0 ≡ x → drop i text ≡ x ∷ drop (i + 1) text
at_place text i x few is = drop_more text i 0 few ∙ ap (λ (y : ℕ). y ∷ drop (i + 1) text) is

pub cut_found : (text piece behind : List ℕ) (end : ℕ) → end + 3 ≤ length text → get_or text end 0 ≡ 125 → get_or text (end + 1) 0 ≡ 44
    → get_or text (end + 2) 0 ≡ 123
    → piece ≡ take (end + 1) text → behind ≡ drop (end + 2) text → NoBackslash piece → IsCut text piece behind
cut_found text piece behind end fits brace comma next first later plain =
    let one = at_place text end 125 (omega (arith, fits)) brace in
    let two = at_place text (end + 1) 44 (omega (arith, fits)) comma in
    let three = at_place text (end + 2) 123 (omega (arith, fits)) next in
    let same : end + 1 + 1 ≡ end + 2 = omega arith in
    let front = take end text in
    let is : piece ≡ front ++ 125 ∷ [] = first ∙ take-add end 1 text ∙ ap (λ (r : List ℕ). front ++ take 1 r) one in
    record {
      front = front;
      back = drop (end + 2 + 1) text;
      whole = sym (take-append-drop end text) ∙ ap (λ (r : List ℕ). front ++ r)
          (one ∙ ap (λ (r : List ℕ). 125 ∷ r) (two ∙ ap (λ (i : ℕ). 44 ∷ drop i text) same ∙ ap (λ (r : List ℕ). 44 ∷ r) three));
      first = is;
      later = later ∙ three;
      plain = front_plain front (125 ∷ []) (subst NoBackslash is plain);
    }

pub none_found : (xs : List ℕ) (o : Option ℕ) → IsFirstByte (is_byte 92) xs o → is_some o ≡ false → NoBackslash xs
none_found xs None first none = no_backslash xs (λ k few e. first k (omega arith) few e)
none_found xs (Some i) first none = absurd (true≢false none)

tail_is : (n : ℕ) (xs : List ℕ) → take (length xs - n) (drop n xs) ≡ drop n xs
tail_is n xs = let long = length-drop n xs in take_all (length xs - n) (drop n xs) (omega (arith, long))

pub found_cut : (text piece rest behind : List ℕ) (from i : ℕ)
    → OccursAt (take (length text - from) (drop from text)) (125 ∷ 44 ∷ 123 ∷ []) i → piece ≡ take (from + i + 1) text → NoBackslash piece
    → rest ≡ drop (from + i + 1) text → behind ≡ drop 1 rest → IsCut text piece behind
found_cut text piece rest behind from i occurs front plain back next =
    let at = subst (λ (hay : List ℕ). OccursAt hay (125 ∷ 44 ∷ 123 ∷ []) i) (tail_is from text) occurs in
    let long = length-drop from text in
    let fits = at.fits in
    let place = λ (j : ℕ). get_or-drop from text (i + j) 0 in
    let zero_on : from + i ≡ from + (i + 0) = omega arith in
    let one_on : from + i + 1 ≡ from + (i + 1) = omega arith in
    let two_on : from + i + 2 ≡ from + (i + 2) = omega arith in
    let behind_on : from + i + 1 + 1 ≡ from + i + 2 = omega arith in
    let byte = λ (k : ℕ). get_or text k 0 in
    cut_found text piece behind (from + i) (omega (arith, fits, long))
    (ap byte zero_on ∙ sym (place 0) ∙ at.reads 0 (omega arith))
    (ap byte one_on ∙ sym (place 1) ∙ at.reads 1 (omega arith))
    (ap byte two_on ∙ sym (place 2) ∙ at.reads 2 (omega arith))
    front (next ∙ ap (drop 1) back ∙ drop-drop 1 (from + i + 1) text ∙ ap (λ (n : ℕ). drop n text) behind_on) plain
