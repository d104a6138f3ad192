-- What is handed to an output and a page, piece by piece.
use Rattle.std.proofs.Common.{◌≡◌, ℕ, List, [], ◌++◌, Option, Some, None, sym, ap, ◌∙◌, append_assoc, append-nil}
use Rattle.std.specs.Io.KnownBytes.{Appends}
use Rattle.console_text.specs.Pages.{Hands}

-- nothing was printed, and the page grew
pub page_grows : (a : Option (List ℕ)) (p q x : List ℕ) → q ≡ p ++ x → Hands a p a q x
page_grows None p q x grows = tt
page_grows (Some xs) p q x grows = ap (λ l. xs ++ l) grows ∙ sym (append_assoc xs p x)

-- nothing happened
pub page_stays : (a : Option (List ℕ)) (p : List ℕ) → Hands a p a p []
page_stays a p = page_grows a p p [] (sym (append-nil p))

-- the page was printed
pub page_out : (a b : Option (List ℕ)) (p q : List ℕ) → Appends a b p → q ≡ [] → Hands a p b q []
page_out None b p q printed empty = tt
page_out (Some xs) None p q printed empty = absurd printed
page_out (Some xs) (Some ys) p q printed empty = ap (λ l. ys ++ l) empty ∙ append-nil ys ∙ printed ∙ sym (append-nil (xs ++ p))

-- one text after another
pub hands_more : (a b c : Option (List ℕ)) (p q r x y : List ℕ) → Hands a p b q x → Hands b q c r y → Hands a p c r (x ++ y)
hands_more None b c p q r x y first second = tt
hands_more (Some xs) None c p q r x y first second = absurd first
hands_more (Some xs) (Some ys) None p q r x y first second = absurd second
hands_more (Some xs) (Some ys) (Some zs) p q r x y first second = second ∙ ap (λ l. l ++ y) first ∙ append_assoc (xs ++ p) x y

-- the page was printed, and then a part
pub part_out : (a b c : Option (List ℕ)) (p q x : List ℕ) → Appends a b p → q ≡ [] → Appends b c x → Hands a p c q x
part_out None b c p q x printed empty part = tt
part_out (Some xs) None c p q x printed empty part = absurd printed
part_out (Some xs) (Some ys) None p q x printed empty part = absurd part
part_out (Some xs) (Some ys) (Some zs) p q x printed empty part = ap (λ l. zs ++ l) empty ∙ append-nil zs ∙ part ∙ ap (λ l. l ++ x) printed
