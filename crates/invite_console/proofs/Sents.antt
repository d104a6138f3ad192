-- The messages of an act, printed one after another.
use Rattle.std.proofs.Common.{◌≡◌, ℕ, zero, suc, ◌+◌, ◌-◌, ◌<◌, ◌≤◌, List, [], ◌∷◌, ◌++◌, length, take, drop, Option, Some, None, refl, sym}
use Rattle.std.proofs.Common.{ap, subst, ◌∙◌, append-nil, add-one, arith}
use Rattle.std.specs.Prelude.{Bool, slice_get, IfSome}
use Rattle.wire_msg.specs.Envelope.{Envelope}
use Rattle.console_text.specs.Pages.{Hands}
use Rattle.console_text.proofs.PublicLaws.{hands_more, page_grows}
use Rattle.invite_console.specs.Acts.{message_text, sent_text}
use Rattle.invite_console.specs.Kept.{between}

at_place : (place : ℕ) (ms : List Envelope) (m : Envelope) → slice_get ms place ≡ Some m → drop place ms ≡ m ∷ drop (suc place) ms
at_place zero [] m here = absurd cc
at_place zero (x ∷ ms) m here = let same : x ≡ m = cc in ap (λ (y : Envelope). y ∷ ms) same
at_place (suc place) [] m here = absurd cc
at_place (suc place) (x ∷ ms) m here = at_place place ms m here

pub next_place : (place : ℕ) (ms : List Envelope) (m : Envelope) → slice_get ms place ≡ Some m → drop place ms ≡ m ∷ drop (place + 1) ms
next_place place ms m here = at_place place ms m here ∙ ap (λ (k : ℕ). m ∷ drop k ms) (sym (add-one place))

pub none_there : (place : ℕ) (ms : List Envelope) → place < length ms → slice_get ms place ≡ None → ⊥
none_there zero [] within none = omega arith
none_there zero (x ∷ ms) within none = cc
none_there (suc place) [] within none = omega arith
none_there (suc place) (x ∷ ms) within none = none_there place ms (omega arith) none

-- one message more
between_more : (at to : ℕ) (ms : List Envelope) (m : Envelope) → at < to → slice_get ms at ≡ Some m
    → between at to ms ≡ m ∷ between (at + 1) to ms
between_more at to ms m on here =
    let e : to - at ≡ suc (to - (at + 1)) = omega arith in
    ap (λ (l : List Envelope). take (to - at) l) (next_place at ms m here) ∙ ap (λ (k : ℕ). take k (m ∷ drop (at + 1) ms)) e

one_out : (names : Bool) (at to : ℕ) (ms : List Envelope) (m : Envelope) (a b c : Option (List ℕ)) (p added q r : List ℕ) → at < to
    → slice_get ms at ≡ Some m
    → added ≡ p ++ message_text names at m → Hands a added b q [] → Hands b q c r (sent_text names (at + 1) (between (at + 1) to ms))
    → Hands a p c r (sent_text names at (between at to ms))
one_out names at to ms m a b c p added q r on here adds full rest =
    let said = message_text names at m in
    let behind = sent_text names (at + 1) (between (at + 1) to ms) in
    let whole : (said ++ []) ++ behind ≡ sent_text names at (between at to ms) =
    ap (λ (l : List ℕ). l ++ behind) (append-nil said) ∙ ap (λ (l : List Envelope). sent_text names at l)
    (sym (between_more at to ms m on here)) in
    subst (λ (t : List ℕ). Hands a p c r t) whole
    (hands_more a b c p q r (said ++ []) behind (hands_more a a b p added q said [] (page_grows a p added said adds) full) rest)

-- a message was added to the page, which was printed where it was full
pub message_out : (names : Bool) (at to : ℕ) (ms : List Envelope) (a b c : Option (List ℕ)) (p added q r : List ℕ) → at < to
    → to ≤ length ms
    → IfSome (slice_get ms at) (λ (m : Envelope). added ≡ p ++ message_text names at m) → Hands a added b q []
    → Hands b q c r (sent_text names (at + 1) (between (at + 1) to ms))
    → Hands a p c r (sent_text names at (between at to ms))
message_out names at to ms a b c p added q r on within adds full rest = by_cases (slice_get ms at) refl adds
  where
    by_cases : (o : Option Envelope) → slice_get ms at ≡ o → IfSome o (λ (m : Envelope). added ≡ p ++ message_text names at m)
        → Hands a p c r (sent_text names at (between at to ms))
    by_cases None here adds = absurd (none_there at ms (omega (arith, on, within)) here)
    by_cases (Some m) here adds = one_out names at to ms m a b c p added q r on here adds full rest
