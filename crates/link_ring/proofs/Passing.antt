-- What went through an end is what it was, whatever goes through after it.
use Rattle.std.proofs.Common.{◌≡◌, ℕ, ◌+◌, ◌<◌, ◌≤◌, List, [], ◌∷◌, ◌++◌, length, map, All, Option, Some, option_map}
use Rattle.std.proofs.Common.{slice_get, get_or, refl, sym, ap, subst, ◌∙◌, arith}
use Rattle.std.proofs.lemmas.List.{map-append, length-append, get_or_append_left}
use Rattle.std.proofs.lemmas.List.Elements.{All-head, All-tail, All-push, All-weaker}
use Rattle.std.proofs.lemmas.Option.{slice_get-map, slice_get_read}
use Rattle.wire_msg.specs.Envelope.{Envelope}
use Rattle.wire_msg.specs.declared.body.Body.TheVariants.{AreYouCoordinator}
use Rattle.wire_msg.specs.declared.short.Kind.{Kind}
use Rattle.message_list.specs.PackedMessages.{MessagesKept}
use Rattle.link_ring.specs.declared.passed.PassedKind.{PassedKind}
use Rattle.link_ring.specs.declared.passed.PassedKind.TheVariants.{Short, Long}
use Rattle.link_ring.specs.declared.passed.Passed.{Passed}
use Rattle.link_ring.specs.Passed.{message_by, message_passed, HasBody, IsRead, Packs}

-- all that went through, where these are the long messages
abbrev pub all_passed : List Envelope → List Passed → List Envelope
all_passed longs ps = map (message_passed longs) ps

-- ---- more is kept, and a message is what it was

same_by : (ls more : List Envelope) (k : PassedKind) (p : Passed) → HasBody (length ls) k p →
    message_by (ls ++ more) k p ≡ message_by ls k p
same_by ls more (Short k) p h = refl
same_by ls more Long p h =
    get_or_append_left ls more (record { sender = 0; receiver = 0; body = AreYouCoordinator }) p.number h

all_same : (ls more : List Envelope) (ps : List Passed) → All (IsRead (length ls)) ps → all_passed (ls ++ more) ps ≡ all_passed ls ps
all_same ls more [] h = refl
all_same ls more (p ∷ ps) h =
    let n = length ls in
    ap (λ (m : Envelope). m ∷ all_passed (ls ++ more) ps) (same_by ls more p.kind p (All-head (IsRead n) p ps h).body)
    ∙ ap (λ (ms : List Envelope). message_passed ls p ∷ ms) (all_same ls more ps (All-tail (IsRead n) p ps h))

body_longer : (n m : ℕ) → n ≤ m → (k : PassedKind) (p : Passed) → HasBody n k p → HasBody m k p
body_longer n m le (Short k) p h = h
body_longer n m le Long p h = omega (arith, h, le)

longer : (n m : ℕ) → n ≤ m → (p : Passed) → IsRead n p → IsRead m p
longer n m le p h = record { differ = h.differ; body = body_longer n m le p.kind p h.body }

-- ---- a message more

-- all can be read, and this message stands last
pub added : (ps ps' : List Passed) (p : Passed) (m : Envelope) (old new : MessagesKept) →
    Packs m p old new → ps' ≡ ps ++ p ∷ [] → All (IsRead (length old.messages)) ps →
    All (IsRead (length new.messages)) ps' × (all_passed new.messages ps' ≡ all_passed old.messages ps ++ m ∷ [])
added ps ps' p m old new h is read =
    let n = length old.messages in
    let n' = length new.messages in
    let f = message_passed new.messages in
    let long : n' ≡ n + length h.more = ap (λ (ls : List Envelope). length ls) h.longs ∙ length-append old.messages h.more in
    let same : map f ps ≡ all_passed old.messages ps =
    ap (λ (ls : List Envelope). all_passed ls ps) h.longs ∙ all_same old.messages h.more ps read in (
      rw is (All-push (IsRead n') ps p (All-weaker (IsRead n) (IsRead n') (longer n n' (omega (arith, long))) ps read) h.read),
      ap (λ (xs : List Passed). map f xs) is ∙ map-append f ps (p ∷ [])
          ∙ ap (λ (ms : List Envelope). ms ++ f p ∷ []) same
          ∙ ap (λ (x : Envelope). all_passed old.messages ps ++ x ∷ []) h.said,
    )

-- ---- what is kept alike

-- a short form says one message, whatever long ones are kept beside
short_alike : (ls others : List Envelope) (k : PassedKind) (p : Passed) (kind : Kind) → k ≡ Short kind →
    message_by ls k p ≡ message_by others k p
short_alike ls others k p kind is = rw is refl

pub alike : (ls others : List Envelope) (ps qs : List Passed) (place : ℕ) (p q : Passed) (kind : Kind) →
    slice_get ps place ≡ Some p → slice_get qs place ≡ Some q → p ≡ q → p.kind ≡ Short kind →
    slice_get (all_passed ls ps) place ≡ slice_get (all_passed others qs) place
alike ls others ps qs place p q kind at at' same is =
    slice_get-map (message_passed ls) ps place
    ∙ ap (λ (o : Option Passed). option_map (message_passed ls) o) at
    ∙ ap (λ (m : Envelope). Some m) (short_alike ls others p.kind p kind is)
    ∙ ap (λ (o : Passed). option_map (message_passed others) (Some o)) same
    ∙ ap (λ (o : Option Passed). option_map (message_passed others) o) (sym at')
    ∙ sym (slice_get-map (message_passed others) qs place)

-- what a read of a list gives stands there
pub passed_read : (read ps : List Passed) (place : ℕ) (p : Passed) →
    read ≡ ps → place < length read → p ≡ get_or read place p → slice_get ps place ≡ Some p
passed_read read ps place p is within at =
    subst (λ (xs : List Passed). slice_get xs place ≡ Some p) is (slice_get_read read (length read) place p refl within at)
