-- The numbers of a message tell it.
use Rattle.std.proofs.Common.{◌≡◌, ◌==◌, ℕ, Bool, true, false, if◌then◌else◌, List, ◌∷◌, drop, get_or, refl, sym, ap, ◌∙◌}
use Rattle.std.specs.Prelude.{Option, Some, None, IsTrue, ◌↔◌}
use Rattle.std.specs.Cmp.{both_ways}
use Rattle.std.specs.Cmp.Lexicographic.{bytes_decides}
use Rattle.wire_msg.specs.Envelope.{Envelope}
use Rattle.wire_msg.specs.Spelling.{truth}
use Rattle.wire_msg.specs.Kinds.{Shape, Brief, Tells, Gives, shape_of, body_of, kind_numbered, number_of}
use Rattle.wire_msg.specs.declared.short.Kind.{Kind}
use Rattle.wire_msg.proofs.PublicLaws.{kind_again, shaped}
use Rattle.message_list.specs.Lent.{numbers_in, numbers_of, same_message}

-- the shape that numbers tell, the first of which is that of this kind
abbrev shape_by : Option Kind → List ℕ → Shape
shape_by (Some k) ns = Brief (record { kind = k; answer = get_or ns 3 0 == 1; creator = get_or ns 1 0; number = get_or ns 2 0 })
shape_by None ns =
    if get_or ns 0 0 == 7 then Tells (record { group = record { creator = get_or ns 1 0; count = get_or ns 2 0 }; members = drop 3 ns })
    else Gives (record { creator = get_or ns 1 0; count = get_or ns 3 0 }) (get_or ns 2 0)
    (record { queue = get_or ns 4 0; priority = get_or ns 5 0; payload = drop 6 ns })

shape_numbered : List ℕ → Shape
shape_numbered ns = shape_by (kind_numbered (get_or ns 0 0)) ns

brief_again : (k : Kind) (creator number : ℕ) (answer : Bool)
    → shape_numbered (number_of k ∷ creator ∷ number ∷ truth answer)
    ≡ Brief (record { kind = k; answer = answer; creator = creator; number = number })
unfolding shape_numbered
brief_again k creator number true = ap (λ (o : Option Kind). shape_by o (number_of k ∷ creator ∷ number ∷ truth true)) (kind_again k)
brief_again k creator number false = ap (λ (o : Option Kind). shape_by o (number_of k ∷ creator ∷ number ∷ truth false)) (kind_again k)

shape_again : (shape : Shape) → shape_numbered (numbers_in shape) ≡ shape
unfolding shape_numbered
shape_again (Brief s) = brief_again s.kind s.creator s.number s.answer
shape_again (Tells t) = refl
shape_again (Gives g id w) = refl

envelope_numbered : List ℕ → Envelope
envelope_numbered ns = record { sender = get_or ns 0 0; receiver = get_or ns 1 0; body = body_of (shape_numbered (drop 2 ns)) }

again : (m : Envelope) → envelope_numbered (numbers_of m) ≡ m
unfolding envelope_numbered
again m =
    ap (λ (shape : Shape). record { sender = m.sender; receiver = m.receiver; body = body_of shape }) (shape_again (shape_of m.body))
    ∙ ap (λ b. record { sender = m.sender; receiver = m.receiver; body = b }) (shaped m.body)

-- two messages of the same numbers are one
pub one_message : (m n : Envelope) → same_message m n ≡ true → m ≡ n
one_message m n same = sym (again m) ∙ ap (λ (ns : List ℕ). envelope_numbered ns) ((bytes_decides (numbers_of m) (numbers_of n)).0 same)
    ∙ again n

pub as_same : (b : Bool) (m n : Envelope) → IsTrue b ↔ (m ≡ n) → b ≡ same_message m n
as_same b m n is =
    both_ways b (same_message m n) (λ t. (bytes_decides (numbers_of m) (numbers_of n)).1 (ap (λ (e : Envelope). numbers_of e) (is.0 t)))
    (λ same. is.1 (one_message m n same))
