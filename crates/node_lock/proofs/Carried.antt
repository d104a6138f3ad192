-- What the links carry.
use Rattle.std.proofs.Common.{◌≡◌, ◌≢◌, ℕ, zero, suc, ◌+◌, ◌<◌, ◌==◌, List, [], ◌∷◌, ◌++◌, length, take, drop}
use Rattle.std.proofs.Common.{get_or, slice_index_or, refl, ap, sym, ◌∙◌, subst, inl, inr, arith}
use Rattle.std.proofs.lemmas.List.{take_more, length-append}
use Rattle.std.proofs.lemmas.List.Elements.{filter-append}
use Rattle.std.proofs.lemmas.Bool.{cond-false, cond-true, eq-eqb}
use Rattle.std.proofs.lemmas.Bool.Decides.{nat_tests}
use Rattle.wire_msg.specs.Envelope.{Envelope}
use Rattle.link_ring.specs.Sides.{Side}
use Rattle.node_lock.specs.Sending.{addressed_to, PutsSome, SameLink, SentTo, SentOn}

pub puts_append : (cap : ℕ) (xs ms ys ns zs : List Envelope) → PutsSome cap xs ms ys → PutsSome cap ys ns zs → PutsSome cap xs (ms ++ ns) zs
puts_append cap xs [] ys ns zs p q = subst (λ (l : List Envelope). PutsSome cap l ns zs) p q
puts_append cap xs (m ∷ ms) ys ns zs (inl p) q = inl (puts_append cap (xs ++ m ∷ []) ms ys ns zs p q)
puts_append cap xs (m ∷ ms) ys ns zs (inr p) q = inr (p.0, puts_append cap xs ms ys ns zs p.1 q)

pub addressed-append : (j : ℕ) (ms ns : List Envelope) → addressed_to j (ms ++ ns) ≡ addressed_to j ms ++ addressed_to j ns
addressed-append j ms ns = filter-append (λ m. m.receiver == j) ms ns

pub addressed_yes : (j : ℕ) (m : Envelope) → m.receiver ≡ j → addressed_to j (m ∷ []) ≡ m ∷ []
addressed_yes j m e = cond-true (m.receiver == j) (m ∷ []) [] (eq-eqb m.receiver j e)

pub addressed_no : (j : ℕ) (m : Envelope) → m.receiver ≢ j → addressed_to j (m ∷ []) ≡ []
addressed_no j m e = cond-false (m.receiver == j) (m ∷ []) [] (grind (arith, nat_tests))

next_sent : (j : ℕ) (sent : List Envelope) (i : ℕ) (m : Envelope) → i < length sent → m ≡ get_or sent i m
    → addressed_to j (take (i + 1) sent) ≡ addressed_to j (take i sent) ++ addressed_to j (m ∷ [])
next_sent j sent i m lt is = ap (addressed_to j) (take_more sent i m lt ∙ ap (λ x. take i sent ++ x ∷ []) (sym is))
    ∙ addressed-append j (take i sent) (m ∷ [])

-- the next message, which went onto this link or to another one
sent_next : (sent : List Envelope) (i : ℕ) (m : Envelope) (old mid new : Side) → i < length sent → m ≡ get_or sent i m
    → SentTo (take i sent) old mid → SentTo (m ∷ []) mid new → SentTo (take (i + 1) sent) old new
sent_next sent i m old mid new lt is s next =
    record {
      same = record {
        sender = next.same.sender ∙ s.same.sender;
        receiver = next.same.receiver ∙ s.same.receiver;
        capacity = next.same.capacity ∙ s.same.capacity;
      };
      messages = rw (next_sent old.receiver sent i m lt is)
          (puts_append old.capacity old.messages (addressed_to old.receiver (take i sent)) mid.messages (addressed_to old.receiver (m ∷ []))
          new.messages s.messages (rw (← s.same.receiver, ← s.same.capacity) next.messages));
    }

pub sent_on_more : (sent : List Envelope) (i : ℕ) (m : Envelope) (old mid new : List Side) → i < length sent → m ≡ get_or sent i m
    → SentOn (take i sent) old mid → SentOn (m ∷ []) mid new → SentOn (take (i + 1) sent) old new
sent_on_more sent i m old mid new lt is s next = record {
  len = next.len ∙ s.len;
  each = λ k d within.
      let len = s.len in
      sent_next sent i m (slice_index_or old k d) (slice_index_or mid k d) (slice_index_or new k d) lt is (s.each k d within)
      (next.each k d (omega (arith, within, len)));
}

-- a message to this end's receiver, which was put or lost
pub sent_here : (m : Envelope) (old new : Side) → m.receiver ≡ old.receiver → SameLink old new
    → PutsSome old.capacity old.messages (m ∷ []) new.messages → SentTo (m ∷ []) old new
sent_here m old new to same put = record {
  same = same;
  messages = subst (λ (l : List Envelope). PutsSome old.capacity old.messages l new.messages) (sym (addressed_yes old.receiver m to)) put;
}

-- and one to another node
pub sent_elsewhere : (m : Envelope) (side : Side) → m.receiver ≢ side.receiver → SentTo (m ∷ []) side side
sent_elsewhere m side to = record {
  same = record { sender = refl; receiver = refl; capacity = refl };
  messages =
      subst (λ (l : List Envelope). PutsSome side.capacity side.messages l side.messages) (sym (addressed_no side.receiver m to)) refl;
}

-- ---- room

pub rest_split : (j : ℕ) (sent : List Envelope) (i : ℕ) (m : Envelope) → i < length sent → m ≡ get_or sent i m
    → length (addressed_to j (drop i sent)) ≡ length (addressed_to j (m ∷ [])) + length (addressed_to j (drop (i + 1) sent))
rest_split j sent i m lt is =
    ap (λ (l : List Envelope). length (addressed_to j l)) (drop_next sent i m lt is
    ∙ ap (λ (n : ℕ). m ∷ drop n sent) (let next : suc i ≡ i + 1 = omega arith in next))
    ∙ (ap length (addressed-append j (m ∷ []) (drop (i + 1) sent))
    ∙ length-append (addressed_to j (m ∷ [])) (addressed_to j (drop (i + 1) sent)))
  where
    drop_next : (sent : List Envelope) (i : ℕ) (m : Envelope) → i < length sent → m ≡ get_or sent i m → drop i sent ≡ m ∷ drop (suc i) sent
    drop_next [] i m lt is = absurd (let no : ⊥ = omega (arith, lt) in no)
    drop_next (x ∷ xs) zero m lt is = ap (λ (y : Envelope). y ∷ xs) (sym is)
    drop_next (x ∷ xs) (suc i) m lt is = drop_next xs i m (omega (arith, lt)) is
