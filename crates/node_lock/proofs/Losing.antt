-- What went onto no link is noted.
use Rattle.std.proofs.Common.{◌≡◌, ◌≢◌, ℕ, ◌+◌, ◌<◌, Bool, true, false, List, [], ◌∷◌, ◌++◌, length, get_or, take, slice_index_or}
use Rattle.std.proofs.Common.{slice_set, refl, ap, sym, ◌∙◌, subst, inl, inr, arith, append_assoc}
use Rattle.std.specs.Prelude.{if◌then◌else◌}
use Rattle.std.specs.List.{AllByRecursion}
use Rattle.std.proofs.lemmas.List.{append-nil, get_or_read, get_or-set_other, length-append, length-take-le, take_more}
use Rattle.std.proofs.lemmas.Grind.{get_or-set_at}
use Rattle.std.proofs.lemmas.Bool.{cases_eq}
use Rattle.wire_msg.specs.Envelope.{Envelope}
use Rattle.link_ring.specs.Sides.{Side}
use Rattle.node_lock.specs.declared.turn_log.Loss.{Loss}
use Rattle.node_lock.specs.History.{Turn}
use Rattle.node_lock.specs.Lost.{AreMarked, HasLost, all_losses, all_went}
use Rattle.node_lock.specs.Sending.{HasLink, NotesLost, SameSides, SentAs, SentBut, SentOn, addressed_to, losses_of, went_of}
use Rattle.node_lock.proofs.Carried.{addressed-append, addressed_no, addressed_yes}
use Rattle.node_lock.proofs.Putting.{LeadsTo}

pub all_snoc : {A : Type 0} (P : A → Type 0) (xs ys : List A) → AllByRecursion P xs → AllByRecursion P ys → AllByRecursion P (xs ++ ys)
all_snoc P [] ys all more = more
all_snoc P (x ∷ xs) ys all more = (all.0, all_snoc P xs ys all.1 more)

went-snoc : (bs : List Bool) (ms : List Envelope) (b : Bool) (m : Envelope) → length bs ≡ length ms
    → went_of (bs ++ b ∷ []) (ms ++ m ∷ []) ≡ went_of bs ms ++ (if b then m ∷ [] else [])
went-snoc [] [] b m same = append-nil (if b then m ∷ [] else [])
went-snoc (c ∷ bs) [] b m same = absurd (let no : ⊥ = omega (arith, same) in no)
went-snoc [] (x ∷ ms) b m same = absurd (let no : ⊥ = omega (arith, same) in no)
went-snoc (c ∷ bs) (x ∷ ms) b m same =
    ap (λ (l : List Envelope). (if c then x ∷ [] else []) ++ l) (went-snoc bs ms b m (omega (arith, same)))
    ∙ sym (append_assoc (if c then x ∷ [] else []) (went_of bs ms) (if b then m ∷ [] else []))

losses-snoc : (turn place : ℕ) (bs : List Bool) (b : Bool)
    → losses_of turn place (bs ++ b ∷ []) ≡ losses_of turn place bs ++ losses_of turn (place + length bs) (b ∷ [])
losses-snoc turn place [] b = ap (λ (n : ℕ). losses_of turn n (b ∷ [])) (let same : place ≡ place + 0 = omega arith in same)
losses-snoc turn place (c ∷ bs) b =
    let one : List Loss = if c then [] else record { turn = turn; message = place } ∷ [] in
    let next : (place + 1) + length bs ≡ place + length (c ∷ bs) = omega arith in
    ap (λ (l : List Loss). one ++ l) (losses-snoc turn (place + 1) bs b
    ∙ ap (λ (n : ℕ). losses_of turn (place + 1) bs ++ losses_of turn n (b ∷ [])) next)
    ∙ sym (append_assoc one (losses_of turn (place + 1) bs) (losses_of turn (place + length (c ∷ bs)) (b ∷ [])))

-- ---- one message more

lost_one : (turn place : ℕ) (b : Bool) → losses_of turn place (b ∷ []) ≡ (if b then [] else record { turn = turn; message = place } ∷ [])
lost_one turn place b = append-nil _

sent_more : (turn : ℕ) (ms : List Envelope) (m : Envelope) (b : Bool) (lost : List Loss) (old mid new : List Side) → SentOn ms old mid
    → SentBut turn ms lost old mid → SentAs b m mid new
    → SentBut turn (ms ++ m ∷ []) (lost ++ (if b then [] else record { turn = turn; message = length ms } ∷ [])) old new
sent_more turn ms m b lost old mid new on but next =
    let one : List Envelope = if b then m ∷ [] else [] in
    let all : went_of (but.went ++ b ∷ []) (ms ++ m ∷ []) ≡ went_of but.went ms ++ one = went-snoc but.went ms b m but.many in
    record {
      went = but.went ++ b ∷ [];
      many = length-append but.went (b ∷ []) ∙ ap (λ (n : ℕ). n + 1) but.many ∙ sym (length-append ms (m ∷ []));
      is_lost = ap (λ (l : List Loss). l ++ (if b then [] else record { turn = turn; message = length ms } ∷ [])) but.is_lost
          ∙ sym (losses-snoc turn 0 but.went b ∙ ap (λ (l : List Loss). losses_of turn 0 but.went
          ++ l) (lost_one turn (0 + length but.went) b ∙ ap (λ (n : ℕ). if b then [] else record { turn = turn; message = n } ∷ [])
          (let many : 0 + length but.went ≡ length ms = omega (arith, but.many) in many)));
      put = λ k d lt.
          let to = (slice_index_or old k d).receiver in
          let same : (slice_index_or mid k d).receiver ≡ to = (on.each k d lt).same.receiver in
          let lt' : k < length mid = (let len = on.len in omega (arith, lt, len)) in
          next.put k d lt' ∙ ap (λ (j : ℕ). (slice_index_or mid k d).messages ++ addressed_to j one) same
          ∙ ap (λ (l : List Envelope). l ++ addressed_to to one) (but.put k d lt)
          ∙ append_assoc (slice_index_or old k d).messages (addressed_to to (went_of but.went ms)) (addressed_to to one)
          ∙ ap (λ (l : List Envelope). (slice_index_or old k d).messages ++ l)
          (sym (ap (addressed_to to) all ∙ addressed-append to (went_of but.went ms) one));
      led = subst (λ (l : List Envelope). AllByRecursion (λ (m : Envelope). HasLink old m.receiver) l) (sym all)
          (all_snoc (λ (m : Envelope). HasLink old m.receiver) (went_of but.went ms) one but.led (led_one b next.led));
    }
  where
    led_one : (b : Bool) → (b ≡ true → HasLink mid m.receiver)
        → AllByRecursion (λ (m : Envelope). HasLink old m.receiver) (if b then m ∷ [] else [])
    led_one false has = tt
    led_one true has =
        let link = has refl in
        let len = on.len in
        let lt : link.0 < length old = (let within = link.1 in omega (arith, within, len)) in
        ((link.0, lt, λ d. sym (on.each link.0 d lt).same.receiver ∙ link.2 d), tt)

none_lost : (turn : ℕ) (sides : List Side) → SentBut turn [] [] sides sides
none_lost turn sides = record {
  went = [];
  many = refl;
  is_lost = refl;
  put = λ k d lt. sym (append-nil (slice_index_or sides k d).messages);
  led = tt;
}

-- the next message of those that are sent
pub noted_next : (turn : ℕ) (sent : List Envelope) (i : ℕ) (m : Envelope) (b : Bool) (before mid_lost new_lost : List Loss)
    (old mid new : List Side) → i < length sent → m ≡ get_or sent i m → SentOn (take i sent) old mid
    → NotesLost turn (take i sent) before mid_lost old mid → SentAs b m mid new
    → new_lost ≡ mid_lost ++ (if b then [] else record { turn = turn; message = i } ∷ [])
    → NotesLost turn (take (i + 1) sent) before new_lost old new
noted_next turn sent i m b before mid_lost new_lost old mid new lt is on notes went lost =
    let long : length (take i sent) ≡ i = length-take-le i sent (omega (arith, lt)) in
    let grown : take (i + 1) sent ≡ take i sent ++ m ∷ [] = take_more sent i m lt ∙ ap (λ x. take i sent ++ x ∷ []) (sym is) in
    let one : List Loss = if b then [] else record { turn = turn; message = i } ∷ [] in (
      notes.0 ++ one,
      lost ∙ ap (λ (l : List Loss). l ++ one) notes.1 ∙ append_assoc before notes.0 one,
      subst (λ (l : List Envelope). SentBut turn l (notes.0 ++ one) old new) (sym grown)
          (subst (λ (n : ℕ). SentBut turn (take i sent ++ m ∷ []) (notes.0
          ++ (if b then [] else record { turn = turn; message = n } ∷ [])) old new) long
          (sent_more turn (take i sent) m b notes.0 old mid new on notes.2 went)),
    )

-- ---- one message

-- it was offered to the link that leads to its receiver
pub sent_as_at : (m : Envelope) (b : Bool) (place : ℕ) (sides : List Side) (was new : Side) → LeadsTo m place sides was
    → new.messages ≡ was.messages ++ (if b then m ∷ [] else []) → SentAs b m sides (slice_set sides place new)
sent_as_at m b place sides was new l put = record {
  put = λ k d within. elim (cases_eq k place) [
    | inl at ↦ (
        let here : slice_index_or (slice_set sides place new) k d ≡ new = get_or-set_at sides place k new d at l.within in
        let old : slice_index_or sides k d ≡ was = ap (λ (i : ℕ). slice_index_or sides i d) at
        ∙ sym (get_or_read sides place was l.within l.is d) in
        ap (λ (s : Side). s.messages) here ∙ put ∙ ap (λ (l : List Envelope). was.messages ++ l) (sym (here_all b))
        ∙ ap (λ (s : Side). s.messages ++ addressed_to s.receiver (if b then m ∷ [] else [])) (sym old))
    | inr far ↦ (
        let there : slice_index_or (slice_set sides place new) k d ≡ slice_index_or sides k d = get_or-set_other sides place k new d far in
        ap (λ (s : Side). s.messages) there ∙ sym (append-nil (slice_index_or sides k d).messages)
        ∙ ap (λ (l : List Envelope). (slice_index_or sides k d).messages ++ l)
        (sym (none_for b (slice_index_or sides k d).receiver (λ same. far (l.only k d within (sym same))))))
  ];
  led = λ _. (place, l.within, λ d. ap (λ (s : Side). s.receiver) (sym (get_or_read sides place was l.within l.is d)) ∙ l.to);
}
  where
    here_all : (b : Bool) → addressed_to was.receiver (if b then m ∷ [] else []) ≡ (if b then m ∷ [] else [])
    here_all true = addressed_yes was.receiver m (sym l.to)
    here_all false = refl

    none_for : (b : Bool) (j : ℕ) → m.receiver ≢ j → addressed_to j (if b then m ∷ [] else []) ≡ []
    none_for true j other = addressed_no j m other
    none_for false j other = refl

-- no link leads there
pub sent_nowhere : (m : Envelope) (sides : List Side) → SentAs false m sides sides
sent_nowhere m sides = record { put = λ k d lt. sym (append-nil (slice_index_or sides k d).messages); led = λ no. absurd cc }

-- ---- a whole history

marked-snoc : (ws : List (List Bool)) (ts : List Turn) (w : List Bool) (t : Turn) → AreMarked ws ts → length w ≡ length t.entry.sent
    → AreMarked (ws ++ w ∷ []) (ts ++ t ∷ [])
marked-snoc [] [] w t all same = (same, tt)
marked-snoc (v ∷ ws) (x ∷ ts) w t all same = (all.0, marked-snoc ws ts w t all.1 same)
marked-snoc ws ts w t all same = absurd all

all_went-snoc : (ws : List (List Bool)) (ts : List Turn) (w : List Bool) (t : Turn) → AreMarked ws ts
    → all_went (ws ++ w ∷ []) (ts ++ t ∷ []) ≡ all_went ws ts ++ went_of w t.entry.sent
all_went-snoc [] [] w t all = append-nil (went_of w t.entry.sent)
all_went-snoc (v ∷ ws) (x ∷ ts) w t all =
    ap (λ (l : List Envelope). went_of v x.entry.sent ++ l) (all_went-snoc ws ts w t all.1)
    ∙ sym (append_assoc (went_of v x.entry.sent) (all_went ws ts) (went_of w t.entry.sent))
all_went-snoc ws ts w t all = absurd all

all_losses-snoc : (n : ℕ) (ws : List (List Bool)) (ts : List Turn) (w : List Bool) → AreMarked ws ts
    → all_losses n (ws ++ w ∷ []) ≡ all_losses n ws ++ losses_of (n + length ts) 0 w
all_losses-snoc n [] [] w all = append-nil (losses_of n 0 w) ∙ ap (λ (k : ℕ). losses_of k 0 w) (let same : n ≡ n + 0 = omega arith in same)
all_losses-snoc n (v ∷ ws) (x ∷ ts) w all =
    let next : (n + 1) + length ts ≡ n + length (x ∷ ts) = omega arith in
    ap (λ (l : List Loss). losses_of n 0 v ++ l) (all_losses-snoc (n + 1) ws ts w all.1
    ∙ ap (λ (k : ℕ). all_losses (n + 1) ws ++ losses_of k 0 w) next)
    ∙ sym (append_assoc (losses_of n 0 v) (all_losses (n + 1) ws) (losses_of (n + length (x ∷ ts)) 0 w))
all_losses-snoc n ws ts w all = absurd all

-- the links are to the same nodes
links_stay : (old new : List Side) → length new ≡ length old
    → ((k : ℕ) (d : Side) → k < length old → (slice_index_or new k d).receiver ≡ (slice_index_or old k d).receiver) → (ms : List Envelope)
    → AllByRecursion (λ (m : Envelope). HasLink old m.receiver) ms → AllByRecursion (λ (m : Envelope). HasLink new m.receiver) ms
links_stay old new len same [] all = tt
links_stay old new len same (m ∷ ms) all =
    let link = all.0 in (
      (link.0, (let within = link.1 in omega (arith, within, len)), λ d. same link.0 d link.1 ∙ link.2 d),
      links_stay old new len same ms all.1,
    )

-- one turn more
pub lost_more : (history : List Turn) (t : Turn) (lost more : List Loss) (old new : List Side) → HasLost history lost old
    → SentOn t.entry.sent old new → SentBut (length history) t.entry.sent more old new → HasLost (history ++ t ∷ []) (lost ++ more) new
lost_more history t lost more old new has on but =
    let all = all_went-snoc has.went history but.went t has.marked in
    let led = all_snoc (λ (m : Envelope). HasLink old m.receiver) (all_went has.went history)
    (went_of but.went t.entry.sent) has.led but.led in
    record {
      went = has.went ++ but.went ∷ [];
      marked = marked-snoc has.went history but.went t has.marked but.many;
      is_lost = (λ i. has.is_lost i ++ but.is_lost i) ∙ sym (all_losses-snoc 0 has.went history but.went has.marked
          ∙ ap (λ (k : ℕ). all_losses 0 has.went ++ losses_of k 0 but.went)
          (let same : 0 + length history ≡ length history = omega arith in same));
      put = λ k d lt.
          let len = on.len in
          let lt' : k < length old = omega (arith, lt, len) in
          let to = (slice_index_or old k d).receiver in
          but.put k d lt' ∙ ap (λ (l : List Envelope). l ++ addressed_to to (went_of but.went t.entry.sent)) (has.put k d lt')
          ∙ sym (addressed-append to (all_went has.went history) (went_of but.went t.entry.sent)) ∙ ap (addressed_to to) (sym all)
          ∙ ap (λ (j : ℕ). addressed_to j (all_went (has.went ++ but.went ∷ []) (history ++ t ∷ []))) (sym (on.each k d lt').same.receiver);
      led = links_stay old new on.len (λ k d lt. (on.each k d lt).same.receiver) (all_went (has.went ++ but.went ∷ []) (history ++ t ∷ []))
          (subst (AllByRecursion (λ (m : Envelope). HasLink old m.receiver)) (sym all) led);
    }

-- nothing was put yet
pub nothing_lost : (puts : List Side) → ((k : ℕ) (d : Side) → k < length puts → (slice_index_or puts k d).messages ≡ [])
    → HasLost [] [] puts
nothing_lost puts none = record { went = []; marked = tt; is_lost = refl; put = none; led = tt }

-- a turn that sends nothing
pub none_noted : (turn : ℕ) (lost new : List Loss) (sides : List Side) → new ≡ lost → NotesLost turn [] lost new sides sides
none_noted turn lost new sides same = ([], same ∙ sym (append-nil lost), none_lost turn sides)

-- room alone was made before
pub noted_since : (turn : ℕ) (sent : List Envelope) (before after : List Loss) (a b c : List Side) → SameSides a b
    → NotesLost turn sent before after b c → NotesLost turn sent before after a c
noted_since turn sent before after a b c same notes = (
  notes.0,
  notes.1,
  record {
    went = notes.2.went;
    many = notes.2.many;
    is_lost = notes.2.is_lost;
    put = λ k d lt.
        let one = same.each k d lt in
        let lt' : k < length b = (let len = same.len in omega (arith, lt, len)) in
        notes.2.put k d lt' ∙ (λ i. one.1 i ++ addressed_to (one.0.receiver i) (went_of notes.2.went sent));
    led = links_stay b a (sym same.len) (λ k d lt. sym (same.each k d (let len = same.len in omega (arith, lt, len))).0.receiver)
        (went_of notes.2.went sent) notes.2.led;
  },
)

pub lost_stays : (history : List Turn) (lost : List Loss) (a b : List Side) → SameSides a b → HasLost history lost a
    → HasLost history lost b
lost_stays history lost a b same has = record {
  went = has.went;
  marked = has.marked;
  is_lost = has.is_lost;
  put = λ k d lt.
      let lt' : k < length a = (let len = same.len in omega (arith, lt, len)) in
      let one = same.each k d lt' in
      one.1 ∙ has.put k d lt' ∙ ap (λ (j : ℕ). addressed_to j (all_went has.went history)) (sym one.0.receiver);
  led = links_stay a b same.len (λ k d lt. (same.each k d lt).0.receiver) (all_went has.went history) has.led;
}
