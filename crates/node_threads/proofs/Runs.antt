-- What went over a link, from what is known of its two nodes, and what is true of the run.
use Rattle.std.proofs.Common.{◌≡◌, ℕ, ◌==◌, ◌⊎◌, Bool, true, false, cond, Some, List, [], ◌∷◌, ◌++◌, slice_get, slice_index, refl, ap, sym}
use Rattle.std.proofs.Common.{◌∙◌, subst, subst₂, inl, inr, arith, ◌≢◌, ◌+◌, ◌*◌, ◌-◌, length, option_map}
use Rattle.std.proofs.lemmas.Bool.{eqb-true, cases_lt}
use Rattle.std.proofs.lemmas.Bool.Decides.{nat_tests}
use Rattle.std.proofs.lemmas.List.Elements.{filter-append}
use Rattle.std.proofs.lemmas.Option.{get_or_from_slice_get, same_Some, slice_get_within, slice_get-map}
use Rattle.std.proofs.lemmas.List.{length-map}
use mathlib.Core.List.{IsPrefix}
use Rattle.wire_msg.specs.Envelope.{Envelope}
use Rattle.link_ring.specs.declared.gathering.LinkEnd.{LinkEnd}
use Rattle.histories.specs.Lists.{IsAmong, Each}
use Rattle.histories.specs.HistoryEvent.{brought, event_of, Entry}
use Rattle.histories.specs.NodeState.{opening}
use Rattle.histories.specs.History.{sent_in, brought_in, Follows, FollowsSlots}
use Rattle.histories.proofs.PublicLaws.{among_left, among_right, among_either, each_at, each_of, sent_of_one, senders, each_bundle_rises}
use Rattle.histories.proofs.PublicLaws.{one_book, one_coordinator, one_task, one_worker, owner_finishes}
use Rattle.histories.specs.Bundle.{Bundle, sent_by_all}
use Rattle.node_lock.specs.declared.run.Run.{Run}
use Rattle.node_lock.specs.declared.worker.Turns.{Turns}
use Rattle.node_lock.specs.declared.worker.Worker.{Worker}
use Rattle.node_lock.specs.declared.worker.Worker.TheVariants.{Intake, Clock, Operator}
use Rattle.node_lock.specs.Asking.{IsAsked, Asked}
use Rattle.node_lock.specs.Doing.{Gives}
use Rattle.node_lock.specs.Path.{Path}
use Rattle.node_lock.specs.Planned.{Planned, no_turns}
use Rattle.node_lock.specs.Sending.{PutsSome, addressed_to}
use Rattle.node_lock.specs.History.{Turn, PlanStep, entries_of, polled, from_link}
use Rattle.node_lock.proofs.PublicLaws.{from_nothing, none_of_tick, none_of_order}
use Rattle.node_lock.specs.HeldView.{IsOther}
use Rattle.node_lock.specs.Kept.{Log}
use Rattle.node_lock.specs.Drawing.{HaveNumbers}
use Rattle.node_lock.specs.Lost.{all_went}
use Rattle.node_lock.specs.Wearing.{HasFailed, NoneAreaExhausted}
use Rattle.node_threads.specs.Nodes.{NodeEnds, run_at}
use Rattle.node_threads.specs.Links.{IsLinkOf, AreGathered}
use Rattle.node_threads.specs.Whole.{IsCarried, sent_by, IsWhole, IsOneBook, histories_in}
use Rattle.node_threads.proofs.Facts.{Facts, LostFacts, facts, lost_facts, numbers_fact, never_area_exhausted_fact}
use Rattle.node_threads.specs.declared.size.RunSize.{RunSize}
use Rattle.node_threads.specs.Ended.{AreEnded}
use Rattle.node_threads.proofs.Places.{place_of, at_map}

-- ---- what was put was sent

-- what was put was there before, or is among the messages
puts_from : (cap : ℕ) (xs ms ys : List Envelope) (m : Envelope) → PutsSome cap xs ms ys → IsAmong m ys → IsAmong m xs ⊎ IsAmong m ms
puts_from cap xs [] ys m p c = inl (subst (λ (l : List Envelope). IsAmong m l) p c)
puts_from cap xs (n ∷ ms) ys m (inl p) c =
    elim (puts_from cap (xs ++ n ∷ []) ms ys m p c) [
      | inl d ↦ elim (among_either m xs (n ∷ []) d) [ inl x ↦ inl x | inr y ↦ inr (among_left m (n ∷ []) ms y) ]
      | inr d ↦ inr (inr d)
    ]
puts_from cap xs (n ∷ ms) ys m (inr p) c =
    elim (puts_from cap xs ms ys m p.1 c) [ inl x ↦ inl x | inr d ↦ inr (inr d) ]

filtered_by : (j : ℕ) (n : Envelope) (ns : List Envelope) (m : Envelope) (b : Bool) → (n.receiver == j) ≡ b
    → (IsAmong m (addressed_to j ns) → IsAmong m ns × (m.receiver ≡ j)) → IsAmong m (addressed_to j (n ∷ ns))
    → IsAmong m (n ∷ ns) × (m.receiver ≡ j)
filtered_by j n ns m true e h c =
    let c' : IsAmong m (n ∷ addressed_to j ns) = rw e at c in
    elim c' [ inl x ↦ (inl x, ap (λ (k : Envelope). k.receiver) x ∙ eqb-true n.receiver j e) | inr y ↦ (inr (h y).0, (h y).1) ]
filtered_by j n ns m false e h c =
    let c' : IsAmong m (addressed_to j ns) = rw e at c in
    (inr (h c').0, (h c').1)

filtered : (j : ℕ) (ns : List Envelope) (m : Envelope) → IsAmong m (addressed_to j ns) → IsAmong m ns × (m.receiver ≡ j)
filtered j [] m c = absurd c
filtered j (n ∷ ns) m c = filtered_by j n ns m (n.receiver == j) refl (filtered j ns m) c

-- ---- across a link

-- a message that a node's polls of a link took: the node at the other end sent it, to this node
record Crossed (i j : ℕ) (from : List Turn) (m : Envelope) : Type 0 where
  pub is_sent : IsAmong m (sent_in (entries_of from))
  pub to : m.receiver ≡ j
  pub by : m.sender ≡ i

-- the two nodes of a link, and the link
record Joined (a b : Run) (p q : Planned) (from to : List Turn) (link : LinkEnd) : Type 0 where
  pub ends_from : NodeEnds
  pub ends_to : NodeEnds
  pub facts_from : Facts a p from ends_from
  pub facts_to : Facts b q to ends_to
  pub is_link : IsLinkOf ends_from ends_to link

-- what the link is by its two nodes
record Linked (a b : Run) (plan : Planned) (from to : List Turn) (link : LinkEnd) : Type 0 where
  sender : link.sender ≡ a.node
  receiver : link.receiver ≡ b.node
  put : PutsSome a.capacity [] (addressed_to b.node (sent_in (entries_of from))) link.put.messages
  taken : IsPrefix link.taken.messages link.put.messages
  by_polls : link.taken.messages ≡ polled plan.intake a.node to

linked : {a b : Run} {p q : Planned} {from to : List Turn} {link : LinkEnd} → Joined a b p q from to link → Linked a b q from to link
linked {a = a} {b = b} {q = q} {from = from} {to = to} {link = link} j =
    let l = j.is_link in
    let put = j.facts_from.puts l.put_end l.is_put in
    let take = j.facts_to.takes l.take_end l.is_take in
    let to_b : l.put_end.receiver ≡ b.node = l.paired.receiver ∙ take.receiver in
    let by_a : l.take_end.sender ≡ a.node = sym l.paired.sender ∙ put.sender in
    record {
      sender = l.sender ∙ put.sender;
      receiver = l.receiver ∙ to_b;
      put = subst₂ (λ n ms. PutsSome n [] (addressed_to b.node (sent_in (entries_of from))) ms) put.capacity (sym l.put)
          (subst (λ (n : ℕ). PutsSome l.put_end.capacity [] (addressed_to n (sent_in (entries_of from))) l.put_end.messages) to_b
          put.messages);
      taken = subst₂ (λ xs ys. IsPrefix xs ys) (sym l.taken) (sym l.put) l.paired.order;
      by_polls = l.taken ∙ (take.messages ∙ ap (λ (n : ℕ). polled q.intake n to) by_a);
    }

crosses : (a b : Run) (p q : Planned) (from to : List Turn) (link : LinkEnd) → Joined a b p q from to link → (m : Envelope)
    → IsAmong m (polled q.intake a.node to) → Crossed a.node b.node from m
crosses a b p q from to link j m is =
    let l = linked j in
    let taken : IsAmong m link.taken.messages = subst (λ (ms : List Envelope). IsAmong m ms) (sym l.by_polls) is in
    let there : IsAmong m link.put.messages = subst (λ (ms : List Envelope). IsAmong m ms) l.taken.1
    (among_left m link.taken.messages l.taken.0 taken) in
    elim (puts_from a.capacity [] (addressed_to b.node (sent_in (entries_of from))) link.put.messages m l.put there) [
      | inl x ↦ absurd x
      | inr y ↦ (let f = filtered b.node (sent_in (entries_of from)) m y in
          let own = senders a.node a.nodes (opening a.node) (entries_of from) j.facts_from.follows in
          record { is_sent = f.0; to = f.1; by = each_at (λ (e : Envelope). e.sender ≡ a.node) (sent_in (entries_of from)) m own f.0 })
    ]

-- ---- what a history was brought

-- a message that was taken by a poll of the link from this node
record Polled (plan : List ℕ) (h : List Turn) (m : Envelope) : Type 0 where
  pub from : ℕ
  pub at : ℕ
  pub named : slice_get plan at ≡ Some from
  pub is : IsAmong m (polled plan from h)

from_own : (plan : List ℕ) (i j : ℕ) (ms : List Envelope) → slice_get plan i ≡ Some j → from_link plan j i ms ≡ ms
from_own plan i j ms at =
    let is : slice_index plan i ≡ j = get_or_from_slice_get plan i j 0 at in
    let same : (slice_index plan i == j) ≡ true = grind (arith, nat_tests) in
    ap (λ (b : Bool). cond b ms []) same

polled_now : (p : Planned) (t : Turn) (w : Worker) (x : Asked) (ts : List Turn) (m : Envelope) → IsAsked p w t.index x
    → Gives x t.entry.what → IsAmong m (brought (event_of t.entry.what)) → Polled p.intake (t ∷ ts) m
polled_now p t Intake x ts m asks gives there =
    let k = asks.0.0 in
    let ms = brought (event_of t.entry.what) in
    let own : IsAmong m (from_link p.intake k t.index ms) = subst (λ (l : List Envelope). IsAmong m l)
    (sym (from_own p.intake t.index k ms asks.0.1)) there in
    record { from = k; at = t.index; named = asks.0.1; is = among_left m (from_link p.intake k t.index ms) (polled p.intake k ts) own }
polled_now p t Clock x ts m asks gives there =
    absurd (subst (λ (ms : List Envelope). IsAmong m ms) (none_of_tick asks.0 t.entry.what
    (subst (λ (y : Asked). Gives y t.entry.what) asks.2 gives)) there)
polled_now p t Operator x ts m asks gives there =
    absurd (subst (λ (ms : List Envelope). IsAmong m ms) (none_of_order asks.0 t.entry.what
    (subst (λ (y : Asked). Gives y t.entry.what) asks.2 gives)) there)

brought_was_polled : (p : Planned) (c : Turns) (ts : List Turn) (d : Turns) (m : Envelope) → Path (PlanStep p) c ts d
    → IsAmong m (brought_in (entries_of ts)) → Polled p.intake ts m
brought_was_polled p c [] d m path is = absurd is
brought_was_polled p c (t ∷ ts) d m path is = elim (among_either m (brought (event_of t.entry.what)) (brought_in (entries_of ts)) is) [
  | inl now ↦ polled_now p t t.worker path.1.asked ts m path.1.asks path.1.gives now
  | inr later ↦ (let p' = brought_was_polled p path.0 ts d m path.2 later in
      record {
        from = p'.from;
        at = p'.at;
        named = p'.named;
        is =
            among_right m (from_link p.intake p'.from t.index (brought (event_of t.entry.what))) (polled p.intake p'.from ts) p'.is;
      })
]

-- messages of one sender
one_sender : (i k : ℕ) (ms : List Envelope) → Each (λ (m : Envelope). m.sender ≡ k) ms → sent_by i ms ≡ cond (k == i) ms []
one_sender i k [] each = grind (arith, nat_tests)
one_sender i k (m ∷ ms) each = grind (arith, nat_tests, each.0, one_sender i k ms each.1)

-- each message that a poll of a link took has that link's sender
abbrev PolledAreOf : List ℕ → List Turn → Type 0
PolledAreOf plan ts = (at k : ℕ) (m : Envelope) → slice_get plan at ≡ Some k → IsAmong m (polled plan k ts) → m.sender ≡ k

turn_brought : (p : Planned) (t : Turn) (w : Worker) (x : Asked) (ts : List Turn) (i : ℕ) → IsAsked p w t.index x → Gives x t.entry.what
    → PolledAreOf p.intake (t ∷ ts) → from_link p.intake i t.index (brought (event_of t.entry.what))
    ≡ sent_by i (brought (event_of t.entry.what))
turn_brought p t Intake x ts i asks gives of =
    let ms = brought (event_of t.entry.what) in
    let k = asks.0.0 in
    let is : slice_index p.intake t.index ≡ k = get_or_from_slice_get p.intake t.index k 0 asks.0.1 in
    let all : Each (λ (m : Envelope). m.sender ≡ k) ms = each_of (λ (m : Envelope). m.sender ≡ k) ms (λ m there. of t.index k m asks.0.1
    (among_left m (from_link p.intake k t.index ms) (polled p.intake k ts)
    (subst (λ (l : List Envelope). IsAmong m l) (sym (from_own p.intake t.index k ms asks.0.1)) there))) in
    ap (λ (n : ℕ). cond (n == i) ms []) is ∙ sym (one_sender i k ms all)
turn_brought p t Clock x ts i asks gives of =
    let none = none_of_tick asks.0 t.entry.what (subst (λ (y : Asked). Gives y t.entry.what) asks.2 gives) in
    from_nothing p.intake i t.index (brought (event_of t.entry.what)) none ∙ sym (ap (sent_by i) none)
turn_brought p t Operator x ts i asks gives of =
    let none = none_of_order asks.0 t.entry.what (subst (λ (y : Asked). Gives y t.entry.what) asks.2 gives) in
    from_nothing p.intake i t.index (brought (event_of t.entry.what)) none ∙ sym (ap (sent_by i) none)

-- what the polls of a link took is what the history was brought from its sender
polled_is_brought : (p : Planned) (c : Turns) (ts : List Turn) (d : Turns) (i : ℕ) → Path (PlanStep p) c ts d → PolledAreOf p.intake ts
    → polled p.intake i ts ≡ sent_by i (brought_in (entries_of ts))
polled_is_brought p c [] d i path of = refl
polled_is_brought p c (t ∷ ts) d i path of =
    let rest = polled_is_brought p path.0 ts d i path.2 (λ at k m named is. of
    at k m named (among_right m (from_link p.intake k t.index (brought (event_of t.entry.what))) (polled p.intake k ts) is)) in
    let here = turn_brought p t t.worker path.1.asked ts i path.1.asks path.1.gives of in
    (λ n. here n ++ rest n) ∙ sym (filter-append (λ (m : Envelope). m.sender == i) (brought (event_of t.entry.what))
    (brought_in (entries_of ts)))

carried : (a b : Run) (p q : Planned) (from to : List Turn) (link : LinkEnd) → Joined a b p q from to link → PolledAreOf q.intake to
    → IsCarried a.capacity a.node b.node q from to link
carried a b p q from to link j of =
    let l = linked j in
    let whole = j.facts_to.interleaved in
    record {
      from = l.sender;
      to = l.receiver;
      put = l.put;
      taken = l.taken;
      by_polls = l.by_polls;
      brought = l.by_polls
          ∙ polled_is_brought q no_turns to whole.turns a.node whole.follows of;
    }

-- what was put on a link is what its sender doesn't name as lost
went_on : (a b : Run) (p q : Planned) (from : Log) (to : List Turn) (link : LinkEnd) (mine : NodeEnds) (losses : LostFacts from mine)
    → (j : Joined a b p q from.turns to link) → j.ends_from ≡ mine
    → link.put.messages ≡ addressed_to b.node (all_went losses.went from.turns)
went_on a b p q from to link mine losses j same =
    let l = j.is_link in
    let to_b : l.put_end.receiver ≡ b.node = l.paired.receiver ∙ (j.facts_to.takes l.take_end l.is_take).receiver in
    l.put ∙ losses.put l.put_end (subst (λ (e : NodeEnds). IsAmong l.put_end e.puts) same l.is_put)
    ∙ ap (λ (n : ℕ). addressed_to n (all_went losses.went from.turns)) to_b

-- a run that has ended, with its links
record Ended (size : RunSize) (plans : List Planned) (histories : List Log) (links : List LinkEnd) : Type 0 where
  nodes : length plans ≡ size.nodes
  ends : List NodeEnds
  ended : AreEnded size plans histories ends
  gathered : AreGathered ends links

-- one node of it
record NodeOf (size : RunSize) (plans : List Planned) (ends : List NodeEnds) (n : ℕ) (h : Log) : Type 0 where
  plan : Planned
  mine : NodeEnds
  plan_at : slice_get plans n ≡ Some plan
  ends_at : slice_get ends n ≡ Some mine
  facts : Facts (run_at size n) plan h.turns mine
  losses : LostFacts h mine
  numbers : (drawn : List ℕ) × HaveNumbers drawn h.numbers
  never_area_exhausted : NoneAreaExhausted (entries_of h.turns)
  failures : HasFailed (entries_of h.turns) h.failures

with_plan : (size : RunSize) (plans : List Planned) (histories : List Log) (links : List LinkEnd) (r : Ended size plans histories links)
    (n : ℕ) (p : Planned) (h : Log) (e : NodeEnds) → slice_get plans n ≡ Some p → slice_get histories n ≡ Some h
    → slice_get r.ends n ≡ Some e
    → NodeOf size plans r.ends n h
with_plan size plans histories links r n p h e at_plan at at_end =
    let has = r.ended.each n p h e at_plan at at_end in
    record {
      plan = p;
      mine = e;
      plan_at = at_plan;
      ends_at = at_end;
      facts = facts (run_at size n) p h e has;
      losses =
          lost_facts (run_at size n) p h e has;
      numbers = numbers_fact (run_at size n) p h e has;
      never_area_exhausted =
          never_area_exhausted_fact (run_at size n) p h e has;
      failures = has.failures;
    }

node_of : (size : RunSize) (plans : List Planned) (histories : List Log) (links : List LinkEnd) (r : Ended size plans histories links)
    (n : ℕ) (h : Log) → slice_get histories n ≡ Some h → NodeOf size plans r.ends n h
node_of size plans histories links r n h at =
    let within = slice_get_within histories n h at in
    let p = place_of plans n (omega (arith, within, r.ended.history_count)) in
    let e = place_of r.ends n (omega (arith, within, r.ended.history_count, r.ended.ends_count)) in
    with_plan size plans histories links r n p.0 h e.0 p.1 at e.1

-- the place of another node
other_place : (i j : ℕ) → i ≢ j → (k : ℕ) × IsOther i k j
other_place i j ne = elim (cases_lt i j) [
  | inl lt ↦ (j - 1, (λ below. absurd (omega (arith, lt, below)), λ above. omega (arith, lt)))
  | inr ge ↦ (j, (λ below. refl, λ above. absurd (ne (omega (arith, ge, above)))))
]

-- a link joins two nodes
joined : (size : RunSize) (plans : List Planned) (histories : List Log) (links : List LinkEnd) (r : Ended size plans histories links)
    (i k j : ℕ) (from to : Log) (a : NodeOf size plans r.ends i from) (b : NodeOf size plans r.ends j to) → IsOther i k j
    → (link : LinkEnd) × (slice_get links (i * (length plans - 1) + k) ≡ Some link)
    × Joined (run_at size i) (run_at size j) a.plan b.plan from.turns to.turns link
joined size plans histories links r i k j from to a b other =
    let l = r.gathered.each i k j a.mine b.mine a.ends_at b.ends_at other in (
      l.0,
      ap (λ (n : ℕ). slice_get links (i * (n - 1) + k)) (sym r.ended.ends_count) ∙ l.1,
      record { ends_from = a.mine; ends_to = b.mine; facts_from = a.facts; facts_to = b.facts; is_link = l.2 },
    )

-- what a poll of the link from node k took
polled_from : (size : RunSize) (plans : List Planned) (histories : List Log) (links : List LinkEnd) (r : Ended size plans histories links)
    (n : ℕ) (h : Log) (b : NodeOf size plans r.ends n h) (at k : ℕ) (m : Envelope) → slice_get b.plan.intake at ≡ Some k
    → IsAmong m (polled b.plan.intake k h.turns)
    → (from : Log) × (slice_get histories k ≡ Some from) × Crossed k n from.turns m
polled_from size plans histories links r n h b at k m named is =
    let other = b.facts.polls at k named in
    let from = place_of histories k (omega (arith, other.1, r.nodes, r.ended.history_count)) in
    let a = node_of size plans histories links r k from.0 from.1 in
    let place = other_place k n (λ e. other.0 (sym e)) in
    let l = joined size plans histories links r k place.0 n from.0 h a b place.1 in
    (from.0, from.1, crosses (run_at size k) (run_at size n) a.plan b.plan from.0.turns h.turns l.0 l.2 m is)

-- what a history was brought
came_from : (size : RunSize) (plans : List Planned) (histories : List Log) (links : List LinkEnd) (r : Ended size plans histories links)
    (n : ℕ) (h : Log) → slice_get histories n ≡ Some h → (m : Envelope) → IsAmong m (brought_in (entries_of h.turns))
    → IsAmong m (sent_by_all (histories_in histories)) × (m.receiver ≡ n)
came_from size plans histories links r n h at m is =
    let b = node_of size plans histories links r n h at in
    let p = brought_was_polled b.plan no_turns h.turns b.facts.interleaved.turns m b.facts.interleaved.follows is in
    let c = polled_from size plans histories links r n h b p.at p.from m p.named p.is in (
      sent_of_one m (histories_in histories) p.from (entries_of c.0.turns)
          (slice_get-map (λ (l : Log). entries_of l.turns) histories p.from
          ∙ ap (option_map (λ (l : Log). entries_of l.turns)) c.1) c.2.is_sent,
      c.2.to,
    )

is_bundle : (size : RunSize) (plans : List Planned) (histories : List Log) (links : List LinkEnd) → Ended size plans histories links
    → Bundle (histories_in histories)
is_bundle size plans histories links r = record {
  follows = λ n h at.
      let l = at_map (λ (l : Log). entries_of l.turns) histories n h at in
      let b = node_of size plans histories links r n l.0 l.1 in
      let many : size.nodes ≡ length (histories_in histories) = sym r.nodes
      ∙ (sym r.ended.history_count ∙ sym (length-map histories (λ (l : Log). entries_of l.turns))) in
      subst (λ (es : List Entry). Follows n (length (histories_in histories)) (opening n) es) l.2
      (subst (λ (k : ℕ). Follows n k (opening n) (entries_of l.0.turns)) many b.facts.follows);
  delivers = λ n h at m is.
      let l = at_map (λ (l : Log). entries_of l.turns) histories n h at in
      (came_from size plans histories links r n l.0 l.1 m (subst (λ (es : List Entry). IsAmong m (brought_in es)) (sym l.2) is)).0;
  addressed = λ n h at.
      let l = at_map (λ (l : Log). entries_of l.turns) histories n h at in
      each_of (λ (m : Envelope). m.receiver ≡ n) (brought_in h)
      (λ m is. (came_from size plans histories links r n l.0 l.1 m
      (subst (λ (es : List Entry). IsAmong m (brought_in es)) (sym l.2) is)).1);
}

in_one_book : (histories : List (List Entry)) → Bundle histories → IsOneBook histories
in_one_book histories bundle =
    let rises = each_bundle_rises histories bundle in
    let book = one_book histories bundle rises in
    record {
      bundle = bundle;
      rises = rises;
      book = book.0;
      agrees = book.1;
      coordinator = one_coordinator histories bundle rises;
      task =
          one_task histories bundle rises;
    }

-- the whole run, by what the locks gave back and the links that were gathered
pub whole_run : (size : RunSize) (plans : List Planned) (histories : List Log) (ends : List NodeEnds) (links : List LinkEnd)
    → length plans ≡ size.nodes → AreEnded size plans histories ends → AreGathered ends links → IsWhole size plans histories links
unfolding node_of joined with_plan
whole_run size plans histories ends links nodes ended gathered =
    let r : Ended size plans histories links = record { nodes = nodes; ends = ends; ended = ended; gathered = gathered } in
    let bundle = is_bundle size plans histories links r in
    record {
      history_count = ended.history_count;
      interleaved = λ n p h at_plan at.
          let e = place_of ends n (omega (arith, slice_get_within histories n h at, ended.history_count, ended.ends_count)) in
          (facts (run_at size n) p h e.0 (ended.each n p h e.0 at_plan at e.1)).interleaved;
      of_slots = λ n h at. subst (λ (k : ℕ). FollowsSlots size.slots n k (opening n) (entries_of h.turns)) (sym nodes)
          (node_of size plans histories links r n h at).facts.slots;
      lost = λ n h at.
          let a = node_of size plans histories links r n h at in
          record {
            went = a.losses.went;
            marked = a.losses.marked;
            is_lost = a.losses.is_lost;
            put = λ k j link other lt at_link.
                let to = place_of histories j (omega (arith, lt, ended.history_count)) in
                let l = joined size plans histories links r n k j h to.0 a (node_of size plans histories links r j to.0 to.1) other in
                let same : l.0 ≡ link = same_Some l.0 link (sym l.1 ∙ at_link) in
                subst (λ (x : LinkEnd). x.put.messages ≡ addressed_to j (all_went a.losses.went h.turns)) same
                (went_on (run_at size n) (run_at size j) a.plan _ h to.0.turns l.0 a.mine a.losses l.2 refl);
          };
      numbers = λ n h at. (node_of size plans histories links r n h at).numbers;
      never_area_exhausted = λ n h at. (node_of size plans histories links r n h at).never_area_exhausted;
      failures = λ n h at. (node_of size plans histories links r n h at).failures;
      link_count = gathered.count ∙ ap (λ (n : ℕ). n * (n - 1)) ended.ends_count;
      carried = λ i k j p from to at_from at_to at_plan other.
          let a = node_of size plans histories links r i from at_from in
          let e = place_of ends j (omega (arith, slice_get_within histories j to at_to, ended.history_count, ended.ends_count)) in
          let b : NodeOf size plans ends j to = with_plan size plans histories links r j p to e.0 at_plan at_to e.1 in
          let l = joined size plans histories links r i k j from to a b other in (
            l.0,
            l.1,
            carried (run_at size i) (run_at size j) a.plan p from.turns to.turns l.0 l.2 (λ at k m named is.
                (polled_from size plans histories links r j to b at k m named is).2.by),
          );
      one_book = in_one_book (histories_in histories) bundle;
      worked = record { finished = owner_finishes (histories_in histories) bundle; worker = one_worker (histories_in histories) bundle };
    }
