-- No node of a bundle writes to itself. A bundle has no order of time, so this is shown kind by kind: first of the messages whose
-- receiver doesn't hang on what was brought, then of the answers to these, and then of all.
use Rattle.std.proofs.Common.{◌≡◌, ◌≢◌, ◌+◌, ◌<◌, ℕ, List, [], ◌∷◌, slice_get, length, Some, sym, subst, ◌∙◌}
use Rattle.std.proofs.lemmas.Option.{slice_get_within}
use Rattle.group_task.specs.Ids.{ids_below}
use Rattle.job_model.specs.declared.job.Job.{Job}
use Rattle.job_model.specs.Answer.{answer_to}
use Rattle.wire_msg.specs.Envelope.{Envelope}
use Rattle.wire_msg.specs.declared.body.Body.{Body}
use Rattle.wire_msg.specs.declared.body.Body.TheVariants as says
use Rattle.node_core.specs.declared.event.Event.{Event}
use Rattle.node_core.specs.declared.event.Event.TheVariants as on
use Rattle.node_core.specs.State.{State}
use Rattle.node_core.specs.Start.{alone, down}
use Rattle.node_core.specs.Effects.{effect_of}
use Rattle.node_core.specs.Refusals.{ids_in}
use Rattle.histories.specs.Lists.{IsAmong, Each}
use Rattle.histories.specs.NodeState.{NodeState, opening, settled, wants_at}
use Rattle.histories.specs.declared.history_event.HistoryEvent.{HistoryEvent}
use Rattle.histories.specs.declared.history_event.HistoryEvent.TheVariants.{Did, Faulted, Crashed, Recovered, RaiseFailed}
use Rattle.histories.specs.HistoryEvent.{Entry, event_of, brought}
use Rattle.histories.specs.After.{after, sent_at}
use Rattle.histories.specs.History.{Follows, sent_in, brought_in}
use Rattle.histories.specs.Bundle.{Bundle}
use Rattle.histories.specs.Ends.{EachGoesOut}
use Rattle.histories.proofs.Among.{each_append, each_split, each_at, each_of, each_more, SentBy, sent_by_one}
use Rattle.histories.proofs.OwnMessages.{senders}
use Rattle.histories.proofs.Inside.{history_inside, opening_inside}
use Rattle.histories.proofs.Reaches.{Names, Asks, Brings, Goes, Reaches, event_reaches, Any, each_any}

-- ---- what a node may say to itself, where A and B fail

-- to another node: an answer where those that asked are others (A), an invitation or a task where those that joined are (B)
abbrev ToOther : Type 0 → Type 0 → ℕ → ℕ → Body → Type 0
ToOther A B self receiver (says.Coordinator agreed) = A → receiver ≢ self
ToOther A B self receiver (says.Here group agreed) = A → receiver ≢ self
ToOther A B self receiver (says.Invitation group) = B → receiver ≢ self
ToOther A B self receiver (says.Ready task) = B → receiver ≢ self
ToOther A B self receiver body = receiver ≢ self

-- those that join are others where B holds
abbrev JoinsOther : Type 0 → ℕ → ℕ → Type 0
JoinsOther B self id = B → id ≢ self

-- those that ask are others where A holds, and those that join where B does
abbrev OfOther : Type 0 → Type 0 → ℕ → ℕ → Body → Type 0
OfOther A B self sender body = Asks (JoinsOther B self) (ToOther A B self) sender body

abbrev AreToOthers : Type 0 → Type 0 → ℕ → List Envelope → Type 0
AreToOthers A B self ms = Each (λ (m : Envelope). ToOther A B self m.receiver m.body) ms

abbrev AreOfOthers : Type 0 → Type 0 → ℕ → List Envelope → Type 0
AreOfOthers A B self ms = Each (λ (m : Envelope). OfOther A B self m.sender m.body) ms

to_other : (A B : Type 0) (self receiver : ℕ) (body : Body) → receiver ≢ self → ToOther A B self receiver body
to_other A B self receiver (says.Coordinator agreed) other = λ a. other
to_other A B self receiver (says.Here group agreed) other = λ a. other
to_other A B self receiver (says.Invitation group) other = λ b. other
to_other A B self receiver (says.Ready task) other = λ b. other
to_other A B self receiver body other = other

-- ---- one event

-- the ids that a state writes an invitation or a task to
abbrev NamesOthers : Type 0 → ℕ → State → Type 0
NamesOthers B self s = Names Any (JoinsOther B self) s

brought_out : (A B : Type 0) (self : ℕ) (event : Event) → AreOfOthers A B self (brought (Some event))
    → Brings Any (JoinsOther B self) (ToOther A B self) event
brought_out A B self (on.Deliver m) came = record { known = tt; names = each_any (ids_in m.body); asks = came.0 }
brought_out A B self event came = tt

event_out : (A B : Type 0) (self nodes : ℕ) (s : State) → NamesOthers B self s → (pending : List Job) (event : Event) (answer : ℕ)
    → AreOfOthers A B self (brought (Some event))
    → Reaches Any (JoinsOther B self) (ToOther A B self) self s (effect_of nodes self pending event answer s)
event_out A B self nodes s h pending event answer came = event_reaches Any (JoinsOther B self) (ToOther A B self) nodes self
    (record {
      own = tt;
      first = tt;
      all = each_any (ids_below nodes);
      within = λ id u. tt;
      other = λ id body known other. to_other A B self id body other;
      called = λ id group u. u;
      told = λ id task u. u;
    })
    s h pending event answer (brought_out A B self event came)

-- ---- one history

alone_out : (B : Type 0) (self count : ℕ) → NamesOthers B self (alone self count)
alone_out B self count = record { coordinator = tt; up = tt; found = tt; members = (tt, tt); hand = tt }

down_out : (B : Type 0) (self : ℕ) → NamesOthers B self (down self)
down_out B self = record { coordinator = tt; up = tt; found = tt; members = tt; hand = tt }

after_out : (A B : Type 0) (self nodes : ℕ) (s : NodeState) (what : HistoryEvent) → AreOfOthers A B self (brought (event_of what))
    → NamesOthers B self s.state → NamesOthers B self (after self nodes s what).state
after_out A B self nodes s (Did event) came h = (event_out A B self nodes s.state h s.durable.pending event
    (answer_to s.durable (wants_at self nodes s event)) came).state
after_out A B self nodes s (Faulted event) came h = down_out B self
after_out A B self nodes s Crashed came h = down_out B self
after_out A B self nodes s (Recovered kept) came h = alone_out B self ((settled kept s).counter + 1)
after_out A B self nodes s (RaiseFailed kept) came h = down_out B self
after_out A B self nodes s what came h = h

entry_out : (A B : Type 0) (self nodes : ℕ) (s : NodeState) (what : HistoryEvent) → AreOfOthers A B self (brought (event_of what))
    → NamesOthers B self s.state → AreToOthers A B self (sent_at self nodes s what)
entry_out A B self nodes s (Did event) came h = each_more (Goes (ToOther A B self) self)
    (λ (m : Envelope). ToOther A B self m.receiver m.body) (sent_at self nodes s (Did event)) (λ m goes. goes.1)
    (event_out A B self nodes s.state h s.durable.pending event (answer_to s.durable (wants_at self nodes s event)) came).sent
entry_out A B self nodes s what came h = tt

history_out : (A B : Type 0) (self nodes : ℕ) (s : NodeState) (es : List Entry) → Follows self nodes s es
    → AreOfOthers A B self (brought_in es) → NamesOthers B self s.state → AreToOthers A B self (sent_in es)
history_out A B self nodes s [] follows came h = tt
history_out A B self nodes s (e ∷ es) follows came h =
    let parts = each_split (λ (m : Envelope). OfOther A B self m.sender m.body) (brought (event_of e.what)) (brought_in es) came in
    each_append (λ (m : Envelope). ToOther A B self m.receiver m.body) e.sent (sent_in es)
    (subst (λ (ms : List Envelope). AreToOthers A B self ms) (sym follows.1) (entry_out A B self nodes s e.what parts.0 h))
    (history_out A B self nodes (after self nodes s e.what) es follows.2 parts.1 (after_out A B self nodes s e.what parts.0 h))

-- ---- all nodes

-- one that was sent to another than its sender comes from another
crosses : (m : Envelope) (n k : ℕ) → m.sender ≡ k → m.receiver ≡ n → m.receiver ≢ k → m.sender ≢ n
crosses m n k own here other same_node = other (here ∙ (sym same_node ∙ own))

none_asked : (self sender : ℕ) (body : Body) → OfOther ⊥ ⊥ self sender body
none_asked self sender says.AreYouCoordinator = λ agreed a. absurd a
none_asked self sender (says.Coordinator agreed) = λ b. absurd b
none_asked self sender (says.AreYouThere group) = λ agreed a. absurd a
none_asked self sender (says.Accept group) = λ b. absurd b
none_asked self sender body = tt

-- those that ask are others, since no question is put to oneself
asked_others : (n k : ℕ) (m : Envelope) (body : Body) → m.sender ≡ k → m.receiver ≡ n → ToOther ⊥ ⊥ k m.receiver body
    → OfOther (Unit {0}) ⊥ n m.sender body
asked_others n k m says.AreYouCoordinator own here to = λ agreed a. crosses m n k own here to
asked_others n k m (says.Coordinator agreed) own here to = λ b. absurd b
asked_others n k m (says.AreYouThere group) own here to = λ agreed a. crosses m n k own here to
asked_others n k m (says.Accept group) own here to = λ b. absurd b
asked_others n k m body own here to = tt

-- and so those that join are
joined_others : (n k : ℕ) (m : Envelope) (body : Body) → m.sender ≡ k → m.receiver ≡ n → ToOther (Unit {0}) ⊥ k m.receiver body
    → OfOther (Unit {0}) (Unit {0}) n m.sender body
joined_others n k m says.AreYouCoordinator own here to = λ agreed a. crosses m n k own here to
joined_others n k m (says.Coordinator agreed) own here to = λ b. crosses m n k own here (to tt)
joined_others n k m (says.AreYouThere group) own here to = λ agreed a. crosses m n k own here to
joined_others n k m (says.Accept group) own here to = λ b. crosses m n k own here to
joined_others n k m body own here to = tt

to_another : (self receiver : ℕ) (body : Body) → ToOther (Unit {0}) (Unit {0}) self receiver body → receiver ≢ self
to_another self receiver (says.Coordinator agreed) to = to tt
to_another self receiver (says.Here group agreed) to = to tt
to_another self receiver (says.Invitation group) to = to tt
to_another self receiver (says.Ready task) to = to tt
to_another self receiver body to = to

module _ (histories : List (List Entry)) (bundle : Bundle histories) where
  own_at : (n : ℕ) (h : List Entry) → slice_get histories n ≡ Some h → (m : Envelope) → IsAmong m (sent_in h) → m.sender ≡ n
  own_at n h at m i = each_at (λ (x : Envelope). x.sender ≡ n)
      (sent_in h) m (senders n (length histories) (opening n) h (bundle.follows n h at)) i

  out_at : (A B : Type 0) (n : ℕ) (h : List Entry) → slice_get histories n ≡ Some h → AreOfOthers A B n (brought_in h)
      → AreToOthers A B n (sent_in h)
  out_at A B n h at came = history_out A B n (length histories) (opening n) h (bundle.follows n h at) came (alone_out B n 1)

  -- what holds of all that is sent holds of all that is brought
  brought_at : (A B C D : Type 0) → ((n k : ℕ) (m : Envelope) → m.sender ≡ k → m.receiver ≡ n → ToOther A B k m.receiver m.body
      → OfOther C D n m.sender m.body)
      → ((n : ℕ) (h : List Entry) → slice_get histories n ≡ Some h → AreToOthers A B n (sent_in h)) → (n : ℕ) (h : List Entry)
      → slice_get histories n ≡ Some h → AreOfOthers C D n (brought_in h)
  brought_at A B C D next sent n h at = each_of (λ (m : Envelope). OfOther C D n m.sender m.body) (brought_in h)
      (λ m i.
      (let by : SentBy m histories = sent_by_one m histories (bundle.delivers n h at m i) in
      next n by.node m (own_at by.node by.history by.at m by.sent)
      (each_at (λ (x : Envelope). x.receiver ≡ n) (brought_in h) m (bundle.addressed n h at) i)
      (each_at (λ (x : Envelope). ToOther A B by.node x.receiver x.body) (sent_in by.history) m (sent by.node by.history by.at) by.sent)))

  first_sent : (n : ℕ) (h : List Entry) → slice_get histories n ≡ Some h → AreToOthers ⊥ ⊥ n (sent_in h)
  first_sent n h at = out_at ⊥ ⊥ n h at (each_of (λ (m : Envelope). OfOther ⊥ ⊥ n m.sender m.body) (brought_in h) (λ m i.
      none_asked n m.sender m.body))

  answers_sent : (n : ℕ) (h : List Entry) → slice_get histories n ≡ Some h → AreToOthers (Unit {0}) ⊥ n (sent_in h)
  answers_sent n h at = out_at (Unit {0}) ⊥ n h at (brought_at ⊥ ⊥ (Unit {0}) ⊥ (λ n k m. asked_others n k m m.body) first_sent n h at)

  all_sent : (n : ℕ) (h : List Entry) → slice_get histories n ≡ Some h → AreToOthers (Unit {0}) (Unit {0}) n (sent_in h)
  all_sent n h at = out_at (Unit {0}) (Unit {0}) n h at (brought_at (Unit {0}) ⊥ (Unit {0}) (Unit {0}) (λ n k m. joined_others n k m m.body)
      answers_sent n h at)

pub each_goes_out : EachGoesOut
each_goes_out histories bundle n h at m i = record {
  own = own_at histories bundle n h at m i;
  within = each_at (λ (x : Envelope). x.receiver < length histories) (sent_in h) m
      (history_inside (length histories) n (opening n) h (bundle.follows n h at)
      (opening_inside (length histories) n (slice_get_within histories n h at))) i;
  another = to_another n m.receiver m.body
      (each_at (λ (x : Envelope). ToOther (Unit {0}) (Unit {0}) n x.receiver x.body) (sent_in h) m (all_sent histories bundle n h at) i);
}
