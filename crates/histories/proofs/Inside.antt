-- Messages are sent to nodes of the cluster alone: a vector names no other node.
use Rattle.std.proofs.Common.{◌≡◌, ℕ, zero, suc, ◌+◌, ◌<◌, ◌≤◌, Bool, true, false, ◌&&◌, ◌||◌, List, [], ◌∷◌, refl, sym, subst, arith, None}
use Rattle.std.specs.Prelude.{◌==◌, nat_lt}
use Rattle.std.specs.List.{list_all}
use Rattle.std.proofs.lemmas.Bool.{ltb-true}
use Rattle.group_task.specs.Ids.{ids_below}
use Rattle.job_model.specs.declared.job.Job.{Job}
use Rattle.job_model.specs.Answer.{answer_to}
use Rattle.wire_msg.specs.Envelope.{Envelope}
use Rattle.wire_msg.specs.declared.body.Body.{Body}
use Rattle.wire_msg.specs.declared.body.Body.TheVariants as says
use Rattle.node_core.specs.declared.event.Event.{Event}
use Rattle.node_core.specs.declared.event.Event.TheVariants as on
use Rattle.node_core.specs.declared.in_hand.InHand.{InHand}
use Rattle.node_core.specs.State.{State}
use Rattle.node_core.specs.Start.{alone, down}
use Rattle.node_core.specs.Words.{holds}
use Rattle.node_core.specs.Effects.{effect_of}
use Rattle.node_core.specs.Refusals.{ids_in, is_known, refusal_of}
use Rattle.histories.specs.Lists.{Each}
use Rattle.histories.specs.NodeState.{NodeState, opening, settled, wants_at}
use Rattle.histories.specs.declared.history_event.HistoryEvent.{HistoryEvent}
use Rattle.histories.specs.declared.history_event.HistoryEvent.TheVariants.{Did, Faulted, Crashed, Recovered, RaiseFailed}
use Rattle.histories.specs.HistoryEvent.{Entry}
use Rattle.histories.specs.After.{after, sent_at}
use Rattle.histories.specs.Possible.{IsPossible}
use Rattle.histories.specs.History.{Follows, sent_in}
use Rattle.histories.specs.Ends.{AreToNodes}
use Rattle.histories.proofs.Tests.{and_left, and_right, eq_nat}
use Rattle.histories.proofs.Among.{each_append, each_more}
use Rattle.histories.proofs.Entries.{held_finish, unless}
use Rattle.histories.proofs.Reaches.{Names, Asks, Brings, Goes, Reaches, event_reaches, with_each}

abbrev pub IsNode : ℕ → ℕ → Type 0
IsNode nodes id = id < nodes

abbrev pub SaidTo : ℕ → ℕ → Body → Type 0
SaidTo nodes receiver body = receiver < nodes

-- the nodes that a vector names are of the cluster
abbrev pub NamesNodes : ℕ → State → Type 0
NamesNodes nodes s = Names (IsNode nodes) (IsNode nodes) s

pub alone_inside : (nodes self count : ℕ) → self < nodes → NamesNodes nodes (alone self count)
alone_inside nodes self count lt = record { coordinator = lt; up = tt; found = tt; members = (lt, tt); hand = tt }

down_inside : (nodes self : ℕ) → self < nodes → NamesNodes nodes (down self)
down_inside nodes self lt = record { coordinator = lt; up = tt; found = tt; members = tt; hand = tt }

-- ---- what an event brings

first_nodes : (nodes k : ℕ) → k ≤ nodes → Each (IsNode nodes) (ids_below k)
first_nodes nodes zero le = tt
first_nodes nodes (suc k) le = with_each (IsNode nodes) (ids_below k) k (omega (arith, le)) (first_nodes nodes k (omega (arith, le)))

tested_nodes : (nodes : ℕ) (ids : List ℕ) → list_all (λ (id : ℕ). nat_lt id nodes) ids ≡ true → Each (IsNode nodes) ids
tested_nodes nodes [] h = tt
tested_nodes nodes (x ∷ xs) h = (ltb-true x nodes (and_left _ _ h), tested_nodes nodes xs (and_right _ _ h))

held_of_node : (nodes : ℕ) (hand : List InHand) (origin id : ℕ) → Each (λ (job : InHand). job.origin < nodes) hand
    → holds hand origin id ≡ true → origin < nodes
held_of_node nodes [] origin id h is = absurd cc
held_of_node nodes (job ∷ hand) origin id h is = by_first (job.origin == origin && job.id == id)
    (holds hand origin id) refl is (λ rest. held_of_node nodes hand origin id h.1 rest)
  where
    by_first : (b c : Bool) → (job.origin == origin && job.id == id) ≡ b → (b || c) ≡ true → (c ≡ true → origin < nodes) → origin < nodes
    by_first true c e t f = subst (λ (k : ℕ). k < nodes) (eq_nat job.origin origin (and_left _ _ e)) h.0
    by_first false c e t f = f t

asked_inside : (nodes from : ℕ) (body : Body) → from < nodes → Asks (IsNode nodes) (SaidTo nodes) from body
asked_inside nodes from says.AreYouCoordinator lt = λ agreed. lt
asked_inside nodes from (says.AreYouThere group) lt = λ agreed. lt
asked_inside nodes from (says.Coordinator agreed) lt = lt
asked_inside nodes from (says.Accept group) lt = lt
asked_inside nodes from body lt = tt

brought_inside : (nodes self : ℕ) (s : State) (event : Event) → NamesNodes nodes s → refusal_of nodes self event s ≡ None
    → Brings (IsNode nodes) (IsNode nodes) (SaidTo nodes) event
brought_inside nodes self s (on.Deliver m) h taken =
    let known : Each (IsNode nodes) (m.sender ∷ ids_in m.body) =
    tested_nodes nodes (m.sender ∷ ids_in m.body) (and_right _ _ (unless (is_known nodes self m) _ taken)) in
    record { known = known.0; names = known.1; asks = asked_inside nodes m.sender m.body known.0 }
brought_inside nodes self s (on.Finish origin id) h taken =
    held_of_node nodes s.hand origin id h.hand (held_finish nodes self origin id s taken).1
brought_inside nodes self s event h taken = tt

event_inside : (nodes self : ℕ) (s : State) → self < nodes → NamesNodes nodes s → (pending : List Job) (event : Event) (answer : ℕ)
    → refusal_of nodes self event s ≡ None
    → Reaches (IsNode nodes) (IsNode nodes) (SaidTo nodes) self s (effect_of nodes self pending event answer s)
event_inside nodes self s lt h pending event answer taken = event_reaches (IsNode nodes) (IsNode nodes) (SaidTo nodes) nodes self
    (record {
      own = lt;
      first = omega (arith, lt);
      all = first_nodes nodes nodes (omega arith);
      within = λ id u. u;
      other = λ id body known other. known;
      called = λ id group u. u;
      told = λ id task u. u;
    })
    s h pending event answer (brought_inside nodes self s event h taken)

-- ---- one node

-- a node of the cluster, whose vector names such nodes alone
pub record IsInside (nodes self : ℕ) (s : NodeState) : Type 0 where
  pub node : self < nodes
  pub names : NamesNodes nodes s.state

pub after_inside : (nodes self : ℕ) (s : NodeState) (what : HistoryEvent) → IsPossible self nodes s what → IsInside nodes self s
    → NamesNodes nodes (after self nodes s what).state
after_inside nodes self s (Did event) may h =
    (event_inside nodes self s.state h.node h.names s.durable.pending event (answer_to s.durable (wants_at self nodes s event))
    may.1.by_core).state
after_inside nodes self s (Faulted event) may h = down_inside nodes self h.node
after_inside nodes self s Crashed may h = down_inside nodes self h.node
after_inside nodes self s (Recovered kept) may h = alone_inside nodes self ((settled kept s).counter + 1) h.node
after_inside nodes self s (RaiseFailed kept) may h = down_inside nodes self h.node
after_inside nodes self s what may h = h.names

pub sent_inside : (nodes self : ℕ) (s : NodeState) (what : HistoryEvent) → IsPossible self nodes s what → IsInside nodes self s
    → AreToNodes nodes (sent_at self nodes s what)
sent_inside nodes self s (Did event) may h = each_more (Goes (SaidTo nodes) self) (λ (m : Envelope). m.receiver < nodes)
    (sent_at self nodes s (Did event)) (λ m goes. goes.1)
    (event_inside nodes self s.state h.node h.names s.durable.pending event (answer_to s.durable (wants_at self nodes s event))
    may.1.by_core).sent
sent_inside nodes self s what may h = tt

-- ---- one history

pub opening_inside : (nodes self : ℕ) → self < nodes → IsInside nodes self (opening self)
opening_inside nodes self lt = record { node = lt; names = alone_inside nodes self 1 lt }

pub history_inside : (nodes self : ℕ) (s : NodeState) (es : List Entry) → Follows self nodes s es → IsInside nodes self s
    → AreToNodes nodes (sent_in es)
history_inside nodes self s [] follows h = tt
history_inside nodes self s (e ∷ es) follows h =
    each_append (λ (m : Envelope). m.receiver < nodes) e.sent (sent_in es)
    (subst (λ (ms : List Envelope). AreToNodes nodes ms) (sym follows.1) (sent_inside nodes self s e.what follows.0 h))
    (history_inside nodes self (after self nodes s e.what) es follows.2 (record {
      node = h.node;
      names =
          after_inside nodes self s e.what follows.0 h;
    }))
