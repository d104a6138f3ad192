-- Passes over the table: which nodes each row names, whom it writes to and in whose name; that a node that is up stays up; that
-- nothing happens at one that is down.
use Rattle.std.proofs.Common.{◌≡◌, ◌≢◌, ℕ, zero, suc, ◌%◌, Bool, true, false, not, ◌&&◌, List, [], ◌∷◌, ◌++◌, length, get_or, filter, refl}
use Rattle.std.proofs.Common.{None}
use Rattle.std.specs.Prelude.{if◌then◌else◌, ◌==◌, nat_lt}
use Rattle.group_task.specs.Group.{Group, same_group}
use Rattle.group_task.specs.Assignment.{Assignment}
use Rattle.group_task.specs.Ids.{has, with_id, without_id, either_of, ids_below}
use Rattle.job_model.specs.declared.job.Job.{Job}
use Rattle.wire_msg.specs.Envelope.{Envelope}
use Rattle.wire_msg.specs.declared.body.Body.{Body}
use Rattle.wire_msg.specs.declared.body.Body.TheVariants as says
use Rattle.node_core.specs.declared.event.Event.{Event}
use Rattle.node_core.specs.declared.event.Event.TheVariants as on
use Rattle.node_core.specs.declared.timer.Timer.{Timer}
use Rattle.node_core.specs.declared.timer.Timer.TheVariants as timer
use Rattle.node_core.specs.declared.in_hand.InHand.{InHand}
use Rattle.node_core.specs.declared.phase.Phase.TheVariants.{Election, Reorganization, Normal}
use Rattle.node_core.specs.State.{State, is_down, in_phase}
use Rattle.node_core.specs.Start.{alone, down}
use Rattle.node_core.specs.Effect.{Effect, quietly}
use Rattle.node_core.specs.Words.{letter, to_each, is_empty, leads_in, members_of, owner, holds, own_group, task_of}
use Rattle.node_core.specs.Priorities.{by_priority}
use Rattle.node_core.specs.Timers.{timed, merges, follows}
use Rattle.node_core.specs.Messages.{delivered, was_probed, takes_invitation, passed_on, is_told}
use Rattle.node_core.specs.Effects.{effect_of}
use Rattle.node_core.specs.Refusals.{ids_in, refusal_of}
use Rattle.histories.specs.Lists.{Each}
use Rattle.histories.specs.Possible.{IsForNode}
use Rattle.histories.proofs.Tests.{and_left, and_right, not_true, differ}
use Rattle.histories.proofs.Among.{each_append, each_chosen, each_left, each_map, each_more, each_of}

-- ---- what is known of nodes

-- C holds of each node that a state names, and U of those that the node calls together
pub record NamesOf (C U : ℕ → Type 0) (leader : ℕ) (joined others all : List ℕ) (jobs : List InHand) : Type 0 where
  pub coordinator : C leader
  pub up : Each U joined
  pub found : Each U others
  pub members : Each C all
  pub hand : Each (λ (job : InHand). C job.origin) jobs

abbrev pub Names : (ℕ → Type 0) → (ℕ → Type 0) → State → Type 0
Names C U s = NamesOf C U s.coordinator s.up s.found (members_of s.task) s.hand

-- R holds of each receiver and what is said to it, where it is another node, or one that is called together
pub record Writes (C U : ℕ → Type 0) (R : ℕ → Body → Type 0) (nodes self : ℕ) : Type 0 where
  pub own : C self
  pub first : C 0
  pub all : Each C (ids_below nodes)
  pub within : (id : ℕ) → U id → C id
  pub other : (id : ℕ) (body : Body) → C id → id ≢ self → R id body
  pub called : (id : ℕ) (group : Group) → U id → R id (says.Invitation group)
  pub told : (id : ℕ) (task : Assignment) → U id → R id (says.Ready task)

-- the answer that a message asks for may be given, and U holds of a sender that joins
abbrev pub Asks : (ℕ → Type 0) → (ℕ → Body → Type 0) → ℕ → Body → Type 0
Asks U R from says.AreYouCoordinator = (agreed : Bool) → R from (says.Coordinator agreed)
Asks U R from (says.AreYouThere group) = (agreed : Bool) → R from (says.Here group agreed)
Asks U R from (says.Coordinator agreed) = U from
Asks U R from (says.Accept group) = U from
Asks U R from body = Unit {0}

pub record Comes (C U : ℕ → Type 0) (R : ℕ → Body → Type 0) (from : ℕ) (body : Body) : Type 0 where
  pub known : C from
  pub names : Each C (ids_in body)
  pub asks : Asks U R from body

abbrev pub Brings : (ℕ → Type 0) → (ℕ → Type 0) → (ℕ → Body → Type 0) → Event → Type 0
Brings C U R (on.Deliver m) = Comes C U R m.sender m.body
Brings C U R (on.Finish origin id) = C origin
Brings C U R event = Unit {0}

-- the message is the node's own, and R holds of it
abbrev pub Goes : (ℕ → Body → Type 0) → ℕ → Envelope → Type 0
Goes R self m = (m.sender ≡ self) × R m.receiver m.body

pub record Reaches (C U : ℕ → Type 0) (R : ℕ → Body → Type 0) (self : ℕ) (s : State) (e : Effect) : Type 0 where
  pub up : is_down s.phase ≡ false → is_down e.state.phase ≡ false
  pub state : Names C U e.state
  pub sent : Each (Goes R self) e.sent

-- ---- lists of ids

pub with_each : (P : ℕ → Type 0) (ids : List ℕ) (id : ℕ) → P id → Each P ids → Each P (with_id ids id)
with_each P [] id p h = (p, tt)
with_each P (x ∷ xs) id p h = by_place (nat_lt id x) (id == x) (with_each P xs id p h.1)
  where
    by_place : (b c : Bool) → Each P (with_id xs id) → Each P (if b then id ∷ x ∷ xs else (if c then x ∷ xs else x ∷ with_id xs id))
    by_place true c rest = (p, h)
    by_place false true rest = h
    by_place false false rest = (h.0, rest)

either_each : (P : ℕ → Type 0) (xs ys : List ℕ) → Each P xs → Each P ys → Each P (either_of xs ys)
either_each P [] ys h k = k
either_each P (x ∷ xs) ys h k = with_each P (either_of xs ys) x h.0 (either_each P xs ys h.1 k)

-- what is read past the end is node 0
read_each : (P : ℕ → Type 0) (ids : List ℕ) (place : ℕ) → P 0 → Each P ids → P (get_or ids place 0)
read_each P [] place first h = first
read_each P (x ∷ xs) zero first h = h.0
read_each P (x ∷ xs) (suc place) first h = read_each P xs place first h.1

either_up : (b : Bool) → is_down (if b then Normal else Reorganization) ≡ false
either_up true = refl
either_up false = refl

-- ---- the rows

module _ (C U : ℕ → Type 0) (R : ℕ → Body → Type 0) (nodes self : ℕ) (w : Writes C U R nodes self) (s : State) (h : Names C U s) where
  same : Reaches C U R self s (quietly s)
  same = record { up = λ u. u; state = h; sent = tt }

  by : (b : Bool) (x y : Effect) → (b ≡ true → Reaches C U R self s x) → (b ≡ false → Reaches C U R self s y)
      → Reaches C U R self s (if b then x else y)
  by true x y t f = t refl
  by false x y t f = f refl

  when : (b : Bool) (x : Effect) → (b ≡ true → Reaches C U R self s x) → Reaches C U R self s (if b then x else quietly s)
  when true x t = t refl
  when false x t = same

  goes : (id : ℕ) (body : Body) → C id → (id == self) ≡ false → Goes R self (letter self id body)
  goes id body known off = (refl, w.other id body known (differ id self off))

  to_those : (body : Body) → ((id : ℕ) → U id → R id body) → (ids : List ℕ) → Each U ids → Each (Goes R self) (to_each self ids body)
  to_those body r [] u = tt
  to_those body r (x ∷ xs) u = ((refl, r x u.0), to_those body r xs u.1)

  owner_known : (queue : ℕ) → C (owner s queue)
  owner_known queue = read_each C (members_of s.task) (queue % length (members_of s.task)) w.first h.members

  recovers : (answer : ℕ) → Reaches C U R self s (quietly (alone self answer))
  recovers answer = record {
    up = λ u. refl;
    state = record {
      coordinator = w.own;
      up = tt;
      found = tt;
      members = (w.own, tt);
      hand =
          tt;
    };
    sent = tt;
  }

  passes : (group : Group) → Each (Goes R self) (to_each self (passed_on self group s) (says.Invitation group))
  passes group = by_lead (s.coordinator == self)
    where
      by_lead : (b : Bool) → Each (Goes R self) (to_each self (if b then without_id s.up group.creator else []) (says.Invitation group))
      by_lead true = to_those (says.Invitation group) (λ id u. w.called id group u) (without_id s.up group.creator)
          (each_left U (λ (id : ℕ). not (id == group.creator)) s.up h.up)
      by_lead false = tt

  tells : (from : ℕ) (task : Assignment) → C from → is_told self from task s ≡ true
      → Each (Goes R self) (letter self from (says.ReadyAck s.group) ∷ [])
  tells from task known t = (goes from (says.ReadyAck s.group) known (not_true _ (and_right _ _ (and_left _ _ (and_left _ _ t)))), tt)

  -- with other work in hand
  with_hand : (hand : List InHand) → Each (λ (job : InHand). C job.origin) hand → Names C U (record s { hand = hand })
  with_hand hand from = record { coordinator = h.coordinator; up = h.up; found = h.found; members = h.members; hand = from }

  with_more : (jobs : List InHand) → Each (λ (job : InHand). C job.origin) jobs → Names C U (record s { hand = s.hand ++ jobs })
  with_more jobs from = with_hand (s.hand ++ jobs) (each_append (λ (job : InHand). C job.origin) s.hand jobs h.hand from)

  body_reaches : (from : ℕ) (body : Body) (answer : ℕ) → Comes C U R from body → Reaches C U R self s (delivered self from body answer s)
  unfolding delivered
  body_reaches from says.AreYouCoordinator answer c = by (is_down s.phase) _ _ (λ t. same)
      (λ f. record { up = λ u. u; state = h; sent = ((refl, c.asks (leads_in Normal self s)), tt) })
  body_reaches from (says.Coordinator agreed) answer c = when (agreed && merges self s) _ (λ t. record {
    up = λ u. u;
    state = record {
      coordinator = h.coordinator;
      up = h.up;
      found = with_each U s.found from c.asks h.found;
      members = h.members;
      hand =
          h.hand;
    };
    sent = tt;
  })
  body_reaches from (says.AreYouThere group) answer c = by (is_down s.phase) _ _ (λ t. same)
      (λ f. record {
        up = λ u. u;
        state = h;
        sent = (
          (refl, c.asks (same_group group s.group && s.coordinator == self && has s.up from)),
          tt,
        );
      })
  body_reaches from (says.Here group agreed) answer c = when (was_probed from group s) _ (λ t. by agreed _ _
      (λ a. record { up = λ u. u; state = h; sent = tt })
      (λ f. recovers answer))
  body_reaches from (says.Invitation group) answer c = when (takes_invitation self group s) _ (λ t. record {
    up = λ u. refl;
    state = record { coordinator = c.names.0; up = tt; found = tt; members = tt; hand = tt };
    sent = each_append (Goes R self) (to_each self (passed_on self group s) (says.Invitation group))
        (letter self group.creator (says.Accept group) ∷ [])
        (passes group) (goes group.creator (says.Accept group) c.names.0 (not_true _ (and_right _ _ (and_left _ _ t))), tt);
  })
  body_reaches from (says.Accept group) answer c = when (in_phase Election s.phase && s.coordinator == self
      && same_group group s.group) _ (λ t. record {
        up = λ u. u;
        state = record {
          coordinator = h.coordinator;
          up = with_each U s.up from c.asks h.up;
          found = h.found;
          members = h.members;
          hand =
              h.hand;
        };
        sent = tt;
      })
  body_reaches from (says.Ready task) answer c = by (is_told self from task s && in_phase Reorganization s.phase) _ _
      (λ t. record {
        up = λ u. refl;
        state = record { coordinator = h.coordinator; up = h.up; found = h.found; members = c.names.1; hand = h.hand };
        sent = tells from task c.known (and_left _ _ t);
      })
      (λ f. when (is_told self from task s && in_phase Normal s.phase) _ (λ t. record {
        up = λ u. u;
        state = h;
        sent =
            tells from task c.known (and_left _ _ t);
      }))
  body_reaches from (says.ReadyAck group) answer c = when (leads_in Reorganization self s
      && same_group group s.group) _ (λ t. record { up = λ u. either_up (is_empty (without_id s.unready from)); state = h; sent = tt })
  body_reaches from (says.Work group id work) answer c =
      when (in_phase Normal s.phase && same_group group s.group && has (members_of s.task) from && owner s work.queue == self
      && not (holds s.hand from id)) _ (λ t. record {
        up = λ u. u;
        state = with_more (record { origin = from; id = id; work = work } ∷ []) (c.known, tt);
        sent = tt;
      })
  body_reaches from (says.Done id) answer c = same

  timer_reaches : (pending : List Job) (timer : Timer) (answer : ℕ) → Reaches C U R self s (timed nodes self pending timer answer s)
  unfolding timed
  timer_reaches pending timer.Check answer = when (leads_in Normal self s) _ (λ t. record {
    up = λ u. u;
    state = record { coordinator = h.coordinator; up = h.up; found = tt; members = h.members; hand = h.hand };
    sent = each_chosen C (Goes R self) (λ (id : ℕ). letter self id says.AreYouCoordinator) (λ (id : ℕ). not (id == self)) (ids_below nodes)
        (λ id is known. goes id says.AreYouCoordinator known (not_true _ is)) w.all;
  })
  timer_reaches pending timer.Merge answer = when (merges self s) _ (λ t. by (is_empty s.found) _ _
      (λ e. record { up = λ u. u; state = h; sent = tt })
      (λ f. record {
        up = λ u. refl;
        state = record { coordinator = w.own; up = tt; found = tt; members = tt; hand = tt };
        sent = to_those (says.Invitation (own_group self answer)) (λ id u. w.called id (own_group self answer) u) (either_of s.up s.found)
            (either_each U s.up s.found h.up h.found);
      }))
  timer_reaches pending timer.Accept answer = when (in_phase Election s.phase && s.coordinator == self) _ (λ t. record {
    up = λ u. either_up (is_empty s.up);
    state = record {
      coordinator = h.coordinator;
      up = h.up;
      found = h.found;
      members =
          with_each C s.up self w.own (each_more U C s.up w.within h.up);
      hand = h.hand;
    };
    sent = to_those (says.Ready (task_of s.group (with_id s.up self)))
        (λ id u. w.told id (task_of s.group (with_id s.up self)) u) s.up h.up;
  })
  timer_reaches pending timer.Ready answer = when (leads_in Reorganization self s) _ (λ t. recovers answer)
  timer_reaches pending timer.Coord answer = when (follows self s) _ (λ t. by s.probing _ _ (λ p. recovers answer) (λ f. record {
    up = λ u. u;
    state = h;
    sent = (goes s.coordinator (says.AreYouThere s.group) h.coordinator (not_true _ (and_right _ _ t)), tt);
  }))
  timer_reaches pending timer.Dispatch answer = when (in_phase Normal s.phase) _ (λ t. record {
    up = λ u. u;
    state = with_more _
        (each_map (λ (job : InHand). C job.origin) (λ (job : Job). record { origin = self; id = job.id; work = job.work })
        (filter (λ job. owner s job.work.queue == self && not (holds s.hand self job.id)) (by_priority pending)) (λ job. w.own));
    sent = each_chosen (λ (job : Job). Unit {0}) (Goes R self)
        (λ (job : Job). letter self (owner s job.work.queue) (says.Work s.group job.id job.work))
        (λ (job : Job). not (owner s job.work.queue == self)) (by_priority pending)
        (λ job is u. goes (owner s job.work.queue) (says.Work s.group job.id job.work) (owner_known job.work.queue) (not_true _ is))
        (each_of (λ (job : Job). Unit {0}) (by_priority pending) (λ job i. tt));
  })

  ends : (origin id : ℕ) → C origin → (b : Bool) → (origin == self) ≡ b
      → Each (Goes R self) (to_each self (if b then [] else origin ∷ []) (says.Done id))
  ends origin id known true is = tt
  ends origin id known false is = (goes origin (says.Done id) known is, tt)

  pub event_reaches : (pending : List Job) (event : Event) (answer : ℕ) → Brings C U R event
      → Reaches C U R self s (effect_of nodes self pending event answer s)
  event_reaches pending (on.Timer timer) answer c = timer_reaches pending timer answer
  event_reaches pending (on.Deliver m) answer c = body_reaches m.sender m.body answer c
  event_reaches pending (on.Submit work) answer c = by (owner s work.queue == self) _ _
      (λ t. record {
        up = λ u. u;
        state = with_more (record { origin = self; id = answer; work = work } ∷ []) (w.own, tt);
        sent = tt;
      })
      (λ f. record {
        up = λ u. u;
        state = h;
        sent = (
          goes (owner s work.queue) (says.Work s.group answer work) (owner_known work.queue) f,
          tt,
        );
      })
  event_reaches pending (on.Finish origin id) answer c = record {
    up = λ u. u;
    state = with_hand _ (each_left (λ (job : InHand). C job.origin) (λ job. not (job.origin == origin && job.id == id)) s.hand h.hand);
    sent = ends origin id c (origin == self) refl;
  }
  event_reaches pending on.Recover answer c = recovers answer

-- ---- whatever nodes there are

abbrev pub Any : ℕ → Type 0
Any id = Unit {0}

abbrev pub AnySaid : ℕ → Body → Type 0
AnySaid id body = Unit {0}

pub each_any : {A : Type 0} (xs : List A) → Each (λ (x : A). Unit {0}) xs
each_any [] = tt
each_any (x ∷ xs) = (tt, each_any xs)

any_asked : (from : ℕ) (body : Body) → Asks Any AnySaid from body
any_asked from says.AreYouCoordinator = λ agreed. tt
any_asked from (says.AreYouThere group) = λ agreed. tt
any_asked from body = tt

any_brought : (event : Event) → Brings Any Any AnySaid event
any_brought (on.Deliver m) = record { known = tt; names = each_any (ids_in m.body); asks = any_asked m.sender m.body }
any_brought event = tt

pub any_reaches : (nodes self : ℕ) (pending : List Job) (event : Event) (answer : ℕ) (s : State)
    → Reaches Any Any AnySaid self s (effect_of nodes self pending event answer s)
any_reaches nodes self pending event answer s = event_reaches Any Any AnySaid nodes self
    (record {
      own = tt;
      first = tt;
      all = each_any (ids_below nodes);
      within = λ id u. tt;
      other = λ id body c o. tt;
      called =
          λ id group u. tt;
      told = λ id task u. tt;
    }) s
    (record {
      coordinator = tt;
      up = each_any s.up;
      found = each_any s.found;
      members = each_any (members_of s.task);
      hand =
          each_any s.hand;
    }) pending event answer (any_brought event)

-- ---- a node that is down

agreed_down : (self : ℕ) (agreed : Bool) (x : Effect) → (if agreed && false then x else quietly (down self)) ≡ quietly (down self)
agreed_down self true x = refl
agreed_down self false x = refl

told_down : (self from : ℕ) (task : Assignment) (b : Bool) (x y : Effect)
    → (if b && false then x else (if b && false then y else quietly (down self))) ≡ quietly (down self)
told_down self from task true x y = refl
told_down self from task false x y = refl

body_down : (self from : ℕ) (body : Body) (answer : ℕ) → delivered self from body answer (down self) ≡ quietly (down self)
unfolding delivered
body_down self from (says.Coordinator agreed) answer = agreed_down self agreed _
body_down self from (says.Ready task) answer = told_down self from task (is_told self from task (down self)) _ _
body_down self from body answer = refl

timed_down : (self nodes : ℕ) (pending : List Job) (timer : Timer) (answer : ℕ)
    → timed nodes self pending timer answer (down self) ≡ quietly (down self)
unfolding timed
timed_down self nodes pending timer.Check answer = refl
timed_down self nodes pending timer answer = refl

pub stays_down : (self nodes : ℕ) (pending : List Job) (event : Event) (answer : ℕ) → IsForNode (down self) event
    → refusal_of nodes self event (down self) ≡ None
    → effect_of nodes self pending event answer (down self) ≡ quietly (down self)
stays_down self nodes pending (on.Timer timer) answer up h = timed_down self nodes pending timer answer
stays_down self nodes pending (on.Deliver m) answer up h = body_down self m.sender m.body answer
stays_down self nodes pending (on.Submit work) answer up h = absurd cc
stays_down self nodes pending (on.Finish origin id) answer up h = absurd cc
stays_down self nodes pending on.Recover answer up h = absurd (let risen : true ≡ false = up refl in cc)
