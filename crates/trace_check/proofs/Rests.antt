-- A dispatch that has nothing to do still has none once its node keeps a job that it takes in hand.
use Rattle.std.proofs.Common.{◌≡◌, ℕ, zero, suc, ◌==◌, Bool, true, false, not, ◌&&◌, List, [], ◌∷◌, ◌++◌, length, inl, inr, refl, sym, ap}
use Rattle.std.proofs.Common.{◌∙◌, subst, arith}
use Rattle.std.proofs.lemmas.Bool.{cases_Bool}
use Rattle.std.proofs.lemmas.Bool.Decides.{nat_tests}
use Rattle.std.proofs.lemmas.List.{append-nil, length-append, nil_from_length}
use Rattle.std.proofs.lemmas.List.Elements.{filter-append}
use Rattle.std.specs.Prelude.{if◌then◌else◌, map, Some}
use Rattle.std.specs.List.{filter}
use Rattle.job_model.specs.declared.job.Job.{Job}
use Rattle.job_model.specs.declared.node_command.NodeCommand.TheVariants.{Put}
use Rattle.job_model.specs.declared.work.Work.{Work}
use Rattle.job_model.specs.Fold.{after_wanted}
use Rattle.wire_msg.specs.Envelope.{Envelope}
use Rattle.wire_msg.specs.declared.body.Body.TheVariants as says
use Rattle.node_core.specs.declared.event.Event.{Event}
use Rattle.node_core.specs.declared.event.Event.TheVariants as on
use Rattle.node_core.specs.declared.in_hand.InHand.{InHand}
use Rattle.node_core.specs.declared.phase.Phase.TheVariants.{Normal}
use Rattle.node_core.specs.Effect.{Effect, quietly, tells}
use Rattle.node_core.specs.Held.{holds, is_of}
use Rattle.node_core.specs.Priorities.{below_priority, by_priority}
use Rattle.node_core.specs.State.{State, in_phase}
use Rattle.node_core.specs.Timers.{orders, own_jobs, timed}
use Rattle.node_core.specs.Words.{letter, owner}
use Rattle.histories.specs.NodeState.{NodeState}
use Rattle.histories.specs.declared.history_event.HistoryEvent.TheVariants.{Did}
use Rattle.trace_check.specs.Twins.{IsSubmit, Judged, RestsAt, Twin}

-- ---- lists of which nothing is left

front_nil : {A : Type 0} → (xs ys : List A) → xs ++ ys ≡ [] → xs ≡ []
front_nil [] ys none = refl
front_nil (x ∷ xs) ys none = absurd cc

back_nil : {A : Type 0} → (xs ys : List A) → xs ++ ys ≡ [] → ys ≡ []
back_nil [] ys none = none
back_nil (x ∷ xs) ys none = absurd cc

map_nil : {A B : Type 0} → (f : A → B) (xs : List A) → map f xs ≡ [] → xs ≡ []
map_nil f [] none = refl
map_nil f (x ∷ xs) none = absurd cc

-- of the jobs of one priority, one more at the end
one_more : (q r among : Job → Bool) (jobs : List Job) (job : Job) → ((x : Job) → q x ≡ false → r x ≡ false) → r job ≡ false
    → filter q (filter among jobs) ≡ [] → filter r (filter among (jobs ++ job ∷ [])) ≡ []
one_more q r among [] job less out none = elim (cases_Bool (among job)) [ inl hit ↦ rw hit (rw out refl) | inr miss ↦ rw miss refl ]
one_more q r among (x ∷ jobs) job less out none = elim (cases_Bool (among x)) [
  | inl hit ↦ (
      let here : filter q (x ∷ filter among jobs) ≡ [] = rw hit at none in
      elim (cases_Bool (q x)) [
        | inl some ↦ absurd (let stays : x ∷ filter q (filter among jobs) ≡ [] = rw some at here in cc)
        | inr gone ↦ rw hit (rw (less x gone) (one_more q r among jobs job less out (rw gone at here)))
      ]
      )
  | inr miss ↦ rw miss (one_more q r among jobs job less out (rw miss at none))
]

-- of the jobs by their priorities
none_below : (q r : Job → Bool) (n : ℕ) (jobs : List Job) (job : Job) → ((x : Job) → q x ≡ false → r x ≡ false) → r job ≡ false
    → filter q (below_priority n jobs) ≡ [] → filter r (below_priority n (jobs ++ job ∷ [])) ≡ []
unfolding below_priority
none_below q r zero jobs job less out none = refl
none_below q r (suc n) jobs job less out none =
    let among : Job → Bool = λ (x : Job). x.work.priority == n in
    let both : filter q (filter among jobs) ++ filter q (below_priority n jobs) ≡ [] =
    sym (filter-append q (filter among jobs) (below_priority n jobs)) ∙ none in
    filter-append r (filter among (jobs ++ job ∷ [])) (below_priority n (jobs ++ job ∷ []))
    ∙ ap (λ (xs : List Job). xs ++ filter r (below_priority n (jobs ++ job ∷ [])))
    (one_more q r among jobs job less out (front_nil (filter q (filter among jobs)) (filter q (below_priority n jobs)) both))
    ∙ none_below q r n jobs job less out (back_nil (filter q (filter among jobs)) (filter q (below_priority n jobs)) both)

-- ---- the hand

held_more : (hand more : List InHand) (origin id : ℕ) → holds hand origin id ≡ true → holds (hand ++ more) origin id ≡ true
held_more [] more origin id has = absurd cc
held_more (h ∷ hand) more origin id has = elim (cases_Bool (is_of h origin id)) [
  | inl hit ↦ rw hit refl
  | inr miss ↦ rw miss (held_more hand more origin id (rw miss at has))
]

held_last : (hand : List InHand) (h : InHand) (origin id : ℕ) → is_of h origin id ≡ true → holds (hand ++ h ∷ []) origin id ≡ true
held_last [] h origin id its = rw its refl
held_last (x ∷ hand) h origin id its = elim (cases_Bool (is_of x origin id)) [
  | inl hit ↦ rw hit refl
  | inr miss ↦ rw miss (held_last hand h origin id its)
]

eq_self : (n : ℕ) → (n == n) ≡ true
eq_self n = grind (arith, nat_tests)

is_itself : (origin id : ℕ) (work : Work) → is_of (record { origin = origin; id = id; work = work }) origin id ≡ true
is_itself origin id work = ap (λ (b : Bool). b && (id == id)) (eq_self origin) ∙ eq_self id

-- a job is no more to be taken where the hand has grown
less_to_take : (b : Bool) (hand more : List InHand) (origin id : ℕ) → (b && not (holds hand origin id)) ≡ false
    → (b && not (holds (hand ++ more) origin id)) ≡ false
less_to_take false hand more origin id none = refl
less_to_take true hand more origin id none = elim (cases_Bool (holds hand origin id)) [
  | inl has ↦ ap (λ (b : Bool). not b) (held_more hand more origin id has)
  | inr not_there ↦ absurd (let some : true ≡ false = rw not_there at none in cc)
]

-- ---- a dispatch

-- the state with one more job of its own in hand
abbrev with_job : ℕ → State → ℕ → Work → State
with_job self s id work = record s { hand = s.hand ++ (record { origin = self; id = id; work = work }) ∷ [] }

none_taken : (self : ℕ) (s : State) (pending : List Job) (id : ℕ) (work : Work) → (owner s work.queue == self) ≡ true
    → own_jobs self s (by_priority pending) ≡ []
    → own_jobs self (with_job self s id work) (by_priority (pending ++ (record { id = id; work = work }) ∷ [])) ≡ []
none_taken self s pending id work own none =
    let held = held_last s.hand (record { origin = self; id = id; work = work }) self id (is_itself self id work) in
    let s' = with_job self s id work in
    ap (λ (jobs : List Job). map (λ (job : Job). record { origin = self; id = job.id; work = job.work }) jobs)
    (none_below (λ (job : Job). owner s job.work.queue == self && not (holds s.hand self job.id))
    (λ (job : Job). owner s' job.work.queue == self && not (holds s'.hand self job.id)) 256 pending (record { id = id; work = work })
    (λ x out. less_to_take (owner s x.work.queue == self) s.hand ((record { origin = self; id = id; work = work }) ∷ []) self x.id out)
    (ap (λ (b : Bool). b && not (holds s'.hand self id)) own ∙ ap (λ (b : Bool). not b) held)
    (map_nil _ _ none))

none_sent : (self : ℕ) (s : State) (pending : List Job) (id : ℕ) (work : Work) → (owner s work.queue == self) ≡ true
    → orders self s (by_priority pending) ≡ []
    → orders self (with_job self s id work) (by_priority (pending ++ (record { id = id; work = work }) ∷ [])) ≡ []
none_sent self s pending id work own none =
    ap (λ (jobs : List Job). map (λ (job : Job). letter self (owner s job.work.queue) (says.Work s.group job.id job.work)) jobs)
    (none_below (λ (job : Job). not (owner s job.work.queue == self)) (λ (job : Job). not (owner s job.work.queue == self)) 256 pending
    (record { id = id; work = work }) (λ x out. out) (ap (λ (b : Bool). not b) own) (map_nil _ _ none))

-- what a dispatch makes by whether the node is Normal
abbrev dispatched : Bool → ℕ → State → List Job → Effect
dispatched b self s pending = if b
    then record { state = record s { hand = s.hand ++ own_jobs self s (by_priority pending) }; sent = orders self s (by_priority pending) }
    else quietly s

record Rests (b : Bool) (self : ℕ) (s : State) (pending : List Job) : Type 0 where
  stays : s ≡ (dispatched b self s pending).state
  sends : [] ≡ (dispatched b self s pending).sent

rests_by : (b : Bool) (self : ℕ) (s : State) (pending : List Job) (id : ℕ) (work : Work) → (owner s work.queue == self) ≡ true
    → Rests b self s pending → Rests b self (with_job self s id work) (pending ++ (record { id = id; work = work }) ∷ [])
rests_by false self s pending id work own rests = record { stays = refl; sends = refl }
rests_by true self s pending id work own rests =
    let s' = with_job self s id work in
    let later = pending ++ (record { id = id; work = work }) ∷ [] in
    let same = ap (λ (t : State). length t.hand) rests.stays in
    let none : own_jobs self s (by_priority pending) ≡ [] = nil_from_length (own_jobs self s (by_priority pending))
    (omega (arith, length-append s.hand (own_jobs self s (by_priority pending)), same)) in
    record {
      stays =
          sym (ap (λ (hand : List InHand). record s' { hand = hand })
          (ap (λ (more : List InHand). s'.hand ++ more) (none_taken self s pending id work own none) ∙ append-nil s'.hand));
      sends =
          sym (none_sent self s pending id work own (sym rests.sends));
    }

rested_at : (t : Twin) (work : Work) → (owner t.node.state work.queue == t.id) ≡ true → RestsAt t
    → RestsAt (record {
      id = t.id;
      nodes = t.nodes;
      node = record {
        state = with_job t.id t.node.state t.node.durable.next work;
        durable =
            after_wanted t.node.durable (Some (Put work));
        doubt = t.node.doubt;
      };
    })
unfolding timed
rested_at t work own rests =
    let s = t.node.state in
    let d = t.node.durable in
    let after : Rests (in_phase Normal s.phase) t.id (with_job t.id s d.next work)
    (d.pending ++ (record { id = d.next; work = work }) ∷ []) =
    rests_by (in_phase Normal s.phase) t.id s d.pending d.next work own
    (record { stays = ap (λ (n : NodeState). n.state) rests.stays; sends = rests.comes.1 }) in
    record {
      comes = ((rests.comes.0.0, record { by_core = refl; not_spent = λ spent. spent }), after.sends);
      stays = ap (λ (x : State). record { state = x; durable = after_wanted d (Some (Put work)); doubt = t.node.doubt }) after.stays;
    }

-- what a submit makes by whether the queue is its node's own
abbrev submitted : Bool → Twin → Work → Effect
submitted own t work = if own then quietly (with_job t.id t.node.state t.node.durable.next work)
    else tells t.id t.node.state (owner t.node.state work.queue ∷ []) (says.Work t.node.state.group t.node.durable.next work)

-- behind a submit that sends nothing the next dispatch has nothing to do where it had none before
pub rests_still : (t new : Twin) (event : Event) (sent : List Envelope) → IsSubmit event → RestsAt t → Judged t new (Did event) sent true
    → new.id ≡ t.id → new.nodes ≡ t.nodes → length sent ≡ 0 → RestsAt new
rests_still t new (on.Submit work) sent is rests judged id nodes none = elim (cases_Bool (owner t.node.state work.queue == t.id)) [
  | inl own ↦ (
      let d = t.node.durable in
      let node : new.node ≡ record {
        state = with_job t.id t.node.state d.next work;
        durable = after_wanted d (Some (Put work));
        doubt =
            t.node.doubt;
      } =
      judged.1 ∙ ap (λ (b : Bool). record {
        state = (submitted b t work).state;
        durable = after_wanted d (Some (Put work));
        doubt =
            t.node.doubt;
      }) own in
      let all : new ≡ record {
        id = t.id;
        nodes = t.nodes;
        node =
            record { state = with_job t.id t.node.state d.next work; durable = after_wanted d (Some (Put work)); doubt = t.node.doubt };
      } =
      λ i. record { id = id i; nodes = nodes i; node = node i } in
      subst RestsAt (sym all) (rested_at t work own rests)
      )
  | inr other ↦ absurd (
      let told : [] ≡ (submitted false t work).sent =
      sym (nil_from_length sent none) ∙ judged.0.1 ∙ ap (λ (b : Bool). (submitted b t work).sent) other in cc
      )
]
rests_still t new (on.Timer timer) sent is rests judged id nodes none = absurd is
rests_still t new (on.Deliver m) sent is rests judged id nodes none = absurd is
rests_still t new (on.Finish origin j) sent is rests judged id nodes none = absurd is
rests_still t new on.Recover sent is rests judged id nodes none = absurd is
