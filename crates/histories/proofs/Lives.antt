-- What one node's moves keep, along its whole history.
use Rattle.std.proofs.Common.{◌≡◌, ◌⊎◌, ℕ, ◌+◌, ◌<◌, ◌≤◌, true, List, [], ◌∷◌, ◌++◌, refl, sym, ◌∙◌, ap, subst, inl, inr, arith, Option}
use Rattle.std.proofs.Common.{Some}
use Rattle.job_model.specs.declared.work.Work.{Work}
use Rattle.group_task.specs.Group.{Group}
use Rattle.group_task.specs.Assignment.{Assignment}
use Rattle.group_task.specs.Ids.{has}
use Rattle.wire_msg.specs.Envelope.{Envelope}
use Rattle.wire_msg.specs.declared.body.Body.{Body}
use Rattle.wire_msg.specs.declared.body.Body.TheVariants.{Ready}
use Rattle.node_core.specs.declared.phase.Phase.{Phase}
use Rattle.node_core.specs.declared.phase.Phase.TheVariants.{Down, Election, Reorganization, Normal}
use Rattle.node_core.specs.declared.event.Event.{Event}
use Rattle.node_core.specs.State.{State}
use Rattle.node_core.specs.Words.{own_group, task_of}
use Rattle.group_task.proofs.PublicLaws.{with_has_same}
use Rattle.histories.specs.Lists.{IsAmong, Each}
use Rattle.histories.specs.NodeState.{NodeState}
use Rattle.histories.specs.HistoryEvent.{Entry, brought, event_of}
use Rattle.histories.specs.After.{after, sent_at, given_at}
use Rattle.histories.specs.History.{Follows, vectors, counts_given, sent_in, brought_in}
use Rattle.histories.specs.Rising.{Rises}
use Rattle.histories.proofs.Among.{among_left, among_right, each_append, each_more}
use Rattle.histories.proofs.Anything.{AnyGroup, AnyWork, knows_any, any_pending}
use Rattle.histories.proofs.Moves.{GroupMove, stays, falls, starts_alone, calls, joins, assigns, takes, completes, SaysIn, Says, Enters}
use Rattle.histories.proofs.Entries.{entry_does}

-- tasks of this node's own groups, the newest first, with counts that fall from below the limit
abbrev pub Ordered : ℕ → ℕ → List Assignment → Type 0
Ordered self limit [] = Unit {0}
Ordered self limit (t ∷ ts) = (t.group.creator ≡ self) × (t.group.count < limit) × Ordered self t.group.count ts

pub ordered_below : (self low high : ℕ) (ts : List Assignment) → low ≤ high → Ordered self low ts → Ordered self high ts
ordered_below self low high [] le h = tt
ordered_below self low high (t ∷ ts) le h = (h.0, omega (arith, h.1), h.2)

-- a task of the group is held, with this node in it
pub record Holds (self : ℕ) (group : Group) (task : Option Assignment) (Known : Assignment → Type 0) : Type 0 where
  pub held : Assignment
  pub is_held : task ≡ Some held
  pub in_group : held.group ≡ group
  pub is_member : has held.members self ≡ true
  pub known : Known held

-- where a node stands, by its phase: `led` are the tasks that it made, `last` the last count that it gave,
-- and the tasks of other nodes' groups are those that it was told
abbrev pub Stands : ℕ → Phase → ℕ → Group → Option Assignment → ℕ → List Assignment → (Assignment → Type 0) → Type 0
Stands self Down coordinator group task last led Told = Ordered self (last + 1) led
Stands self Election coordinator group task last led Told = (coordinator ≡ self) × (group ≡ own_group self last) × Ordered self last led
Stands self Reorganization coordinator group task last led Told =
    Ordered self (last + 1) led × (coordinator ≡ group.creator) × (coordinator ≡ self → Holds self group task (λ t. IsAmong t led))
Stands self Normal coordinator group task last led Told =
    Ordered self (last + 1) led × (coordinator ≡ group.creator) × Holds self group task (λ t. IsAmong t led ⊎ Told t)

abbrev pub StandsAt : ℕ → State → ℕ → List Assignment → (Assignment → Type 0) → Type 0
StandsAt self v last led Told = Stands self v.phase v.coordinator v.group v.task last led Told

pub ordered_of : (self : ℕ) (phase : Phase) (coordinator : ℕ) (group : Group) (task : Option Assignment) (last : ℕ) (led : List Assignment)
    (Told : Assignment → Type 0)
    → Stands self phase coordinator group task last led Told → Ordered self (last + 1) led
ordered_of self Down coordinator group task last led Told h = h
ordered_of self Election coordinator group task last led Told h = ordered_below self last (last + 1) led (omega arith) h.2
ordered_of self Reorganization coordinator group task last led Told h = h.0
ordered_of self Normal coordinator group task last led Told h = h.0

-- where a move leads
pub record Led (self : ℕ) (new : State) (made : List Assignment) (rest : List ℕ) (led : List Assignment) (Told : Assignment → Type 0) :
    Type 0 where
  pub last : ℕ
  pub all : List Assignment
  pub keeps : (t : Assignment) → IsAmong t led → IsAmong t all
  pub has_made : (t : Assignment) → IsAmong t made → IsAmong t all
  pub stands : StandsAt self new last all Told
  pub rises : Rises last rest

-- a Ready names its true sender, and one of the tasks
abbrev pub Tells : ℕ → List Assignment → Envelope → Type 0
Tells self tasks m = (t : Assignment) → m.body ≡ Ready t → (m.sender ≡ self) × IsAmong t tasks

abbrev pub AllTell : ℕ → List Assignment → List Envelope → Type 0
AllTell self tasks ms = Each (Tells self tasks) ms

pub says_tells : (P : Group → Type 0) (J : ℕ → ℕ → Work → Type 0) (self : ℕ) (made all : List Assignment) (event : Option Event)
    → ((t : Assignment) → IsAmong t made → IsAmong t all) → (m : Envelope) → Says P J self made event m → Tells self all m
says_tells P J self made all event sub m h t is = let it : SaysIn P J self made event m.sender m.receiver (Ready t) =
    subst (λ (b : Body). SaysIn P J self made event m.sender m.receiver b) is h in (it.0, sub t it.1)

-- what a Ready from the group's creator says is told
abbrev pub IsTold : (Assignment → Type 0) → List Envelope → Type 0
IsTold Told came = (m : Envelope) (t : Assignment) → IsAmong m came → m.body ≡ Ready t → m.sender ≡ t.group.creator → Told t

-- no task is made
none_made : (made led : List Assignment) → made ≡ [] → (t : Assignment) → IsAmong t made → IsAmong t led
none_made made led none t i = let bad : IsAmong t [] = subst (λ (ts : List Assignment). IsAmong t ts) none i in absurd bad

pub move_keeps : (self : ℕ) (old : State) (came : List Envelope) (given : List ℕ) (made : List Assignment) (new : State) (rest : List ℕ)
    (last : ℕ) (led : List Assignment) (Told : Assignment → Type 0)
    → GroupMove self old came given made new → StandsAt self old last led Told → Rises last (given ++ rest) → IsTold Told came
    → Led self new made rest led Told
move_keeps self old came given made new rest last led Told (stays phase coordinator group task none no_task) h rises told = record {
  last = last;
  all = led;
  keeps = λ t i. i;
  has_made = none_made made led no_task;
  stands = rw (phase, coordinator, group, task) h;
  rises = subst (λ (ks : List ℕ). Rises last (ks ++ rest)) none rises;
}
move_keeps self old came given made new rest last led Told (falls phase none no_task) h rises told = record {
  last = last;
  all = led;
  keeps = λ t i. i;
  has_made = none_made made led no_task;
  stands = rw phase (ordered_of self old.phase old.coordinator old.group old.task last led Told h);
  rises = subst (λ (ks : List ℕ). Rises last (ks ++ rest)) none rises;
}
move_keeps self old came given made new rest last led Told (starts_alone k some is no_task) h rises told =
    let up : (last < k) × Rises k rest = subst (λ (ks : List ℕ). Rises last (ks ++ rest)) some rises in
    let ordered = ordered_of self old.phase old.coordinator old.group old.task last led Told h in
    let task : Assignment = task_of (own_group self k) (self ∷ []) in record {
      last = k;
      all = task ∷ led;
      keeps = λ t i. inr i;
      has_made = none_made made (task ∷ led) no_task;
      stands = subst (λ (v : State). StandsAt self v k (task ∷ led) Told) (sym is) (
        (refl, omega arith, ordered_below self (last + 1) k led (omega (arith, up.0)) ordered),
        refl,
        record { held = task; is_held = refl; in_group = refl; is_member = with_has_same [] self; known = inl (inl refl) },
      );
      rises = up.1;
    }
move_keeps self old came given made new rest last led Told (calls k some phase coordinator group no_task) h rises told =
    let up : (last < k) × Rises k rest = subst (λ (ks : List ℕ). Rises last (ks ++ rest)) some rises in
    let ordered = ordered_of self old.phase old.coordinator old.group old.task last led Told h in record {
      last = k;
      all = led;
      keeps = λ t i. i;
      has_made = none_made made led no_task;
      stands = rw (phase, coordinator, group) (refl, refl, ordered_below self (last + 1) k led (omega (arith, up.0)) ordered);
      rises = up.1;
    }
move_keeps self old came given made new rest last led Told (joins group other phase coordinator is none no_task) h rises told = record {
  last = last;
  all = led;
  keeps = λ t i. i;
  has_made = none_made made led no_task;
  stands = rw (phase, coordinator, is) (
    ordered_of self old.phase old.coordinator old.group old.task last led Told h,
    refl,
    λ (e : group.creator ≡ self). absurd (other e),
  );
  rises = subst (λ (ks : List ℕ). Rises last (ks ++ rest)) none rises;
}
move_keeps self old came given made new rest last led Told (assigns members phase self_in task coordinator group to none one) h rises told =
    let at = subst (λ (p : Phase). Stands self p old.coordinator old.group old.task last led Told) phase h in
    let new_task : Assignment = task_of old.group members in
    let count : old.group.count ≡ last = ap (λ (g : Group). g.count) at.1 in
    let creator : old.group.creator ≡ self = ap (λ (g : Group). g.creator) at.1 in
    let ordered : Ordered self (last + 1) (new_task ∷ led) =
    (creator, omega (arith, count), subst (λ (n : ℕ). Ordered self n led) (sym count) at.2) in
    let leader : old.coordinator ≡ old.group.creator = at.0 ∙ sym creator in record {
      last = last;
      all = new_task ∷ led;
      keeps = λ t i. inr i;
      has_made = λ t i. (let here : IsAmong t (new_task ∷ []) = subst (λ (ts : List Assignment). IsAmong t ts) one i in
          elim here [ inl e ↦ inl e | inr e ↦ absurd e ]);
      stands = elim to [
        | inl p ↦ rw (p, coordinator, group, task) (
          ordered,
          leader,
          λ e. record { held = new_task; is_held = refl; in_group = refl; is_member = self_in; known = inl refl },
        )
        | inr p ↦ rw (p, coordinator, group, task) (
          ordered,
          leader,
          record { held = new_task; is_held = refl; in_group = refl; is_member = self_in; known = inl (inl refl) },
        )
      ];
      rises = subst (λ (ks : List ℕ). Rises last (ks ++ rest)) none rises;
    }
move_keeps self old came given made new rest last led Told
    (takes m task phase brings body from in_group self_in is coordinator group to none no_task) h rises told =
    let at = subst (λ (p : Phase). Stands self p old.coordinator old.group old.task last led Told) phase h in
    let sender : m.sender ≡ task.group.creator = sym from ∙ (at.1 ∙ ap (λ (g : Group). g.creator) (sym in_group)) in
    let among : IsAmong m came = subst (λ (ms : List Envelope). IsAmong m ms) (sym brings) (inl refl) in record {
      last = last;
      all = led;
      keeps = λ t i. i;
      has_made = none_made made led no_task;
      stands = rw (to, coordinator, group, is) (
        at.0,
        at.1,
        record {
          held = task;
          is_held = refl;
          in_group = in_group;
          is_member =
              self_in;
          known = inr (told m task among body sender);
        },
      );
      rises = subst (λ (ks : List ℕ). Rises last (ks ++ rest)) none rises;
    }
move_keeps self old came given made new rest last led Told (completes phase own is coordinator group to none no_task) h rises told =
    let at = subst (λ (p : Phase). Stands self p old.coordinator old.group old.task last led Told) phase h in
    let holds = at.2 own in record {
      last = last;
      all = led;
      keeps = λ t i. i;
      has_made = none_made made led no_task;
      stands = rw (to, coordinator, group, is) (
        at.0,
        at.1,
        record {
          held = holds.held;
          is_held = holds.is_held;
          in_group =
              holds.in_group;
          is_member = holds.is_member;
          known = inl holds.known;
        },
      );
      rises = subst (λ (ks : List ℕ). Rises last (ks ++ rest)) none rises;
    }

-- where a node is at a moment
abbrev pub Placed : ℕ → Phase → ℕ → Group → Option Assignment → List Assignment → (Assignment → Type 0) → Type 0
Placed self Down coordinator group task all Told = Unit {0}
Placed self Election coordinator group task all Told = Unit {0}
Placed self Reorganization coordinator group task all Told = coordinator ≡ group.creator
Placed self Normal coordinator group task all Told = (coordinator ≡ group.creator) × Holds self group task (λ t. IsAmong t all ⊎ Told t)

abbrev pub PlacedAt : ℕ → State → List Assignment → (Assignment → Type 0) → Type 0
PlacedAt self v all Told = Placed self v.phase v.coordinator v.group v.task all Told

stands_placed : (self : ℕ) (phase : Phase) (coordinator : ℕ) (group : Group) (task : Option Assignment) (last : ℕ)
    (led all : List Assignment) (Told : Assignment → Type 0)
    → ((t : Assignment) → IsAmong t led → IsAmong t all) → Stands self phase coordinator group task last led Told
    → Placed self phase coordinator group task all Told
stands_placed self Down coordinator group task last led all Told sub h = tt
stands_placed self Election coordinator group task last led all Told sub h = tt
stands_placed self Reorganization coordinator group task last led all Told sub h = h.1
stands_placed self Normal coordinator group task last led all Told sub h = (
  h.1,
  record {
    held = h.2.held;
    is_held = h.2.is_held;
    in_group = h.2.in_group;
    is_member = h.2.is_member;
    known = elim h.2.known [ inl i ↦ inl (sub h.2.held i) | inr t ↦ inr t ];
  },
)

-- what a whole history leaves: all tasks that the node made, one for each count
pub record Life (self nodes : ℕ) (s : NodeState) (es : List Entry) (led : List Assignment) (Told : Assignment → Type 0) : Type 0 where
  pub last : ℕ
  pub all : List Assignment
  pub keeps : (t : Assignment) → IsAmong t led → IsAmong t all
  pub ordered : Ordered self (last + 1) all
  pub tells : AllTell self all (sent_in es)
  pub moments : (v : State) → IsAmong v (vectors self nodes s es) → PlacedAt self v all Told

pub life : (self nodes : ℕ) (s : NodeState) (es : List Entry) (last : ℕ) (led : List Assignment) (Told : Assignment → Type 0)
    → Follows self nodes s es → Rises last (counts_given self nodes s es) → IsTold Told (brought_in es)
    → StandsAt self s.state last led Told
    → Life self nodes s es led Told
life self nodes s [] last led Told follows rises told h = record {
  last = last;
  all = led;
  keeps = λ t i. i;
  ordered = ordered_of self s.state.phase s.state.coordinator s.state.group s.state.task last led Told h;
  tells = tt;
  moments = λ v i. elim i [
    | inl e ↦ subst (λ (w : State). PlacedAt self w led Told) (sym e)
        (stands_placed self s.state.phase s.state.coordinator s.state.group s.state.task last led led Told (λ t j. j) h)
    | inr e ↦ absurd e
  ];
}
life self nodes s (e ∷ es) last led Told follows rises told h =
    let s' : NodeState = after self nodes s e.what in
    let row : Enters AnyGroup AnyWork AnyWork self nodes s e.what = entry_does AnyGroup AnyWork AnyWork self nodes s e.what follows.0 in
    let step : Led self s'.state row.made (counts_given self nodes s' es) led Told =
    move_keeps self s.state (brought (event_of e.what)) (given_at self nodes s e.what) row.made s'.state (counts_given self nodes s' es)
    last led Told
    row.moves h rises (λ m t i. told m t (among_left m (brought (event_of e.what)) (brought_in es) i)) in
    let rest : Life self nodes s' es step.all Told = life self nodes s' es step.last step.all Told follows.2 step.rises
    (λ m t i. told m t (among_right m (brought (event_of e.what)) (brought_in es) i)) step.stands in
    let said = row.says (knows_any self s.state (given_at self nodes s e.what) (brought (event_of e.what)))
    (any_pending self s.durable.pending) (any_pending self s'.durable.pending) in record {
      last = rest.last;
      all = rest.all;
      keeps = λ t i. rest.keeps t (step.keeps t i);
      ordered = rest.ordered;
      tells = each_append (Tells self rest.all) e.sent (sent_in es)
          (subst (λ (ms : List Envelope). AllTell self rest.all ms) (sym follows.1)
          (each_more (Says AnyGroup AnyWork self row.made (event_of e.what)) (Tells self rest.all) (sent_at self nodes s e.what)
          (says_tells AnyGroup AnyWork self row.made rest.all (event_of e.what) (λ t i. rest.keeps t (step.has_made t i))) said))
          rest.tells;
      moments = λ v i. elim i [
        | inl is ↦ subst (λ (w : State). PlacedAt self w rest.all Told) (sym is)
            (stands_placed self s.state.phase s.state.coordinator s.state.group s.state.task last led rest.all Told (λ t j.
            rest.keeps t (step.keeps t j)) h)
        | inr j ↦ rest.moments v j
      ];
    }
