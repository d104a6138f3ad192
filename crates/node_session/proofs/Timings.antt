-- The events that a tick or a loss makes, one behind another.
use Rattle.std.proofs.Common.{◌≡◌, ◌≤◌, ◌+◌, inl, inr, ℕ, List, [], ◌∷◌, ◌++◌, length, length-append, refl, sym, ap, ◌∙◌, subst, arith}
use Rattle.std.proofs.Common.{Option, Some, None, Ok, Err, IsErr}
use Rattle.sector_disk.specs.Disk.{DiskState}
use Rattle.node_core.specs.State.{State}
use Rattle.node_core.specs.declared.event.Event.{Event}
use Rattle.durable_node.specs.Node.{Stands}
use Rattle.histories.specs.NodeState.{NodeState}
use Rattle.node_timers.specs.Retransmission.{Waits}
use Rattle.node_session.specs.declared.timers.TheConstants.{MOST_FIRED}
use Rattle.node_session.specs.Turns.{CallEnd, Turn, after_turn, cause, end_of, IsFired, MayComeOf}
use Rattle.node_session.specs.Chains.{after_turns, last_end, waits_turn, waits_turns}
use Rattle.node_session.specs.Text.{fired_line, fired_news}
use Rattle.node_session.specs.Serving.{Progress, Turns, Calls}
use Rattle.node_session.specs.Timing.{Timers, AreDue, Fires, GivesUp, GoesOn, IsDueAt, Loses, Timely, given_up, lost_by}
use Rattle.node_session.proofs.Calls.{call_more, look_more, no_call}

-- so many events fired, each of which was due
abbrev pub IsFiring : Waits → Timers → Timers → ℕ → ℕ → ℕ → NodeState → List Turn → Type 0
IsFiring w old new count self nodes s turns = AreDue self nodes s w turns old new × (length turns ≡ count)

-- ---- one more

goes_more : (self nodes : ℕ) (ended : CallEnd) (s : NodeState) (ts : List Turn) (t : Turn) → GoesOn ended ts
    → (IsErr (last_end self nodes ended s ts) → ⊥) → GoesOn ended (ts ++ t ∷ [])
goes_more self nodes (Ok answer) s [] t goes done = tt
goes_more self nodes (Ok answer) s (u ∷ ts) t goes done = tt
goes_more self nodes (Err fault) s [] t goes done = absurd (done refl)
goes_more self nodes (Err fault) s (u ∷ ts) t goes done = absurd goes

due_behind : (self nodes : ℕ) (before : CallEnd) (s : NodeState) (w : Waits) (ts : List Turn) (t : Turn) (old mid new : Timers)
    → AreDue self nodes s w ts old mid → (IsErr (last_end self nodes before s ts) → ⊥)
    → IsDueAt self (after_turns self nodes s ts) (waits_turns self nodes s ts w) mid (cause t) new
    → AreDue self nodes s w (ts ++ t ∷ []) old new
due_behind self nodes before s w [] t old mid new due done is =
    (new, subst (λ (x : Timers). IsDueAt self s w x (cause t) new) due is, tt, refl)
due_behind self nodes before s w (u ∷ ts) t old mid new due done is = (
  due.0,
  due.1,
  goes_more self nodes (end_of self nodes s u) (after_turn self nodes s u) ts t due.2 done,
  due_behind self nodes (end_of self nodes s u) (after_turn self nodes s u) (waits_turn self nodes s u w) ts t due.0 mid new due.3 done is,
)

one_longer : (ts : List Turn) (t : Turn) (count : ℕ) → length ts ≡ count → length (ts ++ t ∷ []) ≡ count + 1
one_longer ts t count is = length-append ts (t ∷ []) ∙ ap (λ (n : ℕ). n + 1) is

-- what was due where the code looked is due in what it stands for
due_there : {Disk : Type 0} (disks : Disk → DiskState) (old mid : Progress Disk) (t : NodeState) (w : Waits) (result fired : Option Event)
    (new : Timers) → mid.node.id ≡ old.node.id → mid.waits ≡ w → result ≡ fired
    → Stands disks mid.node t → ((s : NodeState) → Stands disks mid.node s → IsDueAt mid.node.id s mid.waits mid.timers result new)
    → IsDueAt old.node.id t w mid.timers fired new
due_there disks old mid t w result fired new id waits is stands due =
    subst (λ (o : Option Event). IsDueAt old.node.id t w mid.timers o new) is
    (subst (λ (v : Waits). IsDueAt old.node.id t v mid.timers result new) waits
    (subst (λ (n : ℕ). IsDueAt n t mid.waits mid.timers result new) id (due t stands)))

-- ---- as the code does it

-- what is due is looked at, named, and made
pub calls_due : {Disk : Type 0} (disks : Disk → DiskState) (old mid due here new : Progress Disk) (event : Event) (result : Option Event)
    (between ended : CallEnd) (count : ℕ) → IsFired event → result ≡ Some event
    → due ≡ record mid { timers = due.timers } → ((s : NodeState) → Stands disks mid.node s
    → IsDueAt mid.node.id s mid.waits mid.timers result due.timers)
    → here ≡ record due { text = due.text ++ fired_line event } → (IsErr between → ⊥)
    → Calls disks old mid fired_news (Timely (IsFiring old.waits old.timers mid.timers count)) (Ok None) between
    → Turns disks here new (λ i n. MayComeOf i n event) ended
    → Calls disks old new fired_news (Timely (IsFiring old.waits old.timers new.timers (count + 1))) (Ok None) ended
calls_due {Disk} disks old mid due here new event result between ended count fired is looks at named done calls turns =
    call_more disks old mid new event (mid.text ++ fired_line event) due.timers (Ok None) between ended
    (IsFiring old.waits old.timers mid.timers count) (IsFiring old.waits old.timers new.timers (count + 1)) fired refl
    (λ s ts t stands id waits so causes ends told before. (
      due_behind old.node.id old.node.nodes (Ok None) s old.waits ts t old.timers mid.timers new.timers before.0 (λ denied.
          done (subst IsErr (sym so) denied))
          (subst (λ (x : Timers). IsDueAt old.node.id (after_turns old.node.id old.node.nodes s ts)
          (waits_turns old.node.id old.node.nodes s ts old.waits) mid.timers (cause t) x) (sym told)
          (due_there disks old mid (after_turns old.node.id old.node.nodes s ts) (waits_turns old.node.id old.node.nodes s ts old.waits)
          result (cause t) due.timers id waits (is ∙ sym causes) stands at)),
      one_longer ts t count before.1,
    ))
    calls
    (subst (λ (p : Progress Disk). Turns disks p new (λ i n. MayComeOf i n event) ended) (named
    ∙ ap (λ (p : Progress Disk). record p { text = p.text ++ fired_line event }) looks) turns)

-- nothing is due
pub calls_rest : {Disk : Type 0} (disks : Disk → DiskState) (old mid new : Progress Disk) (result : Option Event) (ended : CallEnd)
    (count : ℕ) → result ≡ None → new ≡ record mid { timers = new.timers }
    → ((s : NodeState) → Stands disks mid.node s → IsDueAt mid.node.id s mid.waits mid.timers result new.timers) → count ≤ MOST_FIRED
    → Calls disks old mid fired_news (Timely (IsFiring old.waits old.timers mid.timers count)) (Ok None) ended
    → Calls disks old new fired_news (Timely (Fires old.waits old.timers new.timers)) (Ok None) ended
calls_rest disks old mid new result ended count is looks at few calls =
    look_more disks old mid new (Ok None) ended (IsFiring old.waits old.timers mid.timers count)
    (Fires old.waits old.timers new.timers) looks
    (λ s ts stands id waits so before. record {
      mid = mid.timers;
      due = before.0;
      few = subst (λ (n : ℕ). n ≤ MOST_FIRED) (sym before.1) few;
      rests = inr (inr (due_there disks old mid (after_turns old.node.id old.node.nodes s ts)
          (waits_turns old.node.id old.node.nodes s ts old.waits) result None new.timers id waits is stands at));
    }) calls

-- as many fired as may
calls_full : {Disk : Type 0} (disks : Disk → DiskState) (old new : Progress Disk) (ended : CallEnd)
    → Calls disks old new fired_news (Timely (IsFiring old.waits old.timers new.timers MOST_FIRED)) (Ok None) ended
    → Calls disks old new fired_news (Timely (Fires old.waits old.timers new.timers)) (Ok None) ended
calls_full disks old new ended calls =
    look_more disks old new new (Ok None) ended (IsFiring old.waits old.timers new.timers MOST_FIRED)
    (Fires old.waits old.timers new.timers) refl
    (λ s ts stands id waits so before. record {
      mid = new.timers;
      due = before.0;
      few = omega (arith, before.1);
      rests =
          inr (inl (before.1, refl));
    }) calls

pub calls_ended : {Disk : Type 0} (disks : Disk → DiskState) (old new : Progress Disk) (ended : CallEnd) (count : ℕ)
    → count ≡ MOST_FIRED → Calls disks old new fired_news (Timely (IsFiring old.waits old.timers new.timers count)) (Ok None) ended
    → Calls disks old new fired_news (Timely (Fires old.waits old.timers new.timers)) (Ok None) ended
calls_ended disks old new ended count is calls = calls_full disks old new ended
    (subst (λ (n : ℕ). Calls disks old new fired_news (Timely (IsFiring old.waits old.timers new.timers n)) (Ok None) ended) is calls)

-- the last of them was denied
pub calls_denied : {Disk : Type 0} (disks : Disk → DiskState) (old new : Progress Disk) (ended : CallEnd) (count : ℕ) → IsErr ended
    → count ≤ MOST_FIRED
    → Calls disks old new fired_news (Timely (IsFiring old.waits old.timers new.timers count)) (Ok None) ended
    → Calls disks old new fired_news (Timely (Fires old.waits old.timers new.timers)) (Ok None) ended
calls_denied disks old new ended count denied few calls =
    look_more disks old new new (Ok None) ended (IsFiring old.waits old.timers new.timers count)
    (Fires old.waits old.timers new.timers) refl
    (λ s ts stands id waits so before. record {
      mid = new.timers;
      due = before.0;
      few = omega (arith, few, before.1);
      rests =
          inl (subst IsErr so denied, refl);
    }) calls

-- ---- a loss

loses_one : (lost : Option Event) (event : Event) (ts : List Turn) (t : Turn) (old new : Timers) → lost ≡ Some event → ts ≡ []
    → cause t ≡ Some event → new ≡ given_up event old → Loses lost (ts ++ t ∷ []) old new
loses_one lost event ts t old new is none causes gives =
    subst (λ (us : List Turn). Loses lost (us ++ t ∷ []) old new) (sym none)
    (subst (λ (o : Option Event). Loses o (t ∷ []) old new) (sym is) (causes, gives))

-- as the code does it
pub loss_call : {Disk : Type 0} (disks : Disk → DiskState) (old here new : Progress Disk) (self lost : ℕ) (event : Event) (seen : State)
    (result : Option Event) (told : Timers) (ended : CallEnd) → IsFired event → result ≡ Some event
    → result ≡ lost_by self seen lost → self ≡ old.node.id → seen ≡ old.node.state
    → here ≡ record old { text = old.text ++ fired_line event } → told ≡ given_up event here.timers
    → Turns disks (record here { timers = told }) new (λ i n. MayComeOf i n event) ended
    → Calls disks old new fired_news (Timely (GivesUp lost old.timers new.timers)) (Ok None) ended
loss_call {Disk} disks old here new self lost event seen result told ended fired is loses own sees named gives turns =
    call_more disks old old new event (old.text ++ fired_line event) (given_up event old.timers) (Ok None)
    (Ok None) ended (λ self nodes s ts. ts ≡ []) (GivesUp lost old.timers new.timers) fired refl
    (λ s ts t stands id waits so causes ends timers none.
    loses_one (lost_by old.node.id s.state lost) event ts t old.timers new.timers
    (ap (λ (v : State). lost_by old.node.id v lost) (sym (sees
    ∙ (subst (λ (us : List Turn). Stands disks old.node (after_turns old.node.id old.node.nodes s us)) none stands).state))
    ∙ (ap (λ (n : ℕ). lost_by n seen lost) (sym own) ∙ (sym loses ∙ is))) none causes timers)
    (no_call disks old (Ok None) (λ self nodes s ts. ts ≡ []) (λ s stands. refl))
    (subst (λ (p : Progress Disk). Turns disks p new (λ i n. MayComeOf i n event) ended)
    (ap (λ (p : Progress Disk). record p { timers = told }) named
    ∙ ap (λ (t : Timers). record old { text = old.text ++ fired_line event; timers = t })
    (gives ∙ ap (λ (p : Progress Disk). given_up event p.timers) named)) turns)

pub loss_none : {Disk : Type 0} (disks : Disk → DiskState) (p : Progress Disk) (self lost : ℕ) (seen : State) (result : Option Event)
    → result ≡ None → result ≡ lost_by self seen lost → self ≡ p.node.id → seen ≡ p.node.state
    → Calls disks p p fired_news (Timely (GivesUp lost p.timers p.timers)) (Ok None) (Ok None)
loss_none disks p self lost seen result is loses own sees =
    no_call disks p (Ok None) (GivesUp lost p.timers p.timers)
    (λ s stands. subst (λ (o : Option Event). Loses o [] p.timers p.timers) (sym is
    ∙ (loses ∙ (ap (λ (n : ℕ). lost_by n seen lost) own ∙ ap (λ (v : State). lost_by p.node.id v lost) (sees ∙ stands.state)))) refl)
