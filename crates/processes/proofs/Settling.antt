-- A process that knows of no command in doubt, as one that goes on with it.
use Rattle.std.proofs.Common.{◌≡◌, ◌⊎◌, ℕ, Bool, true, false, ◌||◌, List, [], ◌∷◌, ◌++◌, refl, sym, ◌∙◌, ap, subst, inl, inr, Option, None}
use Rattle.std.proofs.Common.{IsSome}
use Rattle.std.specs.Prelude.{if◌then◌else◌}
use Rattle.std.proofs.lemmas.Bool.{cond_both}
use Rattle.job_model.specs.declared.node_command.NodeCommand.{NodeCommand as Command}
use Rattle.job_model.specs.Durable.{Durable}
use Rattle.wire_msg.specs.Envelope.{Envelope}
use Rattle.node_core.specs.declared.fault.Refusal.{Refusal}
use Rattle.node_core.specs.declared.fault.Refusal.TheVariants.{Core, Full, Exhausted, AreaExhausted}
use Rattle.node_core.specs.declared.event.Event.{Event}
use Rattle.node_core.specs.NodeStep.{CantTake, IsRefused, IsSpent}
use Rattle.node_core.specs.Start.{down}
use Rattle.node_core.specs.State.{State}
use Rattle.histories.specs.Lists.{IsAmong}
use Rattle.histories.specs.NodeState.{NodeState, settled}
use Rattle.histories.specs.declared.history_event.HistoryEvent.{HistoryEvent}
use Rattle.histories.specs.declared.history_event.HistoryEvent.TheVariants.{Did, Refused, Faulted, Crashed, Recovered, RaiseFailed}
use Rattle.histories.specs.declared.history_event.HistoryEvent.TheVariants.{RaiseRefused}
use Rattle.histories.specs.HistoryEvent.{Entry}
use Rattle.histories.specs.After.{after, sent_at}
use Rattle.histories.specs.Possible.{IsForNode, IsPossible, IsSettling}
use Rattle.histories.specs.History.{Follows, replay, sent_in, vectors}
use Rattle.histories.proofs.PublicLaws.{at_down}
use Rattle.processes.specs.Files.{taken, taken_in}
use Rattle.processes.specs.Processes.{Process, carried, found, mounts, settled_as, settles}
use Rattle.processes.proofs.Embedding.{entry}

-- a node that is down, with this in doubt
abbrev pub opened : ℕ → Durable → Option Command → NodeState
opened self d doubt = record { state = down self; durable = d; doubt = doubt }

-- as the next process finds it
abbrev pub settled_down : ℕ → Bool → NodeState → NodeState
settled_down self kept t = record { state = down self; durable = settled kept t; doubt = None }

-- t goes on with the doubt, s knows of none
abbrev pub IsOpen : ℕ → Bool → NodeState → NodeState → Type 0
IsOpen self kept t s = (t.state ≡ down self) × IsSettling kept t.doubt × (s ≡ settled_down self kept t)

-- the doubt is settled, or it is open
abbrev pub Ended : ℕ → Bool → NodeState → NodeState → Type 0
Ended self kept t s = ((t ≡ s) × (kept ≡ false)) ⊎ IsOpen self kept t s

-- what comes of s is what comes of t in these other entries, which leave the doubt so
pub record SimulatesBy (self nodes : ℕ) (left : Bool) (t s : NodeState) (es other : List Entry) : Type 0 where
  pub follows : Follows self nodes t other
  pub moments : (v : State) → IsAmong v (vectors self nodes s es) → IsAmong v (vectors self nodes t other)
  pub ends : Ended self left (replay self nodes t other) (replay self nodes s es)

-- in those with what the mountings found
abbrev pub Simulates : ℕ → ℕ → Bool → NodeState → NodeState → List Entry → Type 0
Simulates self nodes kept t s es = SimulatesBy self nodes (carried kept es) t s es (settles kept es)

module _ (self nodes : ℕ) (kept : Bool) (t s : NodeState) (what : HistoryEvent) (sent : List Envelope) (es : List Entry) where
  by_test : (rest : List Entry) (left : Bool) → rest ≡ (if mounts what then es else settles kept es)
      → left ≡ (if mounts what then false else carried kept es)
      → SimulatesBy self nodes left t s (entry what sent ∷ es) (entry (settled_as kept what) sent ∷ rest)
      → Simulates self nodes kept t s (entry what sent ∷ es)
  by_test rest left is says it =
      subst (λ (b : Bool). SimulatesBy self nodes b t s (entry what sent ∷ es) (settles kept (entry what sent ∷ es))) says
      (subst (λ (x : List Entry). SimulatesBy self nodes left t s (entry what sent ∷ es) (entry (settled_as kept what) sent ∷ x)) is it)

  -- an entry that leaves both as they are
  stay : mounts what ≡ false → t.state ≡ s.state → IsPossible self nodes t (settled_as kept what)
      → sent ≡ sent_at self nodes t (settled_as kept what) → after self nodes t (settled_as kept what) ≡ t → after self nodes s what ≡ s
      → Simulates self nodes kept t s es → Simulates self nodes kept t s (entry what sent ∷ es)
  stay quiet state may is same_t same_s it = by_test (settles kept es) (carried kept es) (rw quiet refl) (rw quiet refl) (record {
    follows = (may, is, subst (λ (x : NodeState). Follows self nodes x (settles kept es)) (sym same_t) it.follows);
    moments = λ v i. elim i [
      | inl e ↦ inl (e ∙ sym state)
      | inr j ↦ inr (subst (λ (x : NodeState). IsAmong v (vectors self nodes x (settles kept es))) (sym same_t)
          (it.moments v (subst (λ (x : NodeState). IsAmong v (vectors self nodes x es)) same_s j)))
    ];
    ends = subst (λ (x : NodeState). Ended self (carried kept es) (replay self nodes x (settles kept es))
        (replay self nodes (after self nodes s what) es)) (sym same_t)
        (subst (λ (x : NodeState). Ended self (carried kept es) (replay self nodes t (settles kept es)) (replay self nodes x es))
        (sym same_s) it.ends);
  })

  -- a mounting that settles the doubt
  mount : mounts what ≡ true → t.state ≡ s.state → IsPossible self nodes t (settled_as kept what)
      → sent ≡ sent_at self nodes t (settled_as kept what) → after self nodes t (settled_as kept what) ≡ after self nodes s what
      → Follows self nodes (after self nodes s what) es → Simulates self nodes kept t s (entry what sent ∷ es)
  mount settling state may is same follows = by_test es false (rw settling refl) (rw settling refl) (record {
    follows = (may, is, subst (λ (x : NodeState). Follows self nodes x es) (sym same) follows);
    moments = λ v i. elim i [
      | inl e ↦ inl (e ∙ sym state)
      | inr j ↦ inr (subst (λ (x : NodeState). IsAmong v (vectors self nodes x es)) (sym same) j)
    ];
    ends = inl (ap (λ (x : NodeState). replay self nodes x es) same, refl);
  })

module _ (self nodes : ℕ) (kept : Bool) (d : Durable) (doubt : Option Command) where
  abbrev t : NodeState
  t = opened self d doubt

  abbrev s : NodeState
  s = settled_down self kept t

  -- a node that is down refuses for a reason of its state alone
  refuses : (event : Event) (fault : Refusal) → IsForNode (down self) event
      → IsRefused nodes self (down self) (settled kept t) event fault → IsRefused nodes self (down self) d event fault
  refuses event (Core fault) up may = may
  refuses event Exhausted up may = absurd (subst (IsSpent (settled kept t)) (at_down self nodes s event refl up may.0).wants may.1)
  refuses event Full up may = absurd (let bad : CantTake (settled kept t) None Full =
      subst (λ (w : Option Command). CantTake (settled kept t) w Full) (at_down self nodes s event refl up may.0).wants may.1 in bad.1)
  refuses event AreaExhausted up may = absurd (let bad : CantTake (settled kept t) None AreaExhausted =
      subst (λ (w : Option Command). CantTake (settled kept t) w AreaExhausted) (at_down self nodes s event refl up may.0).wants may.1 in
      bad.1)

  no_doubt : {A : Type 0} → IsSome s.doubt → A
  no_doubt is = absurd cc

  step : (what : HistoryEvent) (sent : List Envelope) (es : List Entry) → IsSettling kept doubt → IsPossible self nodes s what
      → sent ≡ sent_at self nodes s what → Follows self nodes (after self nodes s what) es
      → (Follows self nodes s es → Simulates self nodes kept t s es) → Simulates self nodes kept t s (entry what sent ∷ es)
  step (Did event) sent es settling may is follows rest =
      let here = at_down self nodes s event refl may.0 may.1.by_core in
      let there = at_down self nodes t event refl may.0 may.1.by_core in
      let same_s : after self nodes s (Did event) ≡ s = rw (here.state, here.wants) refl in
      let same_t : after self nodes t (Did event) ≡ t = rw (there.state, there.wants) refl in
      stay self nodes kept t s (Did event) sent es refl refl
      (may.0, record { by_core = may.1.by_core; not_spent = rw there.wants (λ e. e) }) (is ∙ here.sent ∙ sym there.sent) same_t same_s
      (rest (subst (λ (x : NodeState). Follows self nodes x es) same_s follows))
  step (Faulted event) sent es settling may is follows rest =
      no_doubt (subst (λ (x : Option Command). IsSome x) (at_down self nodes s event refl may.0.0 may.0.1.by_core).wants may.1)
  step (Refused event fault) sent es settling may is follows rest =
      stay self nodes kept t s (Refused event fault) sent es refl refl (may.0, refuses event fault may.0 may.1) is refl refl (rest follows)
  step (Recovered false) sent es settling may is follows rest =
      mount self nodes kept t s (Recovered false) sent es refl refl (refl, settling, may.2) is refl follows
  step (Recovered true) sent es settling may is follows rest = no_doubt (may.1 refl)
  step (RaiseFailed false) sent es settling may is follows rest =
      mount self nodes kept t s (RaiseFailed false) sent es refl refl (refl, settling, may.2) is refl follows
  step (RaiseFailed true) sent es settling may is follows rest = no_doubt (may.1 refl)
  step (RaiseRefused false) sent es settling may is follows rest =
      stay self nodes kept t s (RaiseRefused false) sent es refl refl (refl, settling, may.2) is refl refl (rest follows)
  step (RaiseRefused true) sent es settling may is follows rest = no_doubt (may.1 refl)
  step what sent es settling may is follows rest = stay self nodes kept t s what sent es refl refl may is refl refl (rest follows)

  all_steps : (es : List Entry) → IsSettling kept doubt → Follows self nodes s es → Simulates self nodes kept t s es
  all_steps [] settling follows = record { follows = tt; moments = λ v i. i; ends = inr (refl, settling, refl) }
  all_steps (e ∷ es) settling follows =
      step e.what e.sent es settling follows.0 follows.1 follows.2 (λ h. all_steps es settling h)

-- ---- what is said with it

-- where the next process begins
settled_next : (self : ℕ) (t : NodeState) (p : Process) → IsSettling p.kept t.doubt → (b : Bool) → b ≡ false
    → IsSettling (b || p.kept) t.doubt × (found self t p ≡ settled_down self (b || p.kept) (opened self t.durable t.doubt))
settled_next self t p may true is = absurd cc
settled_next self t p may false is = (may, by_kept p.kept)
  where
    by_kept : (c : Bool) → record { state = down self; durable = settled c t; doubt = None }
        ≡ settled_down self c (opened self t.durable t.doubt)
    by_kept true = refl
    by_kept false = refl

open_next : (self : ℕ) (t s : NodeState) (c b : Bool) → IsSettling c s.doubt → IsOpen self b t s
    → IsSettling (b || c) t.doubt × (record { state = down self; durable = settled c s; doubt = None }
    ≡ settled_down self (b || c) (opened self t.durable t.doubt))
open_next self t s true b may unsettled = absurd (let none : IsSome (settled_down self b t).doubt =
    subst (λ (x : NodeState). IsSome x.doubt) unsettled.2 (may refl) in cc)
open_next self t s false true may unsettled = (unsettled.1, ap (λ (x : NodeState). settled_down self false x) unsettled.2)
open_next self t s false false may unsettled = (unsettled.1, ap (λ (x : NodeState). settled_down self false x) unsettled.2)

pub next_open : (self : ℕ) (kept : Bool) (t s : NodeState) (p : Process) → Ended self kept t s → IsSettling p.kept s.doubt
    → IsSettling (kept || p.kept) t.doubt × (found self s p ≡ settled_down self (kept || p.kept) (opened self t.durable t.doubt))
next_open self kept t s p ended may = elim ended [
  | inl both ↦ (let it = settled_next self t p (subst (λ (x : NodeState). IsSettling p.kept x.doubt) (sym both.0) may) kept both.1 in
      (it.0, ap (λ (x : NodeState). found self x p) (sym both.0) ∙ it.1))
  | inr unsettled ↦ open_next self t s p.kept kept may unsettled
]

-- a process goes on from a state that the last one left
pub simulates : (self nodes : ℕ) (kept : Bool) (t s : NodeState) (p : Process) (es : List Entry) → Ended self kept t s
    → IsSettling p.kept s.doubt → Follows self nodes (found self s p) es
    → Simulates self nodes (kept || p.kept) (after self nodes t Crashed) (found self s p) es
simulates self nodes kept t s p es ended may follows =
    let next = next_open self kept t s p ended may in
    subst (λ (x : NodeState). Simulates self nodes (kept || p.kept) (after self nodes t Crashed) x es) (sym next.1)
    (all_steps self nodes (kept || p.kept) t.durable t.doubt es next.0 (subst (λ (x : NodeState). Follows self nodes x es) next.1 follows))

-- ---- what is sent and taken

pub settles_sends : (kept : Bool) (es : List Entry) → sent_in (settles kept es) ≡ sent_in es
settles_sends kept [] = refl
settles_sends kept (e ∷ es) = cond_both (mounts e.what) _ _ (λ (xs : List Entry). e.sent ++ sent_in xs ≡ e.sent ++ sent_in es) (λ _. refl)
    (λ _. ap (λ (ms : List Envelope). e.sent ++ ms) (settles_sends kept es))

taken_same : (kept : Bool) (what : HistoryEvent) → taken (settled_as kept what) ≡ taken what
taken_same kept (Recovered k) = refl
taken_same kept (RaiseFailed k) = refl
taken_same kept (RaiseRefused k) = refl
taken_same kept what = refl

pub settles_takes : (kept : Bool) (es : List Entry) → taken_in (settles kept es) ≡ taken_in es
settles_takes kept [] = refl
settles_takes kept (e ∷ es) =
    cond_both (mounts e.what) _ _ (λ (xs : List Entry). taken (settled_as kept e.what) ++ taken_in xs ≡ taken e.what ++ taken_in es)
    (λ _ i. taken_same kept e.what i ++ taken_in es) (λ _ i. taken_same kept e.what i ++ settles_takes kept es i)
