-- What is known of a node when its workers have ended, in the words of its plans and its history, how long that is,
-- and how the nodes are taken out of their locks one after another.
use Rattle.std.proofs.Common.{◌≡◌, ℕ, ◌≤◌, Bool, Option, Some, None, IsSome, List, [], ◌∷◌, ◌++◌, length, slice_get, refl, ap, ◌∙◌, subst}
use Rattle.std.proofs.Common.{subst₂, arith, ◌+◌, ◌<◌, sym, inl, inr}
use Rattle.std.proofs.lemmas.List.{append-nil, length-append}
use Rattle.std.proofs.lemmas.Option.{slice_get_within, get_or_from_slice_get, same_Some}
use Rattle.wire_msg.specs.Envelope.{Envelope}
use Rattle.link_ring.specs.Sides.{Side}
use Rattle.histories.specs.Lists.{IsAmong}
use Rattle.histories.specs.NodeState.{opening}
use Rattle.histories.specs.History.{Follows, FollowsSlots}
use Rattle.node_lock.specs.declared.run.Run.{Run}
use Rattle.node_lock.specs.declared.worker.Turns.{Turns}
use Rattle.node_lock.specs.declared.worker.Worker.{Worker}
use Rattle.node_lock.specs.declared.worker.Worker.TheVariants.{Intake, Clock, Operator}
use Rattle.node_lock.specs.Path.{Path}
use Rattle.node_lock.specs.Asking.{IsAsked, Asked}
use Rattle.node_lock.specs.Planned.{Planned, plan_len, turns_of, with_turn, no_turns}
use Rattle.node_lock.specs.History.{Turn, FollowsPlans, PlanStep, entries_of, polled}
use Rattle.node_lock.specs.HeldView.{HeldView, HeldInvariant, IsPutLink, IsTakeLink, IsPolled}
use Rattle.node_lock.proofs.PublicLaws.{from_nothing}
use Rattle.node_lock.specs.declared.held.TheConstants.{MOST_ENTRIES}
use Rattle.node_lock.specs.Kept.{Log}
use Rattle.node_lock.specs.Drawing.{HaveNumbers}
use Rattle.node_lock.specs.Lost.{AreMarked, HasLost, all_losses, all_went}
use Rattle.node_lock.specs.Sending.{addressed_to}
use Rattle.node_lock.specs.Wearing.{NoneAreaExhausted}
use Rattle.node_threads.specs.Nodes.{NodeEnds, run_at}
use Rattle.node_threads.specs.Ended.{HasEnded, AreEnded}
use Rattle.node_threads.specs.Whole.{IsInterleaving}
use Rattle.node_threads.proofs.Places.{among_at, place_of, at_or_before, get_before, get_last}
use Rattle.node_threads.specs.declared.size.RunSize.{RunSize}
use Rattle.node_threads.specs.Reasons.{planned, FirstFit}

-- ---- plans

-- no worker has taken more turns than it was planned
abbrev pub AreWithin : Planned → Turns → Type 0
AreWithin p c = (c.intake ≤ length p.intake) × (c.clock ≤ length p.clock) × (c.operator ≤ length p.operator)

turn_within : (p : Planned) (c : Turns) (w : Worker) (i : ℕ) (x : Asked) (d : Turns) → AreWithin p c → IsAsked p w i x → i ≡ turns_of c w
    → d ≡ with_turn c w → AreWithin p d
turn_within p c Intake i x d h t at is = rw is (omega (arith, slice_get_within p.intake i t.0.0 t.0.1, at), h.1, h.2)
turn_within p c Clock i x d h t at is = rw is (h.0, omega (arith, slice_get_within p.clock i t.0 t.1, at), h.2)
turn_within p c Operator i x d h t at is = rw is (h.0, h.1, omega (arith, slice_get_within p.operator i t.0 t.1, at))

path_within : (p : Planned) (c : Turns) (ts : List Turn) (d : Turns) → AreWithin p c → Path (PlanStep p) c ts d → AreWithin p d
path_within p c [] d h q = subst (AreWithin p) q h
path_within p c (t ∷ ts) d h q = path_within p q.0 ts d (turn_within p c t.worker t.index q.1.asked q.0 h q.1.asks q.1.index q.1.turns) q.2

pub plans_within : (p : Planned) (ts : List Turn) (c : Turns) → FollowsPlans p ts c → AreWithin p c
plans_within p ts c follows = path_within p no_turns ts c (omega arith, omega arith, omega arith) follows

interleaves : (p : Planned) (ts : List Turn) (c : Turns) → FollowsPlans p ts c → ((w : Worker) → plan_len p w ≤ turns_of c w)
    → IsInterleaving p ts
interleaves p ts c follows used_up = record { turns = c; follows = follows; whole = whole }
  where
    whole : (w : Worker) → turns_of c w ≡ plan_len p w
    whole Intake = omega (arith, used_up Intake, (plans_within p ts c follows).0)
    whole Clock = omega (arith, used_up Clock, (plans_within p ts c follows).1)
    whole Operator = omega (arith, used_up Operator, (plans_within p ts c follows).2)

nothing_by : (o : Option Envelope) → (IsSome o → ⊥) → o ≡ None
nothing_by None h = refl
nothing_by (Some m) h = absurd (h refl)

-- ---- the facts

-- all that was taken from the link was taken by polls of the history
pub record IsAllTaken (run : Run) (plan : Planned) (history : List Turn) (t : Side) : Type 0 where
  pub receiver : t.receiver ≡ run.node
  pub messages : t.messages ≡ polled plan.intake t.sender history

pub record Facts (run : Run) (plan : Planned) (history : List Turn) (ends : NodeEnds) : Type 0 where
  pub follows : Follows run.node run.nodes (opening run.node) (entries_of history)
  pub slots : FollowsSlots run.slots run.node run.nodes (opening run.node) (entries_of history)
  pub interleaved : IsInterleaving plan history
  pub puts : (x : Side) → IsAmong x ends.puts → IsPutLink run history x
  pub takes : (x : Side) → IsAmong x ends.takes → IsAllTaken run plan history x
  pub polls : (i j : ℕ) → slice_get plan.intake i ≡ Some j → IsPolled run j

take_link : (h : HeldView) (t : Side) → h.waiting ≡ None → IsTakeLink h t → IsAllTaken h.run h.plans h.history t
take_link h t none is = record {
  receiver = is.receiver;
  messages = rw (
    none,
    from_nothing h.plans.intake t.sender h.turns.intake [] refl,
    append-nil (polled h.plans.intake t.sender h.history),
  ) at is.messages;
}

pub facts : (run : Run) (plan : Planned) (log : Log) (ends : NodeEnds) → HasEnded run plan log ends → Facts run plan log.turns ends
facts run plan log ends e =
    let h = e.view in
    let none = nothing_by h.waiting (λ s. let lt = e.kept.waiting s in let least = e.used_up Intake in absurd (omega (arith, lt, least))) in
    record {
      follows = rw (e.is_run, e.is_history) at e.kept.replay.follows;
      slots = rw (e.is_run, e.is_history) at e.kept.slots;
      interleaved = rw (e.is_plan, e.is_history) at (interleaves h.plans h.history h.turns e.kept.turns e.used_up);
      puts = λ x is. let at = among_at x h.puts (rw e.is_puts is) in rw (at.2, e.is_run, e.is_history) at (e.kept.puts at.0 x at.1).0;
      takes = λ x is.
          let at = among_at x h.takes (rw e.is_takes is) in
          rw (e.is_run, e.is_plan, e.is_history) at (take_link h x none (rw at.2 at (e.kept.takes at.0 x at.1).0));
      polls = λ i j is.
          let at : slice_get h.plans.intake i ≡ Some j = rw e.is_plan is in
          rw (get_or_from_slice_get h.plans.intake i j 0 at, e.is_run) at (e.kept.intake i 0 (slice_get_within h.plans.intake i j at));
    }

-- what its history names as lost, by its links to the others
pub record LostFacts (log : Log) (ends : NodeEnds) : Type 0 where
  pub went : List (List Bool)
  pub marked : AreMarked went log.turns
  pub is_lost : log.lost ≡ all_losses 0 went
  pub put : (x : Side) → IsAmong x ends.puts → x.messages ≡ addressed_to x.receiver (all_went went log.turns)

pub lost_facts : (run : Run) (plan : Planned) (log : Log) (ends : NodeEnds) → HasEnded run plan log ends → LostFacts log ends
lost_facts run plan log ends e =
    let h = e.view in
    let has : HasLost log.turns log.lost h.puts = rw (e.is_history, e.is_lost) at e.kept.lost in
    record {
      went = has.went;
      marked = has.marked;
      is_lost = has.is_lost;
      put = λ x is. let at = among_at x h.puts (rw e.is_puts is) in rw at.2 at (has.put at.0 x at.1);
    }

pub never_area_exhausted_fact : (run : Run) (plan : Planned) (log : Log) (ends : NodeEnds) → HasEnded run plan log ends
    → NoneAreaExhausted (entries_of log.turns)
never_area_exhausted_fact run plan log ends e = rw e.is_history at e.kept.never_area_exhausted

pub numbers_fact : (run : Run) (plan : Planned) (log : Log) (ends : NodeEnds) → HasEnded run plan log ends
    → (drawn : List ℕ) × HaveNumbers drawn log.numbers
numbers_fact run plan log ends e = (e.view.drawn, rw e.is_numbers at e.kept.numbers)

-- the turns of all three workers
abbrev taken : Turns → ℕ
taken c = c.intake + c.clock + c.operator

one_taken : (c d : Turns) (w : Worker) → d ≡ with_turn c w → taken d ≡ taken c + 1
one_taken c d Intake is = rw is (omega arith)
one_taken c d Clock is = rw is (omega arith)
one_taken c d Operator is = rw is (omega arith)

all_taken : (p : Planned) (c : Turns) (ts : List Turn) (d : Turns) → Path (PlanStep p) c ts d → taken d ≡ taken c + length ts
all_taken p c [] d q = sym (ap taken q) ∙ (let same : taken c ≡ taken c + 0 = omega arith in same)
all_taken p c (t ∷ ts) d q =
    omega (arith, all_taken p q.0 ts d q.2, one_taken c q.0 t.worker q.1.turns)

-- a history has as many turns as were taken
as_many : (p : Planned) (ts : List Turn) (c : Turns) → FollowsPlans p ts c → length ts ≡ taken c
as_many p ts c follows = let all = all_taken p no_turns ts c follows in omega (arith, all)

-- all turns were taken, so there was room for them
pub ended_fits : (run : Run) (plan : Planned) (log : Log) (ends : NodeEnds) → HasEnded run plan log ends → planned plan ≤ MOST_ENTRIES
ended_fits run plan log ends e =
    let h = e.view in
    subst (λ (p : Planned). planned p ≤ MOST_ENTRIES) e.is_plan
    (omega (arith, as_many h.plans h.history h.turns e.kept.turns, e.kept.few, e.used_up Intake, e.used_up Clock, e.used_up Operator))

-- the history is full, and a worker has turns left
pub is_more : (h : HeldView) (w : Worker) → HeldInvariant h → MOST_ENTRIES ≤ length h.history → turns_of h.turns w < plan_len h.plans w
    → (MOST_ENTRIES < planned h.plans) × (0 < plan_len h.plans w)
is_more h w k full left = (by_worker w left, omega (arith, left))
  where
    within : AreWithin h.plans h.turns
    within = plans_within h.plans h.history h.turns k.turns

    by_worker : (v : Worker) → turns_of h.turns v < plan_len h.plans v → MOST_ENTRIES < planned h.plans
    by_worker Intake lt = omega (arith, as_many h.plans h.history h.turns k.turns, full, lt, within.1, within.2)
    by_worker Clock lt = omega (arith, as_many h.plans h.history h.turns k.turns, full, lt, within.0, within.2)
    by_worker Operator lt = omega (arith, as_many h.plans h.history h.turns k.turns, full, lt, within.0, within.1)

-- where each node has ended, all plans fit
pub all_fit : (size : RunSize) (plans : List Planned) (histories : List Log) (ends : List NodeEnds) → AreEnded size plans histories ends
    → FirstFit (length plans) plans
all_fit size plans histories ends e m p below at =
    let h = place_of histories m (omega (arith, below, e.history_count)) in
    let o = place_of ends m (omega (arith, below, e.ends_count)) in
    ended_fits (run_at size m) p h.0 o.0 (e.each m p h.0 o.0 at h.1 o.1)

-- one node more has plans that fit
pub one_more_fits : (n : ℕ) (plans : List Planned) (p : Planned) → slice_get plans n ≡ Some p → planned p ≤ MOST_ENTRIES → FirstFit n plans
    → FirstFit (n + 1) plans
one_more_fits n plans p at few all m q below at' = elim (at_or_before m n below) [
  | inl before ↦ all m q before at'
  | inr here ↦ (let same : p ≡ q = same_Some p q (sym at ∙ (ap (slice_get plans) (sym here) ∙ at')) in
      subst (λ (x : Planned). planned x ≤ MOST_ENTRIES) same few)
]

-- each node below the bound has ended
pub record AreEndedBelow (bound : ℕ) (size : RunSize) (plans : List Planned) (histories : List Log) (ends : List NodeEnds) : Type 0 where
  pub history_count : length histories ≡ bound
  pub ends_count : length ends ≡ bound
  pub each : (n : ℕ) (p : Planned) (h : Log) (e : NodeEnds) → slice_get plans n ≡ Some p → slice_get histories n ≡ Some h
      → slice_get ends n ≡ Some e → HasEnded (run_at size n) p h e

-- what stands at the end of a list that was added to
last_of : {A : Type 0} (xs : List A) (x y : A) (k : ℕ) → k ≡ length xs → slice_get (xs ++ x ∷ []) k ≡ Some y → y ≡ x
last_of xs x y k here at = same_Some y x (sym at ∙ get_last xs k x here)

pub ended_more : (bound : ℕ) (size : RunSize) (plans : List Planned) (histories : List Log) (ends : List NodeEnds) (plan : Planned)
    (log : Log) (mine : NodeEnds) (hs : List Log) (es : List NodeEnds) → hs ≡ histories ++ log ∷ [] → es ≡ ends ++ mine ∷ []
    → slice_get plans bound ≡ Some plan → HasEnded (run_at size bound) plan log mine
    → AreEndedBelow bound size plans histories ends → AreEndedBelow (bound + 1) size plans hs es
ended_more bound size plans histories ends plan log mine hs es logs_are ends_are plan_at has all =
    let many = all.history_count in
    let many' = all.ends_count in
    subst₂ (λ xs ys. AreEndedBelow (bound + 1) size plans xs ys) (sym logs_are) (sym ends_are) (record {
      history_count = omega (arith, many, length-append histories (log ∷ []));
      ends_count = omega (arith, many', length-append ends (mine ∷ []));
      each = λ n p h e at_plan at at'.
          let lt : n < bound + 1 = omega (
            arith,
            slice_get_within (histories ++ log ∷ []) n h at,
            many,
            length-append histories (log ∷ []),
          ) in
          elim (at_or_before n bound lt) [
            | inl before ↦ all.each n p h e at_plan (get_before histories n h log (omega (arith, before, many)) at)
                (get_before ends n e mine (omega (arith, before, many')) at')
            | inr here ↦ rw (
              here,
              same_Some p plan (sym at_plan ∙ (ap (slice_get plans) here ∙ plan_at)),
              last_of histories log h n (here ∙ sym many) at,
              last_of ends mine e n (here ∙ sym many') at',
            ) has
          ];
    })
