-- A job whose Done was acknowledged stays done.
use Rattle.std.proofs.Common.{◌≡◌, ◌≢◌, ◌⊎◌, ℕ, zero, suc, ◌+◌, ◌<◌, Bool, true, false, ◌||◌, List, [], ◌∷◌, ◌++◌, length, slice_get, refl}
use Rattle.std.proofs.Common.{sym, ◌∙◌, ap, subst, inl, inr, arith, Option, Some, None}
use Rattle.std.specs.Prelude.{not, ◌==◌, if◌then◌else◌}
use Rattle.std.proofs.lemmas.Bool.Decides.{nat_tests}
use Rattle.job_model.specs.declared.job.Job.{Job}
use Rattle.job_model.specs.declared.node_command.NodeCommand.{NodeCommand as Command}
use Rattle.job_model.specs.declared.node_command.NodeCommand.TheVariants.{Raise, Done}
use Rattle.job_model.specs.Answer.{answer_of}
use Rattle.job_model.specs.Durable.{Durable}
use Rattle.job_model.specs.Fold.{after_command, after_wanted, is_pending, without_job}
use Rattle.histories.specs.Lists.{IsAmong}
use Rattle.histories.specs.NodeState.{NodeState, opening, wants_at, settled}
use Rattle.histories.specs.declared.history_event.HistoryEvent.{HistoryEvent}
use Rattle.histories.specs.declared.history_event.HistoryEvent.TheVariants.{Did, Refused, Faulted, NoOp, Crashed, Recovered, MountFailed}
use Rattle.histories.specs.declared.history_event.HistoryEvent.TheVariants.{RaiseFailed, RaiseRefused}
use Rattle.histories.specs.HistoryEvent.{Entry}
use Rattle.histories.specs.After.{after}
use Rattle.histories.specs.Kept.{Mounting}
use Rattle.histories.specs.Jobs.{DoneIsGone}
use Rattle.histories.specs.declared.attempt.Attempt.{Attempt}
use Rattle.histories.specs.Marks.{Mark, Acknowledged, Unanswered, Mounted, commands_of, mountings_of, tried_marks, failed_marks, marks_at}
use Rattle.histories.specs.Marks.{marks_from}
use Rattle.histories.proofs.Among.{among_either}
use Rattle.histories.proofs.Owners.{commands_append}
use Rattle.histories.proofs.Pending.{AreGiven, Goes, goes_after, goes_settled}
use Rattle.histories.proofs.Tests.{eq_nat}
use Rattle.histories.proofs.Wanted.{wanted_pending}

-- the id was given, and no pending job has it
record IsGone (id : ℕ) (d : Durable) : Type 0 where
  below : id < d.next
  none : (job : Job) → IsAmong job d.pending → job.id ≢ id

gone_on : (id : ℕ) (d e : Durable) → Goes d e → IsGone id d → IsGone id e
gone_on id d e goes h = record {
  below = omega (arith, goes.next, h.below);
  none = λ job i is. h.none job (goes.same job i (omega (arith, is, h.below))) is;
}

-- what is left without a job has none of its id
none_left : (id : ℕ) (jobs : List Job) (job : Job) → IsAmong job (without_job jobs id) → job.id ≢ id
none_left id [] job i is = absurd i
none_left id (x ∷ jobs) job i is = by_id (x.id == id) refl i (λ j. none_left id jobs job j is)
  where
    by_id : (b : Bool) → (x.id == id) ≡ b → IsAmong job (if not b then x ∷ without_job jobs id else without_job jobs id)
        → (IsAmong job (without_job jobs id) → ⊥) → ⊥
    by_id true same i rest = rest i
    by_id false other i rest = elim i [
      | inl e ↦ (let ne : x.id ≢ id = grind (arith, nat_tests) in ne (ap (λ (y : Job). y.id) (sym e) ∙ is))
      | inr j ↦ rest j
    ]

given_below : (id limit : ℕ) (jobs : List Job) → ((job : Job) → IsAmong job jobs → job.id < limit) → is_pending jobs id ≡ true → id < limit
given_below id limit [] below is = absurd cc
given_below id limit (x ∷ jobs) below is = by_id (x.id == id) refl is (λ k. given_below id limit jobs (λ job i. below job (inr i)) k)
  where
    by_id : (b : Bool) → (x.id == id) ≡ b → (b || is_pending jobs id) ≡ true → (is_pending jobs id ≡ true → id < limit) → id < limit
    by_id true same is rest = omega (arith, eq_nat x.id id same, below x (inl refl))
    by_id false other is rest = rest is

done_gone : (d : Durable) (id : ℕ) → AreGiven d → is_pending d.pending id ≡ true → IsGone id (after_command d (Done id))
done_gone d id given is = record { below = given_below id d.next d.pending given.below is; none = none_left id d.pending }

-- ---- what is mounted later

mountings_append : (ms ns : List Mark) → mountings_of (ms ++ ns) ≡ mountings_of ms ++ mountings_of ns
mountings_append [] ns = refl
mountings_append (Acknowledged c a ∷ ms) ns = mountings_append ms ns
mountings_append (Unanswered c ∷ ms) ns = mountings_append ms ns
mountings_append (Mounted w ∷ ms) ns = ap (λ (ws : List Mounting). w ∷ ws) (mountings_append ms ns)

none_tried : (d : Durable) (wants : Option Command) (w : Mounting) → IsAmong w (mountings_of (tried_marks d wants)) → ⊥
none_tried d None w i = i
none_tried d (Some c) w i = i

none_failed : (wants : Option Command) (w : Mounting) → IsAmong w (mountings_of (failed_marks wants)) → ⊥
none_failed None w i = i
none_failed (Some c) w i = i

-- an entry mounts what the node had kept, with its command in doubt or without it, after so many commands
record Mounts (n : ℕ) (s : NodeState) (w : Mounting) : Type 0 where
  kept : Bool
  before : w.before ≡ n
  state : w.state ≡ settled kept s

one_mounted : (n : ℕ) (kept : Bool) (s : NodeState) (w : Mounting) → IsAmong w (record { before = n; state = settled kept s } ∷ [])
    → Mounts n s w
one_mounted n kept s w i = elim i [
  | inl e ↦ record { kept = kept; before = ap (λ (x : Mounting). x.before) e; state = ap (λ (x : Mounting). x.state) e }
  | inr none ↦ absurd none
]

mounts : (self nodes : ℕ) (s : NodeState) (n : ℕ) (what : HistoryEvent) (w : Mounting)
    → IsAmong w (mountings_of (marks_at self nodes s n what)) → Mounts n s w
mounts self nodes s n (Did event) w i = absurd (none_tried s.durable (wants_at self nodes s event) w i)
mounts self nodes s n (Refused event fault) w i = absurd i
mounts self nodes s n (Faulted event) w i = absurd (none_failed (wants_at self nodes s event) w i)
mounts self nodes s n (NoOp rest) w i = absurd i
mounts self nodes s n Crashed w i = absurd i
mounts self nodes s n (Recovered kept) w i = one_mounted n kept s w i
mounts self nodes s n MountFailed w i = absurd i
mounts self nodes s n (RaiseFailed kept) w i = one_mounted n kept s w i
mounts self nodes s n (RaiseRefused kept) w i = one_mounted n kept s w i

later_gone : (self nodes : ℕ) (s : NodeState) (n id : ℕ) (es : List Entry) → IsGone id s.durable → (w : Mounting)
    → IsAmong w (mountings_of (marks_from self nodes s n es)) → IsGone id w.state
later_gone self nodes s n id [] h w i = absurd i
later_gone self nodes s n id (e ∷ es) h w i =
    let now : List Mark = marks_at self nodes s n e.what in
    let next : ℕ = n + length (commands_of now) in
    let rest : List Mark = marks_from self nodes (after self nodes s e.what) next es in
    elim (among_either w (mountings_of now) (mountings_of rest)
    (subst (λ (ws : List Mounting). IsAmong w ws) (mountings_append now rest) i)) [
      | inl here ↦ (let it = mounts self nodes s n e.what w here in
          subst (λ (d : Durable). IsGone id d) (sym it.state) (gone_on id s.durable (settled it.kept s) (goes_settled it.kept s) h))
      | inr later ↦ later_gone self nodes (after self nodes s e.what) next id es (gone_on id s.durable _ (goes_after self nodes s e.what) h)
          w later
    ]

-- ---- the command

get_either : {A : Type 0} (xs ys : List A) (k : ℕ) (x : A) → slice_get (xs ++ ys) k ≡ Some x
    → (slice_get xs k ≡ Some x) ⊎ ((j : ℕ) × (k ≡ length xs + j) × (slice_get ys j ≡ Some x))
get_either [] ys k x at = inr (k, omega arith, at)
get_either (y ∷ xs) ys zero x at = inl at
get_either (y ∷ xs) ys (suc k) x at = elim (get_either xs ys k x at) [
  | inl here ↦ inl here
  | inr it ↦ inr (it.0, omega (arith, it.1), it.2)
]

none_acked : (wants : Option Command) (k id a : ℕ) → slice_get (commands_of (failed_marks wants)) k
    ≡ Some (record { command = Done id; acked = Some a }) → ⊥
none_acked None k id a at = absurd cc
none_acked (Some c) zero id a at = (let it : ◌≡◌ {A = Attempt} (record { command = c; acked = None }) (record {
  command = Done id;
  acked =
      Some a;
}) = cc at in
    let bad : ◌≡◌ {A = Option ℕ} None (Some a) = ap (λ (t : Attempt). t.acked) it in absurd cc)
none_acked (Some c) (suc k) id a at = absurd cc

raise_alone : (acked : Option ℕ) (k id : ℕ) (a : Option ℕ)
    → slice_get {X = Attempt} (record { command = Raise; acked = acked } ∷ []) k ≡ Some (record { command = Done id; acked = a }) → ⊥
raise_alone acked zero id a at = (let it : ◌≡◌ {A = Attempt} (record { command = Raise; acked = acked }) (record {
  command =
      Done id;
  acked = a;
}) = cc at in
    let bad : Raise ≡ Done id = ap (λ (t : Attempt). t.command) it in absurd cc)
raise_alone acked (suc k) id a at = absurd cc

-- an entry that acknowledges a Done leaves no such job
tried_done : (d : Durable) (wants : Option Command) (k id a : ℕ)
    → slice_get (commands_of (tried_marks d wants)) k ≡ Some (record { command = Done id; acked = Some a }) → wants ≡ Some (Done id)
tried_done d None k id a at = absurd cc
tried_done d (Some c) zero id a at = (let it : ◌≡◌ {A = Attempt} (record { command = c; acked = Some (answer_of d c) }) (record {
  command =
      Done id;
  acked = Some a;
}) = cc at in ap Some (ap (λ (t : Attempt). t.command) it))
tried_done d (Some c) (suc k) id a at = absurd cc

entry_gone : (self nodes : ℕ) (s : NodeState) (n : ℕ) (what : HistoryEvent) (k id a : ℕ) → AreGiven s.durable
    → slice_get (commands_of (marks_at self nodes s n what)) k ≡ Some (record { command = Done id; acked = Some a })
    → IsGone id (after self nodes s what).durable
entry_gone self nodes s n (Did event) k id a given at =
    let wants : wants_at self nodes s event ≡ Some (Done id) = tried_done s.durable (wants_at self nodes s event) k id a at in
    subst (λ (c : Option Command). IsGone id (after_wanted s.durable c)) (sym wants)
    (done_gone s.durable id given (wanted_pending self s.durable.pending event s.state id wants))
entry_gone self nodes s n (Refused event fault) k id a given at = absurd cc
entry_gone self nodes s n (Faulted event) k id a given at = absurd (none_acked (wants_at self nodes s event) k id a at)
entry_gone self nodes s n (NoOp rest) k id a given at = absurd cc
entry_gone self nodes s n Crashed k id a given at = absurd cc
entry_gone self nodes s n (Recovered kept) k id a given at = absurd (raise_alone (Some ((settled kept s).counter + 1)) k id (Some a) at)
entry_gone self nodes s n MountFailed k id a given at = absurd cc
entry_gone self nodes s n (RaiseFailed kept) k id a given at = absurd (raise_alone None k id (Some a) at)
entry_gone self nodes s n (RaiseRefused kept) k id a given at = absurd cc

all_gone : (self nodes : ℕ) (s : NodeState) (n : ℕ) (es : List Entry) (k id a : ℕ) → AreGiven s.durable
    → slice_get (commands_of (marks_from self nodes s n es)) k ≡ Some (record { command = Done id; acked = Some a })
    → (w : Mounting) → IsAmong w (mountings_of (marks_from self nodes s n es)) → n + k < w.before → IsGone id w.state
all_gone self nodes s n [] k id a given at w i lt = absurd i
all_gone self nodes s n (e ∷ es) k id a given at w i lt =
    let now : List Mark = marks_at self nodes s n e.what in
    let next : ℕ = n + length (commands_of now) in
    let rest : List Mark = marks_from self nodes (after self nodes s e.what) next es in
    elim (among_either w (mountings_of now) (mountings_of rest)
    (subst (λ (ws : List Mounting). IsAmong w ws) (mountings_append now rest) i)) [
      | inl here ↦ absurd (omega (arith, lt, (mounts self nodes s n e.what w here).before))
      | inr later ↦ elim (get_either (commands_of now) (commands_of rest) k _
          (subst (λ (ts : List Attempt). slice_get ts k ≡ Some (record { command = Done id; acked = Some a })) (commands_append now rest)
          at)) [
            | inl here ↦ later_gone self nodes (after self nodes s e.what) next id es (entry_gone self nodes s n e.what k id a given here) w
                later
            | inr it ↦ all_gone self nodes (after self nodes s e.what) next es it.0 id a ((goes_after self nodes s e.what).given given) it.2
                w
                later (omega (arith, lt, it.1))
          ]
    ]

pub done_is_gone : DoneIsGone
done_is_gone self nodes h follows zero id a at w i lt job j = absurd (raise_alone (Some 1) 0 id (Some a) at)
done_is_gone self nodes h follows (suc k) id a at w i lt job j = elim i [
  | inl first ↦ absurd (let none : w.before ≡ 0 = ap (λ (x : Mounting). x.before) first in omega (arith, lt, none))
  | inr later ↦ (all_gone self nodes (opening self) 1 h k id a (record { below = λ x y. absurd y; once = λ x y l m e. absurd l }) at w later
      (omega (arith, lt))).none job j
]
