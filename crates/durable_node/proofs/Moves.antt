-- How an event moves the jobs in hand, and what then came and went.
use Rattle.std.proofs.Common.{◌≡◌, ◌⊎◌, inl, inr, ℕ, ◌≤◌, ◌+◌, Bool, true, false, not, ◌==◌, ◌&&◌, ◌||◌, List, [], ◌∷◌, ◌++◌, length, map}
use Rattle.std.proofs.Common.{filter, drop}
use Rattle.std.proofs.Common.{refl, sym, ap, ◌∙◌, subst, arith, append_assoc, slice_get, Option, Some, None}
use Rattle.std.specs.Prelude.{if◌then◌else◌, IsSome, nat_lt}
use Rattle.std.proofs.lemmas.Bool.Decides.{nat_tests}
use Rattle.std.proofs.lemmas.List.{append-nil, drop_all, drop_more}
use Rattle.std.proofs.lemmas.List.Elements.{filter-append}
use Rattle.std.proofs.lemmas.Option.{get_or_from_slice_get, slice_get_within}
use Rattle.std.proofs.Math.Seq.{drop-append_seam}
use Rattle.job_model.specs.declared.job.Job.{Job}
use Rattle.job_model.specs.declared.node_command.NodeCommand.{NodeCommand as Command}
use Rattle.wire_msg.specs.declared.body.Body.{Body}
use Rattle.wire_msg.specs.declared.body.Body.TheVariants as says
use Rattle.node_core.specs.declared.event.Event.{Event}
use Rattle.node_core.specs.declared.event.Event.TheVariants as on
use Rattle.node_core.specs.declared.in_hand.InHand.{InHand}
use Rattle.node_core.specs.declared.phase.Phase.TheVariants.{Down, Election, Reorganization, Normal}
use Rattle.node_core.specs.declared.timer.Timer.{Timer}
use Rattle.node_core.specs.declared.timer.Timer.TheVariants as timer
use Rattle.node_core.specs.State.{State, in_phase}
use Rattle.node_core.specs.Effect.{Effect}
use Rattle.node_core.specs.Effects.{effect_of}
use Rattle.node_core.specs.Messages.{delivered, is_told, takes_invitation, was_probed}
use Rattle.node_core.specs.Priorities.{by_priority}
use Rattle.node_core.specs.Timers.{follows, merges, own_jobs, timed}
use Rattle.node_core.specs.Wants.{delivered_wants, wants_of}
use Rattle.node_core.specs.Words.{holds, is_empty, leads_in, members_of, owner}
use Rattle.group_task.specs.Group.{same_group}
use Rattle.group_task.specs.Ids.{has}
use Rattle.histories.specs.NodeState.{NodeState}
use Rattle.histories.specs.declared.history_event.HistoryEvent.{HistoryEvent}
use Rattle.histories.specs.declared.history_event.HistoryEvent.TheVariants.{Did, Refused, Faulted, NoOp, Crashed, Recovered, MountFailed}
use Rattle.histories.specs.declared.history_event.HistoryEvent.TheVariants.{RaiseFailed, RaiseRefused}
use Rattle.histories.specs.HistoryEvent.{IsOf}
use Rattle.histories.specs.Possible.{IsPossible}
use Rattle.histories.specs.After.{after}
use Rattle.durable_node.specs.Changes.{AreChangesSince, Foresees, IsFollowed, IsMove, Sight, dropped_as, dropped_since, held_by}
use Rattle.durable_node.specs.Changes.{body_moves, move_of, pair_in, seen_of, taken_since, timer_moves, told_anew, view_of}
use Rattle.durable_node.specs.declared.changes.Changes.{Changes}
use Rattle.durable_node.specs.declared.hand_move.HandMove.{HandMove}
use Rattle.durable_node.specs.declared.hand_move.HandMove.TheVariants.{Stays, Grows, Falls, Turns}

-- ---- taken from a place on

pub taken_more : (held : List (ℕ × ℕ)) (out xs : List InHand) (i : ℕ) (x : InHand) → slice_get xs i ≡ Some x
    → (out ++ taken_since held (x ∷ [])) ++ taken_since held (drop (i + 1) xs) ≡ out ++ taken_since held (drop i xs)
taken_more held out xs i x is = (let more = drop_more xs i x (slice_get_within xs i x is) in
    let got = get_or_from_slice_get xs i x x is in
    let begins : drop i xs ≡ x ∷ drop (i + 1) xs = cc in
    append_assoc out (taken_since held (x ∷ [])) (taken_since held (drop (i + 1) xs))
    ∙ (ap (λ (jobs : List InHand). out ++ jobs)
    (sym (filter-append (λ (job : InHand). not (pair_in held job.origin job.id)) (x ∷ []) (drop (i + 1) xs)))
    ∙ ap (λ (jobs : List InHand). out ++ taken_since held jobs) (sym begins)))

pub taken_all : (held : List (ℕ × ℕ)) (out xs all : List InHand) (i : ℕ) → length xs ≤ i → out ++ taken_since held (drop i xs) ≡ all
    → out ≡ all
taken_all held out xs all i past is =
    sym (append-nil out) ∙ (ap (λ (jobs : List InHand). out ++ taken_since held jobs) (sym (drop_all i xs past)) ∙ is)

-- ---- what came and went

-- the pairs of a hand hold what the hand holds
pairs_hold : (hand : List InHand) (origin id : ℕ) → pair_in (map held_by hand) origin id ≡ holds hand origin id
pairs_hold [] origin id = refl
pairs_hold (job ∷ hand) origin id = ap (λ (b : Bool). (job.origin == origin && job.id == id) || b) (pairs_hold hand origin id)

held_there : (before behind : List InHand) (job : InHand) → holds (before ++ job ∷ behind) job.origin job.id ≡ true
held_there [] behind job = grind (arith, nat_tests)
held_there (x ∷ before) behind job = either (x.origin == job.origin && x.id == job.id) (held_there before behind job)
  where
    either : (b : Bool) → holds (before ++ job ∷ behind) job.origin job.id ≡ true
        → (b || holds (before ++ job ∷ behind) job.origin job.id) ≡ true
    either true h = refl
    either false h = h

left_out : {A : Type 0} (test : A → Bool) (x : A) (xs : List A) → test x ≡ false → filter test xs ≡ [] → filter test (x ∷ xs) ≡ []
left_out {A} test x xs out none = by_test (test x) out
  where
    by_test : (b : Bool) → b ≡ false → (if b then x ∷ filter test xs else filter test xs) ≡ []
    by_test true h = absurd cc
    by_test false h = none

left_in : {A : Type 0} (test : A → Bool) (x : A) (xs : List A) → test x ≡ true → filter test xs ≡ xs → filter test (x ∷ xs) ≡ x ∷ xs
left_in {A} test x xs held all = by_test (test x) held
  where
    by_test : (b : Bool) → b ≡ true → (if b then x ∷ filter test xs else filter test xs) ≡ x ∷ xs
    by_test true h = ap (λ (ys : List A). x ∷ ys) all
    by_test false h = absurd cc

none_taken : (before jobs : List InHand) → taken_since (map held_by (before ++ jobs)) jobs ≡ []
none_taken before [] = refl
none_taken before (job ∷ jobs) = left_out (λ (x : InHand). not (pair_in (map held_by (before ++ job ∷ jobs)) x.origin x.id)) job jobs
    (ap not (pairs_hold (before ++ job ∷ jobs) job.origin job.id ∙ held_there before jobs job))
    (ap (λ (hand : List InHand). taken_since (map held_by hand) jobs) (sym (append_assoc before (job ∷ []) jobs))
    ∙ none_taken (before ++ job ∷ []) jobs)

none_dropped : (before jobs gains : List InHand) → dropped_since (map held_by jobs) ((before ++ jobs) ++ gains) ≡ []
none_dropped before [] gains = refl
none_dropped before (job ∷ jobs) gains =
    left_out (λ (pair : ℕ × ℕ). not (holds ((before ++ job ∷ jobs) ++ gains) pair.0 pair.1)) (held_by job) (map held_by jobs)
    (ap not (ap (λ (hand : List InHand). holds hand job.origin job.id) (append_assoc before (job ∷ jobs) gains)
    ∙ held_there before (jobs ++ gains) job))
    (ap (λ (hand : List InHand). dropped_since (map held_by jobs) (hand ++ gains)) (sym (append_assoc before (job ∷ []) jobs))
    ∙ none_dropped (before ++ job ∷ []) jobs gains)

all_taken : (jobs : List InHand) → taken_since [] jobs ≡ jobs
all_taken [] = refl
all_taken (job ∷ jobs) = ap (λ (rest : List InHand). job ∷ rest) (all_taken jobs)

-- those that came behind alone are taken, and nothing is dropped
taken_behind : (old new : List InHand) (followed : IsFollowed old new)
    → taken_since (map held_by old) new ≡ taken_since (map held_by old) followed.gains
taken_behind old new followed = (let pairs = map held_by old in
    ap (taken_since pairs) followed.behind
    ∙ (filter-append (λ (job : InHand). not (pair_in pairs job.origin job.id)) old followed.gains
    ∙ ap (λ (jobs : List InHand). jobs ++ taken_since pairs followed.gains) (none_taken [] old)))

gains_behind : (old new : List InHand) (followed : IsFollowed old new) → drop (length old) new ≡ followed.gains
gains_behind old new followed = ap (drop (length old)) followed.behind ∙ drop-append_seam old followed.gains

kept_behind : (old new : List InHand) → IsFollowed old new → dropped_since (map held_by old) new ≡ []
kept_behind old new followed = ap (dropped_since (map held_by old)) followed.behind ∙ none_dropped [] old followed.gains

abbrev as_it_was : (old new : List InHand) → new ≡ old → IsFollowed old new
as_it_was old new same = record { gains = []; behind = same ∙ sym (append-nil old) }

-- what came and went is told by what was seen
record IsToldBy (move : HandMove) (seen : Sight) (old new : List InHand) : Type 0 where
  taken : taken_since seen.held (drop seen.first new) ≡ taken_since (map held_by old) new
  dropped : dropped_as move seen new ≡ dropped_since (map held_by old) new

is_shorter : (job : InHand) (old : List InHand) → nat_lt 0 (length (job ∷ old)) ≡ true
is_shorter job old = grind (arith, nat_tests)

-- a hand that fell is shorter than it was, or it had no job
fallen_told : (old new : List InHand) → IsFollowed old new ⊎ (new ≡ [])
    → (if nat_lt (length new) (length old) then dropped_since (map held_by old) new else []) ≡ dropped_since (map held_by old) new
fallen_told old new (inl followed) = by_test (nat_lt (length new) (length old))
  where
    by_test : (b : Bool) → (if b then dropped_since (map held_by old) new else []) ≡ dropped_since (map held_by old) new
    by_test true = refl
    by_test false = sym (kept_behind old new followed)
fallen_told [] new (inr none) = by_test (nat_lt (length new) 0)
  where
    by_test : (b : Bool) → (if b then dropped_since (map held_by []) new else []) ≡ dropped_since (map held_by []) new
    by_test true = refl
    by_test false = refl
fallen_told (job ∷ old) new (inr none) = subst (λ (hand : List InHand). (if nat_lt (length hand) (length (job ∷ old))
    then dropped_since (map held_by (job ∷ old)) hand else []) ≡ dropped_since (map held_by (job ∷ old)) hand) (sym none)
    (ap (λ (b : Bool). if b then dropped_since (map held_by (job ∷ old)) [] else []) (is_shorter job old))

told_by : (move : HandMove) (s : State) (new : List InHand) → IsMove move s.hand new → IsToldBy move (seen_of move s) s.hand new
told_by Stays s new same = (let followed = as_it_was s.hand new same in
    record {
      taken = ap (taken_since []) (gains_behind s.hand new followed) ∙ sym (taken_behind s.hand new followed);
      dropped = sym (kept_behind s.hand new followed);
    })
told_by Grows s new grown = record {
  taken = ap (taken_since []) (gains_behind s.hand new grown.0)
      ∙ (all_taken grown.0.gains ∙ (sym grown.1 ∙ sym (taken_behind s.hand new grown.0)));
  dropped = sym (kept_behind s.hand new grown.0);
}
told_by Falls s new (inl followed) = record {
  taken = ap (taken_since (map held_by s.hand)) (gains_behind s.hand new followed) ∙ sym (taken_behind s.hand new followed);
  dropped = fallen_told s.hand new (inl followed);
}
told_by Falls s new (inr none) = record {
  taken = subst (λ (hand : List InHand). taken_since (map held_by s.hand) (drop (length s.hand) hand)
      ≡ taken_since (map held_by s.hand) hand)
      (sym none) (ap (taken_since (map held_by s.hand)) (drop_all (length s.hand) [] (omega arith)));
  dropped = fallen_told s.hand new (inr none);
}
told_by Turns s new moved = record { taken = refl; dropped = refl }

pub changed_so : (seen : Sight) (new : State) (changes : Changes) → changes.group ≡ told_anew seen.group (view_of new)
    → changes.taken.items ≡ taken_since seen.held (drop seen.first new.hand) → changes.dropped.items ≡ dropped_as seen.move seen new.hand
    → AreChangesSince seen new changes
changed_so seen new changes group taken dropped = record {
  are = λ old is moved. (let told = told_by seen.move old new.hand moved in
      record {
        group = group ∙ ap (λ (x : Sight). told_anew x.group (view_of new)) is;
        taken = taken ∙ (ap (λ (x : Sight). taken_since x.held (drop x.first new.hand)) is ∙ told.taken);
        dropped = dropped ∙ (ap (λ (x : Sight). dropped_as seen.move x new.hand) is ∙ told.dropped);
      });
}

-- ---- how an event moves the hand

-- a hand that stays moves so, too
pub at_rest : (move : HandMove) (hand : List InHand) → IsMove move hand hand
at_rest Stays hand = refl
at_rest Grows hand = (as_it_was hand hand refl, refl)
at_rest Falls hand = inl (as_it_was hand hand refl)
at_rest Turns hand = tt

-- by a guard
guarded : (R : List InHand → Type 0) (b : Bool) (x y : Effect) → (b ≡ true → R x.state.hand) → R y.state.hand
    → R (if b then x else y).state.hand
guarded R true x y t f = t refl
guarded R false x y t f = f

not_true : (b : Bool) → not b ≡ true → b ≡ false
not_true true h = absurd cc
not_true false h = refl

and_right : (a b : Bool) → (a && b) ≡ true → b ≡ true
and_right true b h = h
and_right false b h = absurd cc

-- a job that isn't in hand
is_fresh : (hand gains : List InHand) (job : InHand) → holds hand job.origin job.id ≡ false
    → taken_since (map held_by hand) gains ≡ gains → taken_since (map held_by hand) (job ∷ gains) ≡ job ∷ gains
is_fresh hand gains job not_held fresh = left_in (λ (x : InHand). not (pair_in (map held_by hand) x.origin x.id)) job gains
    (ap not (pairs_hold hand job.origin job.id ∙ not_held)) fresh

own_fresh : (self : ℕ) (s : State) (jobs : List Job) → taken_since (map held_by s.hand) (own_jobs self s jobs) ≡ own_jobs self s jobs
own_fresh self s [] = refl
own_fresh self s (job ∷ jobs) = by_test (owner s job.work.queue == self && not (holds s.hand self job.id)) refl (own_fresh self s jobs)
  where
    mine : Job → InHand
    mine x = record { origin = self; id = x.id; work = x.work }

    rest : List Job
    rest = filter (λ (x : Job). owner s x.work.queue == self && not (holds s.hand self x.id)) jobs

    by_test : (b : Bool) → (owner s job.work.queue == self && not (holds s.hand self job.id)) ≡ b
        → taken_since (map held_by s.hand) (map mine rest) ≡ map mine rest
        → taken_since (map held_by s.hand) (map mine (if b then job ∷ rest else rest)) ≡ map mine (if b then job ∷ rest else rest)
    by_test true is others = is_fresh s.hand (map mine rest) (mine job) (not_true _ (and_right _ _ is)) others
    by_test false is others = others

timer_row : (nodes self : ℕ) (pending : List Job) (timer : Timer) (answer : ℕ) (s : State)
    → IsMove (timer_moves timer) s.hand (timed nodes self pending timer answer s).state.hand
unfolding timed
timer_row nodes self pending timer.Check answer s = guarded (λ hand. hand ≡ s.hand) (leads_in Normal self s) _ _ (λ t. refl) refl
timer_row nodes self pending timer.Accept answer s = guarded (λ hand. hand ≡ s.hand) (leads_in Election self s) _ _ (λ t. refl) refl
timer_row nodes self pending timer.Merge answer s = guarded (IsMove Falls s.hand) (merges self s) _ _
    (λ t. guarded (IsMove Falls s.hand) (is_empty s.found) _ _ (λ e. at_rest Falls s.hand) (inr refl)) (at_rest Falls s.hand)
timer_row nodes self pending timer.Ready answer s =
    guarded (IsMove Falls s.hand) (leads_in Reorganization self s) _ _ (λ t. inr refl) (at_rest Falls s.hand)
timer_row nodes self pending timer.Coord answer s = guarded (IsMove Falls s.hand) (follows self s) _ _
    (λ t. guarded (IsMove Falls s.hand) s.probing _ _ (λ p. inr refl) (at_rest Falls s.hand)) (at_rest Falls s.hand)
timer_row nodes self pending timer.Dispatch answer s = guarded (IsMove Grows s.hand) (in_phase Normal s.phase) _ _
    (λ t. (record { gains = own_jobs self s (by_priority pending); behind = refl }, own_fresh self s (by_priority pending)))
    (at_rest Grows s.hand)

body_row : (self from : ℕ) (body : Body) (answer : ℕ) (s : State)
    → IsMove (body_moves body) s.hand (delivered self from body answer s).state.hand
unfolding delivered
body_row self from says.AreYouCoordinator answer s = guarded (λ hand. hand ≡ s.hand) (in_phase Down s.phase) _ _ (λ t. refl) refl
body_row self from (says.Coordinator agreed) answer s = guarded (λ hand. hand ≡ s.hand) (agreed && merges self s) _ _ (λ t. refl) refl
body_row self from (says.AreYouThere group) answer s = guarded (λ hand. hand ≡ s.hand) (in_phase Down s.phase) _ _ (λ t. refl) refl
body_row self from (says.Accept group) answer s =
    guarded (λ hand. hand ≡ s.hand) (leads_in Election self s && same_group group s.group) _ _ (λ t. refl) refl
body_row self from (says.Ready task) answer s =
    guarded (λ hand. hand ≡ s.hand) (is_told self from task s && in_phase Reorganization s.phase) _ _ (λ t. refl)
    (guarded (λ hand. hand ≡ s.hand) (is_told self from task s && in_phase Normal s.phase) _ _ (λ t. refl) refl)
body_row self from (says.ReadyAck group) answer s =
    guarded (λ hand. hand ≡ s.hand) (leads_in Reorganization self s && same_group group s.group) _ _ (λ t. refl) refl
body_row self from (says.Here group agreed) answer s = guarded (IsMove Falls s.hand) (was_probed from group s) _ _
    (λ t. guarded (IsMove Falls s.hand) agreed _ _ (λ a. at_rest Falls s.hand) (inr refl)) (at_rest Falls s.hand)
body_row self from (says.Invitation group) answer s =
    guarded (IsMove Falls s.hand) (takes_invitation self group s) _ _ (λ t. inr refl) (at_rest Falls s.hand)
body_row self from (says.Done id) answer s = at_rest Falls s.hand
body_row self from (says.Work group id work) answer s = guarded (IsMove Grows s.hand)
    (in_phase Normal s.phase && same_group group s.group && has (members_of s.task) from && owner s work.queue == self
    && not (holds s.hand from id)) _ _
    (λ t. (
      record { gains = (record { origin = from; id = id; work = work }) ∷ []; behind = refl },
      is_fresh s.hand [] _ (not_true _ (and_right _ _ t)) refl,
    ))
    (at_rest Grows s.hand)

event_row : (nodes self : ℕ) (pending : List Job) (event : Event) (answer : ℕ) (s : State)
    → IsMove (move_of event) s.hand (effect_of nodes self pending event answer s).state.hand
event_row nodes self pending (on.Timer timer) answer s = timer_row nodes self pending timer answer s
event_row nodes self pending (on.Deliver m) answer s = body_row self m.sender m.body answer s
event_row nodes self pending (on.Submit work) answer s = guarded (IsMove Falls s.hand) (owner s work.queue == self) _ _
    (λ t. inl (record { gains = (record { origin = self; id = answer; work = work }) ∷ []; behind = refl })) (at_rest Falls s.hand)
event_row nodes self pending (on.Finish origin id) answer s = tt
event_row nodes self pending on.Recover answer s = inr refl

-- a hand that stays or grows is that of an event without a command, which can't fail
abbrev MayFail : HandMove → Option Command → Type 0
MayFail Stays wants = wants ≡ None
MayFail Grows wants = wants ≡ None
MayFail move wants = Unit {0}

timer_calm : (self : ℕ) (pending : List Job) (timer : Timer) (s : State)
    → MayFail (timer_moves timer) (wants_of self pending (on.Timer timer) s)
timer_calm self pending timer.Check s = refl
timer_calm self pending timer.Accept s = refl
timer_calm self pending timer.Dispatch s = refl
timer_calm self pending timer s = tt

body_calm : (from : ℕ) (pending : List Job) (body : Body) (s : State) → MayFail (body_moves body) (delivered_wants from pending body s)
body_calm from pending (says.Here group agreed) s = tt
body_calm from pending (says.Invitation group) s = tt
body_calm from pending (says.Done id) s = tt
body_calm from pending body s = refl

event_calm : (self : ℕ) (pending : List Job) (event : Event) (s : State) → MayFail (move_of event) (wants_of self pending event s)
event_calm self pending (on.Timer timer) s = timer_calm self pending timer s
event_calm self pending (on.Deliver m) s = body_calm m.sender pending m.body s
event_calm self pending event s = tt

where_failed : (move : HandMove) (wants : Option Command) (old : List InHand) → MayFail move wants → IsSome wants → IsMove move old []
where_failed Stays wants old calm some = absurd cc
where_failed Grows wants old calm some = absurd cc
where_failed Falls wants old calm some = inr refl
where_failed Turns wants old calm some = tt

at_recover : (event : Event) (old new : List InHand) → Some on.Recover ≡ Some event → IsMove Falls old new → IsMove (move_of event) old new
at_recover event old new of falls = (let same : on.Recover ≡ event = cc in
    subst (λ (e : Event). IsMove (move_of e) old new) same falls)

foreseen_for : (event : Event) (self nodes : ℕ) (s : NodeState) (what : HistoryEvent) → IsOf event what → IsPossible self nodes s what
    → IsMove (move_of event) s.state.hand (after self nodes s what).state.hand
foreseen_for event self nodes s (Did other) of possible = (let same : other ≡ event = cc in
    subst (λ (e : Event). IsMove (move_of e) s.state.hand (after self nodes s (Did other)).state.hand) same
    (event_row nodes self s.durable.pending other _ s.state))
foreseen_for event self nodes s (Refused other fault) of possible = at_rest (move_of event) s.state.hand
foreseen_for event self nodes s (Faulted other) of possible = (let same : other ≡ event = cc in
    subst (λ (e : Event). IsMove (move_of e) s.state.hand (after self nodes s (Faulted other)).state.hand) same
    (where_failed (move_of other) _ _ (event_calm self s.durable.pending other s.state) possible.1))
foreseen_for event self nodes s (NoOp rest) of possible = absurd cc
foreseen_for event self nodes s Crashed of possible = absurd cc
foreseen_for event self nodes s (Recovered kept) of possible = at_recover event s.state.hand _ of (inr refl)
foreseen_for event self nodes s (RaiseFailed kept) of possible = at_recover event s.state.hand _ of (inr refl)
foreseen_for event self nodes s MountFailed of possible = at_recover event s.state.hand _ of (at_rest Falls s.state.hand)
foreseen_for event self nodes s (RaiseRefused kept) of possible = at_recover event s.state.hand _ of (at_rest Falls s.state.hand)

pub foreseen : (event : Event) (move : HandMove) → move ≡ move_of event → Foresees event move
foreseen event move is = subst (Foresees event) (sym is) (record { moved = foreseen_for event })
