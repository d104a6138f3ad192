-- A file that begins above 0 is one that some node left: by a history from the common opening, which brings it nothing.
use Rattle.std.proofs.Common.{◌≡◌, ◌⊎◌, ℕ, zero, suc, ◌+◌, ◌-◌, ◌<◌, ◌≤◌, ◌^◌, Bool, true, false, ◌&&◌, List, [], ◌∷◌, ◌++◌, refl}
use Rattle.std.proofs.Common.{sym, ◌∙◌, ap, subst, inl, inr, arith, None, append_assoc, append-nil}
use Rattle.std.specs.Prelude.{◌==◌, not}
use Rattle.std.specs.List.{list_any}
use Rattle.std.proofs.lemmas.Bool.{or_right}
use Rattle.std.proofs.lemmas.Bool.Decides.{nat_tests}
use Rattle.std.proofs.lemmas.List.Folds.{list_any-append}
use Rattle.std.proofs.lemmas.List.Elements.{filter-append}
use Rattle.job_model.specs.declared.job.Job.{Job}
use Rattle.job_model.specs.declared.work.Work.{Work}
use Rattle.job_model.specs.Durable.{Durable}
use Rattle.job_model.specs.Fold.{is_pending, without_job}
use Rattle.wire_msg.specs.Envelope.{Envelope}
use Rattle.node_core.specs.declared.event.Event.TheVariants.{Submit, Finish}
use Rattle.node_core.specs.declared.in_hand.InHand.{InHand}
use Rattle.node_core.specs.Start.{alone}
use Rattle.node_core.specs.Words.{holds, owner, without_held}
use Rattle.histories.specs.Lists.{IsAmong, Each}
use Rattle.histories.specs.NodeState.{NodeState, opening}
use Rattle.histories.specs.declared.history_event.HistoryEvent.{HistoryEvent}
use Rattle.histories.specs.declared.history_event.HistoryEvent.TheVariants.{Did, Crashed, Recovered}
use Rattle.histories.specs.HistoryEvent.{Entry, event_of, brought}
use Rattle.histories.specs.After.{after, sent_at}
use Rattle.histories.specs.Possible.{IsPossible}
use Rattle.histories.specs.History.{Follows, brought_in, replay}
use Rattle.histories.proofs.PublicLaws.{among_either, among_left, among_right, each_append, each_more, history_goes_on}
use Rattle.processes.specs.Files.{IdsRise, IsFormatted, at_first}

pub follows_both : (self nodes : ℕ) (s : NodeState) (es fs : List Entry) → Follows self nodes s es
    → Follows self nodes (replay self nodes s es) fs → Follows self nodes s (es ++ fs)
follows_both self nodes s [] fs first second = second
follows_both self nodes s (e ∷ es) fs first second =
    (first.0, first.1, follows_both self nodes (after self nodes s e.what) es fs first.2 second)

-- some history from the opening leaves this state, and brings nothing
pub record Reached (self nodes : ℕ) (s : NodeState) : Type 0 where
  pub before : List Entry
  pub follows : Follows self nodes (opening self) before
  pub leaves : replay self nodes (opening self) before ≡ s
  pub quiet : (m : Envelope) → IsAmong m (brought_in before) → ⊥

pub brought_either : (es fs : List Entry) (m : Envelope) → IsAmong m (brought_in (es ++ fs))
    → IsAmong m (brought_in es) ⊎ IsAmong m (brought_in fs)
brought_either [] fs m i = inr i
brought_either (e ∷ es) fs m i = elim (among_either m (brought (event_of e.what)) (brought_in (es ++ fs)) i) [
  | inl l ↦ inl (among_left m (brought (event_of e.what)) (brought_in es) l)
  | inr r ↦ elim (brought_either es fs m r) [ inl l ↦ inl (among_right m (brought (event_of e.what)) (brought_in es) l) | inr k ↦ inr k ]
]

-- one step more
pub reached_next : (self nodes : ℕ) (s t : NodeState) (what : HistoryEvent) → Reached self nodes s → IsPossible self nodes s what
    → brought (event_of what) ≡ [] → after self nodes s what ≡ t → Reached self nodes t
reached_next self nodes s t what reached may silent is =
    let e : Entry = record { what = what; sent = sent_at self nodes s what } in
    let goes =
    history_goes_on self nodes (opening self) reached.before e reached.follows
    (subst (λ (x : NodeState). IsPossible self nodes x what) (sym reached.leaves) may)
    (ap (λ (x : NodeState). sent_at self nodes x what) (sym reached.leaves)) in record {
      before = reached.before ++ e ∷ [];
      follows = goes.0;
      leaves = goes.1 ∙ (ap (λ (x : NodeState). after self nodes x what) reached.leaves ∙ is);
      quiet = λ m i. elim (brought_either reached.before (e ∷ []) m i) [
        | inl l ↦ reached.quiet m l
        | inr r ↦ (let none : IsAmong m [] = subst (λ (ms : List Envelope). IsAmong m (ms ++ [])) silent r in absurd none)
      ];
    }

pub opens : (self nodes : ℕ) → Reached self nodes (opening self)
opens self nodes = record { before = []; follows = tt; leaves = refl; quiet = λ m i. absurd i }

-- ---- jobs

-- a node alone in its first group, with these jobs, and with these in hand
abbrev filled : ℕ → List InHand → ℕ → List Job → NodeState
filled self hand next jobs = record {
  state = record (alone self 1) { hand = hand };
  durable = record { counter = 1; next = next; pending = jobs };
  doubt = None;
}

record Filled (self nodes next : ℕ) (jobs : List Job) : Type 0 where
  hand : List InHand
  reached : Reached self nodes (filled self hand next jobs)

same : (n : ℕ) → (n == n) ≡ true
same n = grind (arith, nat_tests)

other : (n k : ℕ) → n < k → (n == k) ≡ false
other n k less = grind (arith, nat_tests)

alone_owns : (self : ℕ) (hand : List InHand) (queue : ℕ) → owner (record (alone self 1) { hand = hand }) queue ≡ self
alone_owns self hand queue = grind arith

abbrev the_job : ℕ → Work → Job
the_job id work = record { id = id; work = work }

abbrev in_hand : ℕ → ℕ → Work → InHand
in_hand self id work = record { origin = self; id = id; work = work }

last_passes : {A : Type 0} (test : A → Bool) (xs : List A) (x : A) → test x ≡ true → list_any test (xs ++ x ∷ []) ≡ true
last_passes test xs x is = list_any-append test xs (x ∷ []) ∙ or_right (list_any test xs) _ (rw is refl)

held_last : (hand : List InHand) (self id : ℕ) (work : Work) → holds (hand ++ in_hand self id work ∷ []) self id ≡ true
held_last hand self id work =
    last_passes (λ (job : InHand). job.origin == self && job.id == id) hand (in_hand self id work) (rw (same self, same id) refl)

pending_last : (jobs : List Job) (id : ℕ) (work : Work) → is_pending (jobs ++ the_job id work ∷ []) id ≡ true
pending_last jobs id work = last_passes (λ (job : Job). job.id == id) jobs (the_job id work) (same id)

abbrev AreBelow : ℕ → List Job → Type 0
AreBelow limit jobs = Each (λ (job : Job). job.id < limit) jobs

none_without : (jobs : List Job) (id : ℕ) → AreBelow id jobs → without_job jobs id ≡ jobs
none_without [] id below = refl
none_without (job ∷ jobs) id below = rw (other job.id id below.0) (ap (λ (rest : List Job). job ∷ rest) (none_without jobs id below.1))

last_without : (jobs : List Job) (id : ℕ) (work : Work) → AreBelow id jobs → without_job (jobs ++ the_job id work ∷ []) id ≡ jobs
last_without jobs id work below =
    filter-append (λ (job : Job). not (job.id == id)) jobs (the_job id work ∷ [])
    ∙ (ap (λ (rest : List Job). without_job jobs id ++ rest) (rw (same id) refl)
    ∙ (append-nil (without_job jobs id) ∙ none_without jobs id below))

module _ (self nodes : ℕ) where
  put_job : (next : ℕ) (hand : List InHand) (jobs : List Job) (work : Work) → next + 1 < 2 ^ 64
      → Reached self nodes (filled self hand next jobs)
      → Reached self nodes (filled self (hand ++ in_hand self next work ∷ []) (next + 1) (jobs ++ the_job next work ∷ []))
  put_job next hand jobs work room reached = reached_next self nodes (filled self hand next jobs) _ (Did (Submit work)) reached
      ((λ e. absurd cc), record { by_core = rw (same self) refl; not_spent = λ e. absurd (omega (arith, room, e)) })
      refl (rw (alone_owns self hand work.queue, same self) refl)

  finish_job : (next : ℕ) (hand : List InHand) (jobs : List Job) (work : Work) → AreBelow next jobs
      → Reached self nodes (filled self (hand ++ in_hand self next work ∷ []) (next + 1) (jobs ++ the_job next work ∷ []))
      → Filled self nodes (next + 1) jobs
  finish_job next hand jobs work below reached =
      let held = held_last hand self next work in
      let pending = pending_last jobs next work in record {
        hand = without_held (hand ++ in_hand self next work ∷ []) self next;
        reached = reached_next self nodes _ _ (Did (Finish self next)) reached
            ((λ e. absurd cc), record { by_core = rw held refl; not_spent = rw (same self, pending) (λ e. e) })
            refl (rw (same self, pending, last_without jobs next work below) refl);
      }

any_work : Work
any_work = record { queue = 0; priority = 0; payload = [] }

below_more : (low high : ℕ) (jobs : List Job) → low ≤ high → AreBelow low jobs → AreBelow high jobs
below_more low high jobs le below = each_more (λ (job : Job). job.id < low)
    (λ (job : Job). job.id < high) jobs (λ job h. omega (arith, le, h)) below

-- as many ids are passed over
pass : (self nodes next : ℕ) (jobs : List Job) (many : ℕ) → next + many < 2 ^ 64 → AreBelow next jobs → Filled self nodes next jobs
    → Filled self nodes (next + many) jobs
pass self nodes next jobs zero room below it = subst (λ (k : ℕ). Filled self nodes k jobs) (omega arith) it
pass self nodes next jobs (suc many) room below it =
    let one = finish_job self nodes next it.hand jobs any_work below
    (put_job self nodes next it.hand jobs any_work (omega (arith, room)) it.reached) in
    subst (λ (k : ℕ). Filled self nodes k jobs) (omega arith)
    (pass self nodes (next + 1) jobs many (omega (arith, room)) (below_more next (next + 1) jobs (omega arith) below) one)

pass_to : (self nodes next to : ℕ) (jobs : List Job) → next ≤ to → to < 2 ^ 64 → AreBelow next jobs → Filled self nodes next jobs
    → Filled self nodes to jobs
pass_to self nodes next to jobs le room below it =
    subst (λ (k : ℕ). Filled self nodes k jobs) (omega (arith, le))
    (pass self nodes next jobs (to - next) (omega (arith, le, room)) below it)

pub ids_end : (low : ℕ) (jobs : List Job) (next : ℕ) → IdsRise low jobs next → low ≤ next
ids_end low [] next rise = rise
ids_end low (job ∷ jobs) next rise = omega (arith, rise.0, ids_end (job.id + 1) jobs next rise.1)

put_all : (self nodes low : ℕ) (done jobs : List Job) (next : ℕ) → IdsRise low jobs next → next < 2 ^ 64 → AreBelow low done
    → Filled self nodes low done → Filled self nodes next (done ++ jobs)
put_all self nodes low done [] next rise room below it =
    subst (λ (all : List Job). Filled self nodes next all) (sym (append-nil done)) (pass_to self nodes low next done rise room below it)
put_all self nodes low done (job ∷ jobs) next rise room below it =
    let end = ids_end (job.id + 1) jobs next rise.1 in
    let here = pass_to self nodes low job.id done rise.0 (omega (arith, end, room)) below it in
    let put = put_job self nodes job.id here.hand done job.work (omega (arith, end, room)) here.reached in
    subst (λ (all : List Job). Filled self nodes next all) (append_assoc done (job ∷ []) jobs)
    (put_all self nodes (job.id + 1) (done ++ job ∷ []) jobs next rise.1 room
    (each_append (λ (x : Job). x.id < job.id + 1) done (job ∷ []) (below_more low (job.id + 1) done (omega (arith, rise.0)) below)
    (omega arith, tt))
    (record { hand = here.hand ++ in_hand self job.id job.work ∷ []; reached = put }))

-- ---- counts

-- a node that is down over this file
abbrev fallen : ℕ → ℕ → ℕ → List Job → NodeState
fallen self counter next jobs = at_first self (record { counter = counter; next = next; pending = jobs })

raise : (self nodes counter next : ℕ) (jobs : List Job) → counter + 1 < 2 ^ 64 → Reached self nodes (fallen self counter next jobs)
    → Reached self nodes (fallen self (counter + 1) next jobs)
raise self nodes counter next jobs room reached =
    let up = reached_next self nodes (fallen self counter next jobs) _ (Recovered false) reached (refl, (λ e. absurd cc), room) refl refl in
    reached_next self nodes _ (fallen self (counter + 1) next jobs) Crashed up tt refl refl

raise_by : (self nodes counter next : ℕ) (jobs : List Job) (many : ℕ) → counter + many < 2 ^ 64
    → Reached self nodes (fallen self counter next jobs) → Reached self nodes (fallen self (counter + many) next jobs)
raise_by self nodes counter next jobs zero room reached =
    subst (λ (k : ℕ). Reached self nodes (fallen self k next jobs)) (omega arith) reached
raise_by self nodes counter next jobs (suc many) room reached =
    subst (λ (k : ℕ). Reached self nodes (fallen self k next jobs)) (omega arith)
    (raise_by self nodes (counter + 1) next jobs many (omega (
      arith,
      room,
    )) (raise self nodes counter next jobs (omega (arith, room)) reached))

-- each file that begins above 0 is left by a history
pub file_reached : (self nodes : ℕ) (file : Durable) → IsFormatted file → 0 < file.counter → Reached self nodes (at_first self file)
file_reached self nodes file new above =
    let all = put_all self nodes 0 [] file.pending file.next new.jobs (omega (
      arith,
      new.first,
      new.within,
    )) tt (record { hand = []; reached = opens self nodes }) in
    let fell = reached_next self nodes (filled self all.hand file.next file.pending)
    (fallen self 1 file.next file.pending) Crashed all.reached tt refl refl in
    subst (λ (k : ℕ). Reached self nodes (fallen self k file.next file.pending)) (omega (arith, above))
    (raise_by self nodes 1 file.next file.pending (file.counter - 1) (omega (arith, above, new.within)) fell)
