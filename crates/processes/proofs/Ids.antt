-- Ids of jobs are new, so a job that is done stays done.
use Rattle.std.proofs.Common.{◌≡◌, ◌≢◌, ◌⊎◌, ℕ, zero, suc, ◌+◌, ◌<◌, ◌≤◌, Bool, true, false, not, List, [], ◌∷◌, ◌++◌, length, slice_get}
use Rattle.std.proofs.Common.{refl, sym, subst, inl, inr, arith, Option, Some, None}
use Rattle.std.specs.Prelude.{◌==◌}
use Rattle.std.proofs.lemmas.Bool.{cases_Bool, cond_both, or_cases}
use Rattle.std.proofs.lemmas.Bool.Decides.{nat_tests}
use Rattle.job_model.specs.declared.job.Job.{Job}
use Rattle.job_model.specs.declared.node_command.NodeCommand.{NodeCommand as Command}
use Rattle.job_model.specs.declared.node_command.NodeCommand.TheVariants.{Raise, Put, Done}
use Rattle.job_model.specs.Durable.{Durable}
use Rattle.job_model.specs.Fold.{after_command, after_wanted, is_pending, without_job}
use Rattle.histories.specs.Lists.{Each}
use Rattle.histories.specs.NodeState.{NodeState, settled, wants_at}
use Rattle.histories.specs.declared.history_event.HistoryEvent.{HistoryEvent}
use Rattle.histories.specs.declared.history_event.HistoryEvent.TheVariants.{Did, Recovered, RaiseFailed, RaiseRefused}
use Rattle.histories.specs.HistoryEvent.{Entry}
use Rattle.histories.specs.After.{after, mounted_at}
use Rattle.histories.specs.History.{replay}
use Rattle.histories.proofs.PublicLaws.{each_append, each_at, each_more, eq_nat, wanted_pending}
use Rattle.processes.specs.Files.{IdsRise, at_first}
use Rattle.processes.specs.Jobs.{CommandsAreWhole, DoneStaysDone, IdsAreNew, IsWhole, earlier, id_at, id_by, ids_given}
use Rattle.processes.proofs.Jobs.{replay_both}
use Rattle.processes.proofs.Prelude.{ids_end}

-- ---- what commands keep of a journal

-- a property of journals that no command breaks
record IsStable (P : Durable → Type 0) : Type 0 where
  stable : (d : Durable) (wants : Option Command) → P d → P (after_wanted d wants)

entry_stable : (P : Durable → Type 0) → IsStable P → (self nodes : ℕ) (s : NodeState) (what : HistoryEvent) → P s.durable
    → P (after self nodes s what).durable
entry_stable P is self nodes s (Did event) h = is.stable s.durable (wants_at self nodes s event) h
entry_stable P is self nodes s (Recovered kept) h = is.stable (settled kept s) (Some Raise) (settled_stable kept)
  where
    settled_stable : (b : Bool) → P (settled b s)
    settled_stable true = is.stable s.durable s.doubt h
    settled_stable false = h
entry_stable P is self nodes s (RaiseFailed true) h = is.stable s.durable s.doubt h
entry_stable P is self nodes s (RaiseFailed false) h = h
entry_stable P is self nodes s what h = h

stays : (P : Durable → Type 0) → IsStable P → (self nodes : ℕ) (s : NodeState) (es : List Entry) → P s.durable
    → P (replay self nodes s es).durable
stays P is self nodes s [] h = h
stays P is self nodes s (e ∷ es) h = stays P is self nodes (after self nodes s e.what) es (entry_stable P is self nodes s e.what h)

each_without : (Q : Job → Type 0) (jobs : List Job) (id : ℕ) → Each Q jobs → Each Q (without_job jobs id)
each_without Q [] id h = tt
each_without Q (job ∷ jobs) id h =
    let rest = each_without Q jobs id h.1 in cond_both (not (job.id == id)) _ _ (Each Q) (λ _. (h.0, rest)) (λ _. rest)

-- the jobs have ids below the next one
abbrev AreBelow : Durable → Type 0
AreBelow d = Each (λ (job : Job). job.id < d.next) d.pending

below_stable : IsStable AreBelow
below_stable = record { stable = by_command } where
  by_command : (d : Durable) (wants : Option Command) → AreBelow d → AreBelow (after_wanted d wants)
  by_command d None h = h
  by_command d (Some Raise) h = h
  by_command d (Some (Put work)) h =
      each_append (λ (job : Job). job.id < d.next + 1) d.pending (record { id = d.next; work = work } ∷ [])
      (each_more (λ (job : Job). job.id < d.next) (λ (job : Job). job.id < d.next + 1) d.pending (λ job k. omega (arith, k)) h)
      (omega arith, tt)
  by_command d (Some (Done id)) h = each_without (λ (job : Job). job.id < d.next) d.pending id h

-- an id that was given, and is no job's
abbrev IsGone : ℕ → Durable → Type 0
IsGone id d = (id < d.next) × Each (λ (job : Job). job.id ≢ id) d.pending

gone_stable : (id : ℕ) → IsStable (IsGone id)
gone_stable id = record { stable = by_command } where
  by_command : (d : Durable) (wants : Option Command) → IsGone id d → IsGone id (after_wanted d wants)
  by_command d None h = h
  by_command d (Some Raise) h = h
  by_command d (Some (Put work)) h = (
    omega (arith, h.0),
    each_append (λ (job : Job). job.id ≢ id) d.pending (record { id = d.next; work = work } ∷ []) h.1
        ((λ e. absurd (omega (arith, h.0, e))), tt),
  )
  by_command d (Some (Done other)) h = (h.0, each_without (λ (job : Job). job.id ≢ id) d.pending other h.1)

-- ---- a job that is done

none_left : (jobs : List Job) (id : ℕ) → Each (λ (job : Job). job.id ≢ id) (without_job jobs id)
none_left [] id = tt
none_left (job ∷ jobs) id = elim (cases_Bool (job.id == id)) [
  | inl is ↦ rw is (none_left jobs id)
  | inr is ↦ rw is ((λ e. (let bad : false ≡ true = grind (arith, nat_tests) in cc)), none_left jobs id)
]

pending_below : (limit : ℕ) (jobs : List Job) (id : ℕ) → Each (λ (job : Job). job.id < limit) jobs → is_pending jobs id ≡ true → id < limit
pending_below limit [] id below is = absurd cc
pending_below limit (job ∷ jobs) id below is = elim (or_cases (job.id == id) (is_pending jobs id) is) [
  | inl same ↦ omega (arith, below.0, eq_nat job.id id same)
  | inr found ↦ pending_below limit jobs id below.1 found
]

file_below : (low : ℕ) (jobs : List Job) (next : ℕ) → IdsRise low jobs next → Each (λ (job : Job). job.id < next) jobs
file_below low [] next rise = tt
file_below low (job ∷ jobs) next rise = (omega (arith, ids_end (job.id + 1) jobs next rise.1), file_below (job.id + 1) jobs next rise.1)

pub done_stays_done : DoneStaysDone
done_stays_done cluster over n two event sent es is id wants job i =
    let nodes = length cluster in
    let s = at_first n two.node.file in
    let before = replay n nodes s two.first in
    let below : AreBelow before.durable = stays AreBelow below_stable n nodes s two.first
    (file_below 0 two.node.file.pending two.node.file.next (over.files n two.node two.at).jobs) in
    let given = pending_below before.durable.next before.durable.pending id below
    (wanted_pending n before.durable.pending event before.state id wants) in
    let gone : IsGone id (after n nodes before (Did event)).durable = rw wants (given, none_left before.durable.pending id) in
    let behind : IsGone id (replay n nodes before two.more).durable =
    rw is (stays (IsGone id) (gone_stable id) n nodes (after n nodes before (Did event)) es gone) in
    let all : IsGone id (replay n nodes s (two.first ++ two.more)).durable =
    subst (λ (x : NodeState). IsGone id x.durable) (sym (replay_both n nodes s two.first two.more)) behind in
    each_at (λ (x : Job). x.id ≢ id) (replay n nodes s (two.first ++ two.more)).durable.pending job all.1 i

-- ---- ids that are given

abbrev RiseFrom : ℕ → List ℕ → Type 0
RiseFrom low [] = Unit {0}
RiseFrom low (id ∷ ids) = (low ≤ id) × RiseFrom (id + 1) ids

next_more : (d : Durable) (wants : Option Command) → d.next ≤ (after_wanted d wants).next
next_more d None = omega arith
next_more d (Some Raise) = omega arith
next_more d (Some (Put work)) = omega arith
next_more d (Some (Done id)) = omega arith

lower : (low high : ℕ) (ids : List ℕ) → low ≤ high → RiseFrom high ids → RiseFrom low ids
lower low high [] le h = tt
lower low high (id ∷ ids) le h = (omega (arith, le, h.0), h.1)

wanted_rises : (d : Durable) (wants : Option Command) (rest : List ℕ) → RiseFrom (after_wanted d wants).next rest
    → RiseFrom d.next (id_by d wants ++ rest)
wanted_rises d None rest h = h
wanted_rises d (Some Raise) rest h = h
wanted_rises d (Some (Put work)) rest h = (omega arith, h)
wanted_rises d (Some (Done id)) rest h = h

settled_more : (kept : Bool) (s : NodeState) → s.durable.next ≤ (settled kept s).next
settled_more true s = next_more s.durable s.doubt
settled_more false s = omega arith

entry_rises : (self nodes : ℕ) (s : NodeState) (what : HistoryEvent) (rest : List ℕ) → RiseFrom (after self nodes s what).durable.next rest
    → RiseFrom s.durable.next (id_at self nodes s what ++ rest)
entry_rises self nodes s (Did event) rest h = wanted_rises s.durable (wants_at self nodes s event) rest h
entry_rises self nodes s (Recovered kept) rest h = lower s.durable.next (settled kept s).next rest (settled_more kept s) h
entry_rises self nodes s (RaiseFailed kept) rest h = lower s.durable.next (settled kept s).next rest (settled_more kept s) h
entry_rises self nodes s what rest h = h

all_rise : (self nodes : ℕ) (s : NodeState) (es : List Entry) → RiseFrom s.durable.next (ids_given self nodes s es)
all_rise self nodes s [] = tt
all_rise self nodes s (e ∷ es) = entry_rises self nodes s e.what (ids_given self nodes (after self nodes s e.what) es)
    (all_rise self nodes (after self nodes s e.what) es)

id_above : (low : ℕ) (ids : List ℕ) (i a : ℕ) → RiseFrom low ids → slice_get ids i ≡ Some a → low ≤ a
id_above low [] i a rise at = absurd cc
id_above low (id ∷ ids) zero a rise at = (let same : id ≡ a = cc at in omega (arith, rise.0, same))
id_above low (id ∷ ids) (suc i) a rise at = omega (arith, rise.0, id_above (id + 1) ids i a rise.1 at)

ids_between : (low : ℕ) (ids : List ℕ) (i j a b : ℕ) → RiseFrom low ids → i < j → slice_get ids i ≡ Some a → slice_get ids j ≡ Some b
    → a < b
ids_between low [] i j a b rise lt at_i at_j = absurd cc
ids_between low (id ∷ ids) i zero a b rise lt at_i at_j = absurd (omega (arith, lt))
ids_between low (id ∷ ids) zero (suc j) a b rise lt at_i at_j =
    (let same : id ≡ a = cc at_i in omega (arith, same, id_above (id + 1) ids j b rise.1 at_j))
ids_between low (id ∷ ids) (suc i) (suc j) a b rise lt at_i at_j = ids_between (id + 1) ids i j a b rise.1 (omega (arith, lt)) at_i at_j

pub ids_are_new : IdsAreNew
ids_are_new cluster over n node at i j a b lt at_i at_j =
    let s = at_first n node.file in
    let rise = all_rise n (length cluster) s node.entries in
    (id_above s.durable.next _ i a rise at_i, ids_between s.durable.next _ i j a b rise lt at_i at_j)

-- ---- what a start finds

settled_whole : (d : Durable) (doubt : Option Command) → (after_wanted d doubt ≡ d)
    ⊎ ((command : Command) × (doubt ≡ Some command) × (after_wanted d doubt ≡ after_command d command))
settled_whole d None = inl refl
settled_whole d (Some command) = inr (command, refl, refl)

found_whole : (kept : Bool) (s : NodeState) → (settled kept s ≡ s.durable)
    ⊎ ((command : Command) × (s.doubt ≡ Some command) × (settled kept s ≡ after_command s.durable command))
found_whole true s = settled_whole s.durable s.doubt
found_whole false s = inl refl

pub commands_are_whole : CommandsAreWhole
commands_are_whole cluster over n two what sent es is found mounted = by_what what mounted
  where
    as_found : (what : HistoryEvent) (kept : Bool) → Some (settled kept (earlier cluster n two)) ≡ Some found
        → (((k : Bool) → what ≢ RaiseRefused k) → (after n (length cluster) (earlier cluster n two) what).durable.pending
        ≡ (settled kept (earlier cluster n two)).pending) → IsWhole cluster n two what found
    as_found what kept at goes = (let same : settled kept (earlier cluster n two) ≡ found = cc at in
        subst (IsWhole cluster n two what) same (record { whole = found_whole kept (earlier cluster n two); goes_on = goes }))

    by_what : (what : HistoryEvent) → mounted_at (earlier cluster n two) what ≡ Some found → IsWhole cluster n two what found
    by_what (Recovered kept) at = as_found (Recovered kept) kept at (λ k. refl)
    by_what (RaiseFailed kept) at = as_found (RaiseFailed kept) kept at (λ k. refl)
    by_what (RaiseRefused kept) at = as_found (RaiseRefused kept) kept at (λ k. absurd (k kept refl))
    by_what what at = absurd (let none : None ≡ Some found = at in cc)
