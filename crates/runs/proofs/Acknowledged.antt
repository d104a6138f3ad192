-- What was acknowledged is in what every later mounting gives.
use Rattle.job_model.specs.declared.work.Work.{Work}
use Rattle.std.proofs.Common.{◌≡◌, ◌≢◌, ℕ, zero, suc, ◌+◌, ◌<◌, ◌≤◌, Bool, true, false, List, [], ◌∷◌, take, slice_get, refl, sym, ◌∙◌, ap}
use Rattle.std.proofs.Common.{subst, inl, inr, arith, Option, Some, None}
use Rattle.std.specs.Prelude.{if◌then◌else◌, ◌==◌, not}
use Rattle.std.proofs.lemmas.Bool.Decides.{nat_tests}
use Rattle.std.proofs.lemmas.Option.{slice_get_within}
use Rattle.job_model.specs.declared.job.Job.{Job}
use Rattle.std.specs.Prelude.{map, fold}
use Rattle.std.specs.List.{items_where_true}
use Rattle.job_model.specs.declared.node_command.NodeCommand.{NodeCommand as Command}
use Rattle.job_model.specs.declared.node_command.NodeCommand.TheVariants.{Raise, Put, Done}
use Rattle.job_model.specs.Durable.{Durable, formatted}
use Rattle.job_model.specs.Fold.{after_command, without_job}
use Rattle.histories.specs.Lists.{IsAmong}
use Rattle.histories.specs.Kept.{Mounting, CommandsKept, stands_after}
use Rattle.histories.specs.declared.attempt.Attempt.{Attempt}
use Rattle.histories.proofs.PublicLaws.{among_left, among_right}
use Rattle.runs.specs.Reporting.{own_mountings}
use Rattle.runs.proofs.Own.{among_mine, of_mine}
use Rattle.runs.proofs.Runs.{at_place, get_among}
use Rattle.runs.specs.Uses.{RaisesAreKept, JobsAreKept, DoubtsApart}

-- the commands that count, by a flag for each
abbrev pub counted : List Bool → List Attempt → List Command
counted counts ts = map (λ (t : Attempt). t.command) (items_where_true counts ts)

-- what stands after the first n commands, where d stood before them
abbrev pub left : Durable → List Bool → List Attempt → ℕ → Durable
left d cs ts n = fold after_command d (counted cs (take n ts))

counted_none : (cs : List Bool) → counted cs [] ≡ []
counted_none [] = refl
counted_none (true ∷ cs) = refl
counted_none (false ∷ cs) = refl

counter_grows : (d : Durable) (cs : List Command) → d.counter ≤ (fold after_command d cs).counter
counter_grows d [] = omega arith
counter_grows d (Raise ∷ cs) = omega (arith, counter_grows (after_command d Raise) cs)
counter_grows d (Put work ∷ cs) = counter_grows (after_command d (Put work)) cs
counter_grows d (Done id ∷ cs) = counter_grows (after_command d (Done id)) cs

raise_kept : (d : Durable) (cs : List Bool) (ts : List Attempt) (k n count : ℕ) (a : Option ℕ) → slice_get cs k ≡ Some true
    → slice_get ts k ≡ Some (record { command = Raise; acked = a })
    → k < n → count ≡ (left d cs ts k).counter + 1 → count ≤ (left d cs ts n).counter
raise_kept d [] ts k n count a counts at lt is = absurd cc
raise_kept d (c ∷ cs) [] k n count a counts at lt is = absurd cc
raise_kept d (c ∷ cs) (t ∷ ts) k zero count a counts at lt is = absurd (let bad : k < 0 = lt in omega (arith, bad))
raise_kept d (true ∷ cs) (t ∷ ts) zero (suc n) count a counts at lt is =
    let it : t.command ≡ Raise = ap (λ (x : Attempt). x.command) (let e : t ≡ record { command = Raise; acked = a } = cc at in e) in
    rw it (omega (arith, is, counter_grows (after_command d Raise) (counted cs (take n ts))))
raise_kept d (false ∷ cs) (t ∷ ts) zero (suc n) count a counts at lt is = absurd cc
raise_kept d (true ∷ cs) (t ∷ ts) (suc k) (suc n) count a counts at lt is =
    raise_kept (after_command d t.command) cs ts k n count a counts at (omega (arith, lt)) is
raise_kept d (false ∷ cs) (t ∷ ts) (suc k) (suc n) count a counts at lt is = raise_kept d cs ts k n count a counts at (omega (arith, lt)) is

-- a job stays while no Done of it comes
stays_left : (job : Job) (jobs : List Job) (id : ℕ) → job.id ≢ id → IsAmong job jobs → IsAmong job (without_job jobs id)
stays_left job [] id ne i = absurd i
stays_left job (x ∷ jobs) id ne i = pick (x.id == id) refl i (λ j. stays_left job jobs id ne j)
  where
    pick : (b : Bool) → (x.id == id) ≡ b → IsAmong job (x ∷ jobs) → (IsAmong job jobs → IsAmong job (without_job jobs id))
        → IsAmong job (if not b then x ∷ without_job jobs id else without_job jobs id)
    pick true is i rest = elim i [
      | inl e ↦ (let same : x.id ≡ id = grind (arith, nat_tests) in absurd (ne (ap (λ (y : Job). y.id) e ∙ same)))
      | inr j ↦ rest j
    ]
    pick false is i rest = elim i [ inl e ↦ inl e | inr j ↦ inr (rest j) ]

stays_after : (job : Job) (d : Durable) (c : Command) → (c ≡ Done job.id → ⊥) → IsAmong job d.pending
    → IsAmong job (after_command d c).pending
stays_after job d Raise free i = i
stays_after job d (Put work) free i = among_left job d.pending _ i
stays_after job d (Done id) free i = stays_left job d.pending id (λ e. free (ap Done (sym e))) i

-- none of these commands takes the job out
abbrev NoDone : ℕ → List Attempt → ℕ → Type 0
NoDone id ts n = (j : ℕ) (t : Attempt) → j < n → slice_get ts j ≡ Some t → t.command ≡ Done id → ⊥

job_stays : (job : Job) (d : Durable) (cs : List Bool) (ts : List Attempt) (n : ℕ) → NoDone job.id ts n → IsAmong job d.pending
    → IsAmong job (left d cs ts n).pending
job_stays job d cs ts zero free i = rw (counted_none cs) i
job_stays job d cs [] (suc n) free i = rw (counted_none cs) i
job_stays job d [] (t ∷ ts) (suc n) free i = i
job_stays job d (true ∷ cs) (t ∷ ts) (suc n) free i =
    job_stays job (after_command d t.command) cs ts n (λ j u lt at. free (suc j) u (omega (arith, lt)) at)
    (stays_after job d t.command (free 0 t (omega arith) refl) i)
job_stays job d (false ∷ cs) (t ∷ ts) (suc n) free i = job_stays job d cs ts n (λ j u lt at. free (suc j) u (omega (arith, lt)) at) i

job_kept : (id : ℕ) (work : Work) (d : Durable) (cs : List Bool) (ts : List Attempt) (k n : ℕ) (a : Option ℕ) → slice_get cs k ≡ Some true
    → slice_get ts k ≡ Some (record { command = Put work; acked = a }) → k < n → id ≡ (left d cs ts k).next
    → ((j : ℕ) (t : Attempt) → k < j → j < n → slice_get ts j ≡ Some t → t.command ≡ Done id → ⊥)
    → IsAmong (record { id = id; work = work }) (left d cs ts n).pending
job_kept id work d [] ts k n a counts at lt is free = absurd cc
job_kept id work d (c ∷ cs) [] k n a counts at lt is free = absurd cc
job_kept id work d (c ∷ cs) (t ∷ ts) k zero a counts at lt is free = absurd (let bad : k < 0 = lt in omega (arith, bad))
job_kept id work d (true ∷ cs) (t ∷ ts) zero (suc n) a counts at lt is free =
    let it : t.command ≡ Put work = ap (λ (x : Attempt). x.command) (let e : t ≡ record { command = Put work; acked = a } = cc at in e) in
    let job : Job = record { id = id; work = work } in
    let here : IsAmong job (after_command d (Put work)).pending = rw is (among_right _ d.pending _ (inl refl)) in
    rw it (job_stays job (after_command d (Put work)) cs ts n (λ j u lt' at'. free (suc j) u (omega arith) (omega (arith, lt')) at') here)
job_kept id work d (false ∷ cs) (t ∷ ts) zero (suc n) a counts at lt is free = absurd cc
job_kept id work d (true ∷ cs) (t ∷ ts) (suc k) (suc n) a counts at lt is free =
    job_kept id work (after_command d t.command) cs ts k n a counts at (omega (
      arith,
      lt,
    )) is (λ j u more less at'. free (suc j) u (omega (arith, more)) (omega (arith, less)) at')
job_kept id work d (false ∷ cs) (t ∷ ts) (suc k) (suc n) a counts at lt is free =
    job_kept id work d cs ts k n a counts at (omega (arith, lt)) is (λ j u more less at'.
    free (suc j) u (omega (arith, more)) (omega (arith, less)) at')

-- a command that was acknowledged counts
pub acknowledged_counts : (commands : List Attempt) (mountings : List Mounting) (kept : CommandsKept commands mountings) (k a : ℕ)
    (t : Attempt) → slice_get commands k ≡ Some t → t.acked ≡ Some a
    → slice_get kept.counts k ≡ Some true
acknowledged_counts commands mountings kept k a t at acked =
    let flag : (b : Bool) × (slice_get kept.counts k ≡ Some b) =
    at_place kept.counts k (rw kept.as_many (slice_get_within commands k t at)) in
    by_flag flag.0 flag.1
  where
    by_flag : (b : Bool) → slice_get kept.counts k ≡ Some b → slice_get kept.counts k ≡ Some true
    by_flag true is = is
    by_flag false is = (let none : t.acked ≡ None = kept.only_unacknowledged k t is at in absurd cc (none, acked))

pub among_at : {A : Type 0} (x : A) (xs : List A) → IsAmong x xs → (k : ℕ) × (slice_get xs k ≡ Some x)
among_at x [] i = absurd i
among_at x (y ∷ xs) i = elim i [ inl e ↦ (0, ap Some (sym e)) | inr j ↦ (let it = among_at x xs j in (suc it.0, it.1)) ]

mounted_state : (commands : List Attempt) (mountings : List Mounting) (kept : CommandsKept commands mountings) (w : Mounting)
    → IsAmong w mountings → w.state ≡ stands_after kept.counts commands w.before
mounted_state commands mountings kept w i = (let it = among_at w mountings i in (kept.mounted it.0 w it.1).1)

-- the mountings of a node
pub mine : (n : ℕ) (w : Mounting) (ws : List (ℕ × Mounting)) → IsAmong (n, w) ws → IsAmong w (own_mountings n ws)
mine n w ws i = among_mine (λ (x : ℕ × Mounting). x.0) (λ (x : ℕ × Mounting). x.1) n (n, w) ws refl i

pub raises_are_kept : RaisesAreKept
raises_are_kept nodes after r h n w i lt k count at later =
    let kept = h.kept n lt in
    rw (mounted_state _ _ kept w (mine n w r.mounted i))
    (raise_kept formatted kept.counts _ k w.before count (Some count) (acknowledged_counts _ _ kept k count _ at refl) at later
    (kept.answered k _ count at refl))

pub jobs_are_kept : JobsAreKept
jobs_are_kept nodes after r h n w i lt k id work at later free =
    let kept = h.kept n lt in
    rw (mounted_state _ _ kept w (mine n w r.mounted i))
    (job_kept id work formatted kept.counts _ k w.before (Some id) (acknowledged_counts _ _ kept k id _ at refl) at later
    (kept.answered k _ id at refl) free)

pub doubts_apart : DoubtsApart
doubts_apart nodes after r h n lt j k t u before at none later =
    elim ((h.kept n lt).last_of_life j t at none) [
      | inl end ↦ absurd (omega (arith, end, before, slice_get_within _ k u later))
      | inr it ↦ (let w = of_mine (λ (x : ℕ × Mounting). x.0) (λ (x : ℕ × Mounting). x.1) n it.1 r.mounted (get_among _ it.0 it.1 it.2) in
          let place : w.0.1.before ≡ j + 1 = ap (λ (x : Mounting). x.before) w.3 ∙ it.3 in
          let there : IsAmong (n, w.0.1) r.mounted = subst (λ (k : ℕ). IsAmong (k, w.0.1) r.mounted) w.2 w.1 in
          (w.0.1, there, omega (arith, place), omega (arith, place, before)))
    ]
