-- When something is due next.
use Rattle.std.proofs.Common.{◌≡◌, ◌≤◌, ◌<◌, ◌-◌, ◌+◌, ◌^◌, ◌⊎◌, ℕ, Bool, true, false, Option, Some, None, inl, inr, sym, ap, ◌∙◌, subst}
use Rattle.std.proofs.Common.{arith, min}
use Rattle.std.specs.Prelude.{if◌then◌else◌, IfSome}
use Rattle.std.proofs.lemmas.Bool.{cases_lt}
use Rattle.node_core.specs.declared.phase.Phase.TheVariants.{Normal}
use Rattle.node_timers.specs.declared.deadline.Deadline.{Deadline}
use Rattle.node_timers.specs.declared.snapshot.NodeSnapshot.{NodeSnapshot}
use Rattle.node_timers.specs.Timers.{lasts, later}
use Rattle.node_timers.specs.Policy.{Policy, IsDue, Runs, later_deadline, may_dispatch, passed, since, work_left}

-- what is waited for of the time from the last one that was told to this one
abbrev waited : Policy → ℕ → ℕ
waited p now = since now p.told - p.skip

the_same : (d e : Deadline) → Some d ≡ Some e → d ≡ e
the_same d e is = cc

-- once its time is over, it has come
timer_due : (long was more : ℕ) → long ≤ 2 ^ 64 - 1 → long - was ≤ more → long ≤ min (was + more) (2 ^ 64 - 1)
timer_due long was more fits come = omega (arith, fits, come)

lasts_fits : (p : Policy) (s : NodeSnapshot) (d : Deadline) → lasts p.setting p.raise s.merge_wait d ≤ 2 ^ 64 - 1
lasts_fits p s d = omega arith

timer_so : (p : Policy) (s : NodeSnapshot) (d : Deadline) (next : ℕ) → Runs p s d
    → lasts p.setting p.raise s.merge_wait d - d.waited ≤ waited p next → IsDue (passed next p) s
timer_so p s d next runs come =
    let more = waited p next in
    inl (
      later more d,
      record {
        runs = record { is_set = ap (later_deadline more) runs.is_set; wait = runs.wait; group = runs.group };
        come = timer_due (lasts p.setting p.raise s.merge_wait d) d.waited more (lasts_fits p s d) come;
      },
    )

work_by : (b : Bool) (pause was more long : ℕ) → pause < 2 ^ 64 → long ≤ 2 ^ 64 - 1
    → min long (if b then pause - was else 2 ^ 64 - 1) ≤ more
    → (long ≤ more) ⊎ ((if b then pause - min (was + more) (2 ^ 64 - 1) else 2 ^ 64 - 1) ≡ 0)
work_by true pause was more long fits most come = by_order (cases_lt more long) where
  by_order : (more < long) ⊎ (long ≤ more) → (long ≤ more) ⊎ (pause - min (was + more) (2 ^ 64 - 1) ≡ 0)
  by_order (inl less) = inr (omega (arith, less, come, fits))
  by_order (inr over) = inl over
work_by false pause was more long fits most come = inl (omega (arith, most, come))

by_work : (p : Policy) (s : NodeSnapshot) (d : Deadline) (next : ℕ) → Runs p s d → s.phase ≡ Normal
    → (lasts p.setting p.raise s.merge_wait d - d.waited ≤ waited p next) ⊎ (work_left (passed next p) s ≡ 0) → IsDue (passed next p) s
by_work p s d next runs normal (inl come) = timer_so p s d next runs come
by_work p s d next runs normal (inr none) = inr (normal, none)

work_so : (p : Policy) (s : NodeSnapshot) (d : Deadline) (next : ℕ) → p.pause < 2 ^ 64 → Runs p s d → s.phase ≡ Normal
    → min (lasts p.setting p.raise s.merge_wait d - d.waited) (work_left p s) ≤ waited p next → IsDue (passed next p) s
work_so p s d next fits runs normal come =
    by_work p s d next runs normal
    (work_by (may_dispatch p s) p.pause p.rested (waited p next) (lasts p.setting p.raise s.merge_wait d - d.waited) fits
    (let most = lasts_fits p s d in omega (arith, most)) come)

-- the deadline that runs is the one that is set
its_own : (p : Policy) (s : NodeSnapshot) (d e : Deadline) → p.deadline ≡ Some d → Runs p s e → Runs p s d
its_own p s d e is runs = subst (λ (x : Deadline). Runs p s x) (the_same e d (sym runs.is_set ∙ is)) runs

pub timer_fires : (p : Policy) (s : NodeSnapshot) (d e : Deadline) (next timer left : ℕ) → p.deadline ≡ Some d
    → timer ≡ lasts p.setting p.raise s.merge_wait d - d.waited → left ≡ timer
    → left ≤ waited p next → Runs p s e → IsDue (passed next p) s
timer_fires p s d e next timer left is long same come runs =
    timer_so p s d next (its_own p s d e is runs) (subst (λ (n : ℕ). n ≤ waited p next) (same ∙ long) come)

pub work_fires : (p : Policy) (s : NodeSnapshot) (d e : Deadline) (next timer work left : ℕ) → p.pause < 2 ^ 64 → s.phase ≡ Normal
    → p.deadline ≡ Some d
    → timer ≡ lasts p.setting p.raise s.merge_wait d - d.waited → work ≡ work_left p s → left ≡ min timer work → left ≤ waited p next
    → Runs p s e → IsDue (passed next p) s
work_fires p s d e next timer work left fits normal is long rests same come runs =
    work_so p s d next fits (its_own p s d e is runs) normal
    (subst (λ (n : ℕ). n ≤ waited p next) (same ∙ (ap (λ (n : ℕ). min n work) long
    ∙ ap (λ (n : ℕ). min (lasts p.setting p.raise s.merge_wait d - d.waited) n) rests)) come)

pub some_more : {T : Type 0} (o : Option T) (P Q : T → Type 0) → ((x : T) → P x → Q x) → IfSome o P → IfSome o Q
some_more None P Q f h = tt
some_more (Some x) P Q f h = f x h
