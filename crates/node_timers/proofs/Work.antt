-- How long work rests, and that what is set now isn't over.
use Rattle.std.proofs.Common.{◌≡◌, ◌≤◌, ◌+◌, ◌-◌, ◌^◌, ℕ, Bool, true, false, Option, Some, None, subst, sym, arith, min}
use Rattle.std.specs.Prelude.{if◌then◌else◌}
use Rattle.node_timers.specs.declared.timer_settings.TimerSettings.{TimerSettings}
use Rattle.node_timers.specs.Timers.{first_pause, longer_pause, times, least_at}

first_some : (s : TimerSettings) (pending : ℕ) → 1 ≤ first_pause s pending
first_some s pending = omega arith

longer_some : (s : TimerSettings) (pause : ℕ) → 1 ≤ longer_pause s pause
longer_some s pause = omega arith

pause_by : (b : Bool) (s : TimerSettings) (pending pause : ℕ) → 1 ≤ (if b then first_pause s pending else longer_pause s pause)
pause_by true s pending pause = first_some s pending
pause_by false s pending pause = longer_some s pause

left_by : (b : Bool) (pause rested : ℕ) → (if b then pause - rested else 2 ^ 64 - 1) ≡ 0 → rested ≡ 0 → 1 ≤ pause → ⊥
left_by true pause rested none now some = omega (arith, none, now, some)
left_by false pause rested none now some = absurd cc

-- work that begins to rest isn't due
pub rests_first : (b c : Bool) (s : TimerSettings) (pending was pause rested : ℕ) → (if b then pause - rested else 2 ^ 64 - 1) ≡ 0
    → rested ≡ 0
    → pause ≡ (if c then first_pause s pending else longer_pause s was) → ⊥
rests_first b c s pending was pause rested none now is =
    left_by b pause rested none now (subst (λ (n : ℕ). 1 ≤ n) (sym is) (pause_by c s pending was))

-- a wait of a millisecond at least isn't over where none of it is
pub not_over : (twice : Bool) (length more waited : ℕ) → 1 ≤ length → waited ≡ 0 → min (times twice (length + more)) (2 ^ 64 - 1) ≤ waited
    → ⊥
not_over true length more waited some none over = omega (arith, some, none, over)
not_over false length more waited some none over = omega (arith, some, none, over)

-- a check that comes soon is no more over than another wait
pub some_at : (soon : Option Bool) (s : TimerSettings) (least : ℕ) → 1 ≤ least → 1 ≤ least_at soon s least
some_at None s least some = some
some_at (Some true) s least some = omega arith
some_at (Some false) s least some = omega arith
