-- What follows of a policy.
use Rattle.std.specs.Prelude.{ℕ, ◌≡◌, ◌≤◌, ◌*◌, min, Bool, length, Option, Some}
use Rattle.group_task.specs.Group.{Group}
use Rattle.node_core.specs.declared.event.Event.TheVariants as on
use Rattle.node_core.specs.declared.timer.Timer.TheVariants as timer
use Rattle.node_timers.specs.declared.timer_settings.TimerSettings.{TimerSettings}
use Rattle.node_timers.specs.declared.wait.Wait.{Wait}
use Rattle.node_timers.specs.declared.deadline.Deadline.{Deadline}
use Rattle.node_timers.specs.declared.snapshot.NodeSnapshot.{NodeSnapshot}
use Rattle.node_timers.specs.Timers.{IsSet, first_pause, jitter_of, later, least_of, measured, most_pause, put_off, raise_of}
use Rattle.node_timers.specs.Retransmission.{Waits, sent_again}
use Rattle.node_timers.specs.Policy.{Policy, HasCome, IsWorkDue, Dispatches, IsWithin, passed}

-- a deadline that is set now has not come, whatever is seen
abbrev pub TimerFiresOnce : Type 0
TimerFiresOnce = (p : Policy) (s : NodeSnapshot) (setting : TimerSettings) (soon : Option Bool) (settled : Bool) (raise slowest jitter : ℕ)
    (wait : Wait) (group : Group) (d : Deadline) →
    IsSet soon setting settled raise slowest jitter wait group d → HasCome p s d → ⊥

-- work that was dispatched now is not due, whatever is seen
abbrev pub WorkFiresOnce : Type 0
WorkFiresOnce = (old new : Policy) (s seen : NodeSnapshot) → Dispatches (Some (on.Timer timer.Dispatch)) s old new → IsWorkDue new seen → ⊥

-- the same time told once more changes nothing
abbrev pub TimeStands : Type 0
TimeStands = (p : Policy) (now : ℕ) → passed now (passed now p) ≡ passed now p

-- a clock that falls back to any time moves what is waited for: nothing is nearer or further than it was
abbrev pub FallsBack : Type 0
FallsBack = (p : Policy) (told now : ℕ) → IsWithin p → p.told ≡ Some told → now ≤ told → passed now p ≡ record p { told = Some now }

-- a merge that was put off isn't put off again, however much of it is over
abbrev pub PutOffOnce : Type 0
PutOffOnce = (d : Deadline) (waited : ℕ) → put_off (later waited (put_off d)) ≡ later waited (put_off d)

-- with a round trip of so many milliseconds each wait is so many times what it is with one of a millisecond
pub record Scales (unit : ℕ) : Type 0 where
  pub least : (settled : Bool) (wait : Wait) → least_of (measured unit) settled wait ≡ unit * least_of (measured 1) settled wait
  pub jitter : (settled : Bool) (wait : Wait) → jitter_of (measured unit) settled wait ≡ unit * jitter_of (measured 1) settled wait
  pub turn : (measured unit).turn * (measured unit).unit ≡ unit * (measured 1).turn
  pub raise : (ms : ℕ) → raise_of (measured unit) ms ≡ min ms (unit * (measured 1).raise_most)
  pub first : (jobs : ℕ) → first_pause (measured unit) (20 * jobs) ≡ unit * first_pause (measured 1) (20 * jobs)
  pub most : most_pause (measured unit) ≡ unit * most_pause (measured 1)

abbrev pub WaitsScale : Type 0
WaitsScale = (unit : ℕ) → 1 ≤ unit → Scales unit

-- at most 16 messages are sent again at one time
abbrev pub AtMostAtOnce : Type 0
AtMostAtOnce = (now : ℕ) (w : Waits) → length (sent_again now w) ≤ 16
