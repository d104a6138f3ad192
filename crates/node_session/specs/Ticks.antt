-- What one look at the policy of timers does, said as exactly as `TimerPolicy::tick` says it, and when something is due next.
use Rattle.std.specs.Prelude.{ℕ, ◌≡◌, ◌≢◌, ◌<◌, ◌≤◌, ◌-◌, ◌^◌, ◌⊎◌, [], IfSome, Option, Some, None, is_some, true}
use Rattle.node_core.specs.declared.event.Event.{Event}
use Rattle.node_core.specs.declared.event.Event.TheVariants as on
use Rattle.node_timers.specs.declared.wait.Wait.{Wait}
use Rattle.node_timers.specs.declared.deadline.Deadline.{Deadline}
use Rattle.node_timers.specs.declared.snapshot.NodeSnapshot.{NodeSnapshot}
use Rattle.node_timers.specs.Timers.{wait_of}
use Rattle.node_timers.specs.Policy.{Policy, Counts, Dispatches, HasCome, IsDue, IsWorkDue, MayFire, MovesDeadline, Prompts, SetsDeadline}
use Rattle.node_timers.specs.Policy.{Runs, event_at, passed}
use Rattle.node_timers.specs.Retransmission.{Waits, has_come, sent_again}

-- all that is said of a tick that answered this
pub record Ticks (s : NodeSnapshot) (old : Policy) (fired : Option Event) (new : Policy) : Type 0 where
  -- what has come is fired, and nothing else but work that is due
  pub timer : (d : Deadline) → HasCome old s d → fired ≡ Some (event_at old s d.wait)
  pub work : IsWorkDue old s → is_some fired ≡ true
  pub not_early : IfSome fired (MayFire old s)
  pub down : wait_of s ≡ None → (fired ≡ None) × (new ≡ old)
  pub moves : MovesDeadline s old new
  pub sets : SetsDeadline s old new
  pub prompts : Prompts fired s old new
  pub checks : Counts fired old new
  pub dispatches : Dispatches fired s old new
  pub kept : new ≡ record old {
    random = new.random;
    deadline = new.deadline;
    settled = new.settled;
    checks = new.checks;
    oldest = new.oldest;
    rested = new.rested;
    pause = new.pause;
    soon = new.soon;
    asked = new.asked;
    slowest = new.slowest;
    prompted = new.prompted;
  }

-- at a node that stays as it is seen, where it is so late now, something is due next at this time; 2^64 - 1 stands also for never
pub record IsNext (now : ℕ) (p : Policy) (w : Waits) (s : NodeSnapshot) (next : ℕ) : Type 0 where
  -- before it no timer fires and nothing is sent again
  pub quiet : (later : ℕ) → later < next → (event : Event) → MayFire (passed later p) s event → ⊥
  pub silent : (later : ℕ) → now ≤ later → later < next → sent_again later w ≡ []
  -- at it a wait is over or work is due, or what is waited for is looked through
  pub fires : (d : Deadline) → Runs p s d → is_some p.told ≡ true → next < 2 ^ 64 - 1 → IsDue (passed next p) s ⊎ (has_come next w ≡ true)
  -- it is due at once where no deadline runs yet
  pub at_once : ((d : Deadline) → Runs p s d → ⊥) → is_some (wait_of s) ≡ true → next ≡ 0
