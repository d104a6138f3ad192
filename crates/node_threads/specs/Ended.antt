-- What is known of a node when its workers have ended.
use Rattle.std.specs.Prelude.{◌≡◌, ℕ, ◌≤◌, List, length, slice_get, Some}
use Rattle.node_lock.specs.declared.run.Run.{Run}
use Rattle.node_lock.specs.declared.worker.Worker.{Worker}
use Rattle.node_lock.specs.HeldView.{HeldView, HeldInvariant}
use Rattle.node_lock.specs.History.{entries_of}
use Rattle.node_lock.specs.Kept.{Log}
use Rattle.node_lock.specs.Planned.{Planned, plan_len, turns_of}
use Rattle.node_lock.specs.Wearing.{HasFailed}
use Rattle.node_threads.specs.declared.size.RunSize.{RunSize}
use Rattle.node_threads.specs.Nodes.{NodeEnds, run_at}

-- all that was true under the lock of this node, and no plan has a turn left
pub record HasEnded (run : Run) (plan : Planned) (log : Log) (ends : NodeEnds) : Type 0 where
  pub view : HeldView
  pub kept : HeldInvariant view
  pub is_run : view.run ≡ run
  pub is_plan : view.plans ≡ plan
  pub is_history : view.history ≡ log.turns
  pub is_lost : view.lost ≡ log.lost
  pub is_numbers : view.numbers ≡ log.numbers
  pub failures : HasFailed (entries_of log.turns) log.failures
  pub is_puts : view.puts ≡ ends.puts
  pub is_takes : view.takes ≡ ends.takes
  pub used_up : (w : Worker) → plan_len view.plans w ≤ turns_of view.turns w

-- each node of the run has ended
pub record AreEnded (size : RunSize) (plans : List Planned) (histories : List Log) (ends : List NodeEnds) : Type 0 where
  pub history_count : length histories ≡ length plans
  pub ends_count : length ends ≡ length plans
  pub each : (n : ℕ) (p : Planned) (h : Log) (e : NodeEnds) → slice_get plans n ≡ Some p → slice_get histories n ≡ Some h
      → slice_get ends n ≡ Some e → HasEnded (run_at size n) p h e
