-- What the mountings of a node give: the fold of its commands, but for some that weren't acknowledged.
use Rattle.std.specs.Prelude.{ℕ, ◌+◌, ◌≤◌, ◌≡◌, ◌≢◌, ◌⊎◌, Bool, false, List, [], ◌∷◌, length, take, slice_get, map, fold, Some, None}
use Rattle.std.specs.List.{items_where_true}
use Rattle.job_model.specs.declared.node_command.NodeCommand.TheVariants.{Raise}
use Rattle.job_model.specs.Durable.{Durable, formatted}
use Rattle.job_model.specs.Fold.{after_command}
use Rattle.job_model.specs.Answer.{answer_of}
use Rattle.histories.specs.declared.attempt.Attempt.{Attempt}

-- what was mounted: so many commands came before it
pub record Mounting : Type 0 where
  pub before : ℕ
  pub state : Durable

-- the fold of the first n commands, but for those that don't count
abbrev pub stands_after : List Bool → List Attempt → ℕ → Durable
stands_after counts commands n = fold after_command formatted (map (λ (t : Attempt). t.command) (items_where_true counts (take n commands)))

-- the commands and mountings of a node are kept: one choice of the commands that count serves all mountings and all
-- answers. A life runs from one mounting to the next
pub record CommandsKept (commands : List Attempt) (mountings : List Mounting) : Type 0 where
  -- whether each command counts
  pub counts : List Bool
  pub as_many : length counts ≡ length commands
  -- a command that doesn't count wasn't acknowledged
  pub only_unacknowledged : (k : ℕ) (t : Attempt) → slice_get counts k ≡ Some false → slice_get commands k ≡ Some t → t.acked ≡ None
  -- a command that wasn't acknowledged is the last of its life: no other follows, or a mounting comes between
  pub last_of_life : (k : ℕ) (t : Attempt) → slice_get commands k ≡ Some t → t.acked ≡ None →
      (k + 1 ≡ length commands) ⊎ ((j : ℕ) × (w : Mounting) × (slice_get mountings j ≡ Some w) × (w.before ≡ k + 1))
  -- each mounting gives the fold of the commands before it
  pub mounted : (j : ℕ) (w : Mounting) → slice_get mountings j ≡ Some w →
      (w.before ≤ length commands) × (w.state ≡ stands_after counts commands w.before)
  -- each answer is the one that the fold gives at its place: the count, the new id, or the id that is done
  pub answered : (k : ℕ) (t : Attempt) (a : ℕ) → slice_get commands k ≡ Some t → t.acked ≡ Some a →
      a ≡ answer_of (stands_after counts commands k) t.command

-- a command in doubt can't count at one mounting and not at the next
abbrev pub CountsOnce : Type 0
CountsOnce = (j k : ℕ) → j ≢ k →
    CommandsKept (record { command = Raise; acked = None } ∷ [])
    (record { before = 1; state = record { counter = j; next = 0; pending = [] } }
    ∷ record { before = 1; state = record { counter = k; next = 0; pending = [] } } ∷ []) → ⊥
