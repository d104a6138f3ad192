-- The commands and mountings of a node in one list, in the order in which they came, and what each may give.
use Rattle.std.specs.Prelude.{ℕ, ◌+◌, ◌≡◌, ◌⊎◌, List, [], ◌∷◌, ◌++◌, length, Option, Some, None}
use Rattle.job_model.specs.declared.node_command.NodeCommand.{NodeCommand as Command}
use Rattle.job_model.specs.declared.node_command.NodeCommand.TheVariants.{Raise}
use Rattle.job_model.specs.Durable.{Durable, formatted}
use Rattle.job_model.specs.Fold.{after_command}
use Rattle.job_model.specs.Answer.{answer_of}
use Rattle.histories.specs.NodeState.{NodeState, opening, wants_at, settled}
use Rattle.histories.specs.declared.history_event.HistoryEvent.{HistoryEvent}
use Rattle.histories.specs.declared.history_event.HistoryEvent.TheVariants.{Did, Faulted, Recovered, RaiseFailed, RaiseRefused}
use Rattle.histories.specs.HistoryEvent.{Entry}
use Rattle.histories.specs.After.{after}
use Rattle.histories.specs.History.{Follows}
use Rattle.histories.specs.Counts.{IsShort}
use Rattle.histories.specs.Kept.{Mounting, CommandsKept}
use Rattle.histories.specs.declared.attempt.Attempt.{Attempt}

-- a command that was tried on the device, with the answer if it was acknowledged, or a mounting that succeeded
pub data Mark : Type 0 where
  Acknowledged : (command : Command) → (answer : ℕ) → Mark
  Unanswered : (command : Command) → Mark
  Mounted : (mounting : Mounting) → Mark

-- the commands alone
abbrev pub commands_of : List Mark → List Attempt
commands_of [] = []
commands_of (Acknowledged c a ∷ ms) = record { command = c; acked = Some a } ∷ commands_of ms
commands_of (Unanswered c ∷ ms) = record { command = c; acked = None } ∷ commands_of ms
commands_of (Mounted w ∷ ms) = commands_of ms

-- the mountings alone
abbrev pub mountings_of : List Mark → List Mounting
mountings_of [] = []
mountings_of (Mounted w ∷ ms) = w ∷ mountings_of ms
mountings_of (m ∷ ms) = mountings_of ms

-- the state that a mounting may give: what is settled, with or without the command in doubt
abbrev pub MayMount : Durable → Option Command → Durable → Type 0
MayMount d None mounted = mounted ≡ d
MayMount d (Some c) mounted = (mounted ≡ d) ⊎ (mounted ≡ after_command d c)

-- no command is in doubt
abbrev pub IsNone : Option Command → Type 0
IsNone None = Unit {0}
IsNone (Some c) = ⊥

-- kept step by step: d is settled, at most one command is in doubt, n commands came so far. What a mounting gives is
-- settled from then on
abbrev pub KeptFrom : Durable → Option Command → ℕ → List Mark → Type 0
KeptFrom d doubt n [] = Unit {0}
KeptFrom d doubt n (Acknowledged c a ∷ ms) = IsNone doubt × (a ≡ answer_of d c) × KeptFrom (after_command d c) None (n + 1) ms
KeptFrom d doubt n (Unanswered c ∷ ms) = IsNone doubt × KeptFrom d (Some c) (n + 1) ms
KeptFrom d doubt n (Mounted w ∷ ms) = (w.before ≡ n) × MayMount d doubt w.state × KeptFrom w.state None n ms

-- the mark of a command that an event wants, where the device took it
abbrev pub tried_marks : Durable → Option Command → List Mark
tried_marks d None = []
tried_marks d (Some c) = Acknowledged c (answer_of d c) ∷ []

-- the same where the device failed in it
abbrev pub failed_marks : Option Command → List Mark
failed_marks None = []
failed_marks (Some c) = Unanswered c ∷ []

-- the marks of an entry, after n commands
abbrev pub marks_at : ℕ → ℕ → NodeState → ℕ → HistoryEvent → List Mark
marks_at self nodes s n (Did event) = tried_marks s.durable (wants_at self nodes s event)
marks_at self nodes s n (Faulted event) = failed_marks (wants_at self nodes s event)
marks_at self nodes s n (Recovered kept) =
    Mounted (record { before = n; state = settled kept s }) ∷ Acknowledged Raise ((settled kept s).counter + 1) ∷ []
marks_at self nodes s n (RaiseFailed kept) = Mounted (record { before = n; state = settled kept s }) ∷ Unanswered Raise ∷ []
marks_at self nodes s n (RaiseRefused kept) = Mounted (record { before = n; state = settled kept s }) ∷ []
marks_at self nodes s n what = []

-- those of a history from s on, after n commands
abbrev pub marks_from : ℕ → ℕ → NodeState → ℕ → List Entry → List Mark
marks_from self nodes s n [] = []
marks_from self nodes s n (e ∷ es) =
    marks_at self nodes s n e.what
    ++ marks_from self nodes (after self nodes s e.what) (n + length (commands_of (marks_at self nodes s n e.what))) es

-- the opening mounts an empty disk and raises the counter
abbrev pub opening_marks : List Mark
opening_marks = Mounted (record { before = 0; state = formatted }) ∷ Acknowledged Raise 1 ∷ []

-- those of a node's whole history, its opening among them
abbrev pub marks_of : ℕ → ℕ → List Entry → List Mark
marks_of self nodes h = opening_marks ++ marks_from self nodes (opening self) 1 h

-- the commands and mountings of each history that memory can hold are kept
abbrev pub EachKept : Type 0
EachKept = (self nodes : ℕ) (h : List Entry) → Follows self nodes (opening self) h → IsShort h →
    CommandsKept (commands_of (marks_of self nodes h)) (mountings_of (marks_of self nodes h))

-- what is kept step by step is kept
abbrev pub StepByStep : Type 0
StepByStep = (ms : List Mark) → KeptFrom formatted None 0 ms → CommandsKept (commands_of ms) (mountings_of ms)
