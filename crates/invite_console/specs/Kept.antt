-- What is kept of a run until it is printed, and the text that it gives.
use Rattle.std.specs.Prelude.{◌≡◌, ◌≤◌, ℕ, zero, suc, ◌-◌, List, [], ◌++◌, length, take, drop, slice_get, Bool, Option, Some, None, codes}
use Rattle.std.specs.Prelude.{decimal}
use Rattle.wire_msg.specs.Envelope.{Envelope}
use Rattle.schedule.specs.declared.act.Act.{Act}
use Rattle.runs.specs.declared.outcome.Outcome.{Outcome}
use Rattle.runs.specs.declared.outcome.Outcome.TheVariants.{Done, Refused, Faulted}
use Rattle.cluster_sim.specs.World.{WorldView}
use Rattle.invite_console.specs.declared.running.ActEnd.{ActEnd}
use Rattle.invite_console.specs.declared.details.Details.{Details}
use Rattle.invite_console.specs.Acts.{answer_text, refusal_name, sent_text}
use Rattle.invite_console.specs.Sim.{IsSoFar, PrintsRun}

-- the part of a list from a place on, up to another
abbrev pub between : {A : Type 0} → ℕ → ℕ → List A → List A
between from to xs = take (to - from) (drop from xs)

-- ---- the line of an act in front of its messages

abbrev pub outcome_head : Act → Outcome → List ℕ
outcome_head a (Done answer first many) = codes "ok" ++ answer_text a answer
outcome_head a (Refused why) = codes "refused " ++ refusal_name why
outcome_head a Faulted = codes "fault Device"

abbrev pub act_head : ℕ → Act → Outcome → List ℕ
act_head number a outcome = decimal number ++ codes " " ++ outcome_head a outcome

-- ---- all that is kept

abbrev pub sent_by : Option ActEnd → ℕ
sent_by None = 0
sent_by (Some kept) = kept.sent

abbrev pub written_by : Option ActEnd → ℕ
written_by None = 0
written_by (Some kept) = kept.written

-- how many messages had been sent before the acts of which something is kept in this place
abbrev pub sent_at : List ActEnd → ℕ → ℕ
sent_at kept zero = 0
sent_at kept (suc i) = sent_by (slice_get kept i)

-- how long the text was before them
abbrev pub written_at : List ActEnd → ℕ → ℕ
written_at kept zero = 0
written_at kept (suc i) = written_by (slice_get kept i)

-- What is kept of an act that sent messages, where so many had been sent before it, and the text was so long: both only grow.
pub record IsKept (sent written messages text : ℕ) (kept : ActEnd) : Type 0 where
  pub sent_grows : sent ≤ kept.sent
  pub sent_within : kept.sent ≤ messages
  pub written_grows : written ≤ kept.written
  pub written_within : kept.written ≤ text

abbrev pub AreKept : List ActEnd → ℕ → ℕ → Type 0
AreKept kept messages text = (i : ℕ) (k : ActEnd) → slice_get kept i ≡ Some k → IsKept (sent_at kept i) (written_at kept i) messages text k

-- what the text has since the last act that sent messages, which ends with the line of the next such act, and that one's messages
abbrev pub lines_of : Bool → Option ActEnd → ℕ → ℕ → List ℕ → List Envelope → List ℕ
lines_of names None sent written text messages = []
lines_of names (Some k) sent written text messages = between written k.written text
    ++ (sent_text names sent (between sent k.sent messages) ++ codes "\n")

-- the lines up to this act among those that sent messages
abbrev pub lines : Bool → List ActEnd → List ℕ → List Envelope → ℕ → List ℕ
lines names kept text messages zero = []
lines names kept text messages (suc i) = lines names kept text messages i ++ lines_of names (slice_get kept i) (sent_at kept i)
    (written_at kept i) text messages

-- the lines up to the last of them, and what the text has behind: the lines of further acts, and the nodes at their end
abbrev pub run_text : Bool → List ActEnd → List ℕ → List Envelope → List ℕ
run_text names kept text messages = lines names kept text messages (length kept) ++ between (written_at kept (length kept))
    (length text) text

-- this is kept of some run of these acts
pub record IsRun (details : Details) (nodes slots : ℕ) (acts : List Act) (kept : List ActEnd) (text : List ℕ) (messages : List Envelope) :
    Type 0 where
  pub are : AreKept kept (length messages) (length text)
  pub printed : PrintsRun details nodes slots acts (run_text details.names kept text messages)

-- the acts so far were done, and this is kept of them
pub record IsKeptSoFar (details : Details) (nodes slots : ℕ) (view : WorldView) (acts : List Act) (kept : List ActEnd) (text : List ℕ) :
    Type 0 where
  pub are : AreKept kept (length view.net.sent) (length text)
  pub all_sent : sent_at kept (length kept) ≡ length view.net.sent
  pub within : written_at kept (length kept) ≤ length text
  pub so : IsSoFar details nodes slots view acts (run_text details.names kept text view.net.sent)
