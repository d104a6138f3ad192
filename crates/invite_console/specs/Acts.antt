-- The lines of a simulation: one for each act.
use Rattle.std.specs.Prelude.{ℕ, ◌+◌, List, [], ◌∷◌, ◌++◌, codes, decimal, Bool, true, false, Option}
use Rattle.hex.specs.Hex.{encode_lower}
use Rattle.wire_msg.specs.Envelope.{Envelope}
use Rattle.wire_msg.specs.Spelling.{spelling}
use Rattle.node_core.specs.declared.fault.Refusal.{Refusal}
use Rattle.node_core.specs.declared.fault.Refusal.TheVariants as node
use Rattle.sim_net.specs.declared.fault.NetFault.TheVariants as net
use Rattle.schedule.specs.declared.act.Act.{Act}
use Rattle.schedule.specs.declared.act.Act.TheVariants as act
use Rattle.runs.specs.declared.outcome.Outcome.{Outcome}
use Rattle.runs.specs.declared.outcome.Outcome.TheVariants.{Done, Refused, Faulted}
use Rattle.runs.specs.declared.outcome.ActRefusal.{ActRefusal}
use Rattle.runs.specs.declared.outcome.ActRefusal.TheVariants.{Node, Net, Stranger}
use Rattle.runs.specs.Reporting.{Moment}
use Rattle.node_words.specs.Words.{core_name, id_text}
use Rattle.invite_console.specs.Show.{message_text as text_shown}

-- a message with its number: its bytes in hex, or on a line of its own what it says
abbrev pub message_text : Bool → ℕ → Envelope → List ℕ
message_text false number m = codes " " ++ decimal number ++ codes ":" ++ encode_lower (spelling m)
message_text true number m = codes "\n    " ++ decimal number ++ codes ": " ++ text_shown m

-- messages, each with its number, the first of them having this one
abbrev pub sent_text : Bool → ℕ → List Envelope → List ℕ
sent_text names number [] = []
sent_text names number (m ∷ ms) = message_text names number m ++ sent_text names (number + 1) ms

-- why a node refused: a reader sees no areas
abbrev pub fault_name : Refusal → List ℕ
fault_name (node.Core fault) = core_name fault
fault_name node.Full = codes "Full"
fault_name node.Exhausted = codes "Exhausted"
fault_name node.AreaExhausted = codes "Exhausted"

abbrev pub refusal_name : ActRefusal → List ℕ
refusal_name (Node fault) = fault_name fault
refusal_name (Net net.NoSuch) = codes "NoSuch"
refusal_name (Net net.Lost) = codes "Lost"
refusal_name (Net net.Cut) = codes "Cut"
refusal_name (Net net.NoMemory) = codes "NoMemory"
refusal_name Stranger = codes "Stranger"

-- the id of a submitted job, which no other act has
abbrev pub answer_text : Act → Option ℕ → List ℕ
answer_text (act.Submit n work) answer = id_text answer
answer_text a answer = []

-- what came of an act, and the messages that were sent in it
abbrev pub outcome_text : Bool → Act → Outcome → List Envelope → List ℕ
outcome_text names a (Done answer first many) sent = codes "ok" ++ answer_text a answer ++ sent_text names first sent
outcome_text names a (Refused why) sent = codes "refused " ++ refusal_name why
outcome_text names a Faulted sent = codes "fault Device"

-- the line of an act, by its number from 0 on, with its messages by name or as bytes
abbrev pub act_line : Bool → ℕ → Act → Outcome → List Envelope → List ℕ
act_line names number a outcome sent = decimal number ++ codes " " ++ outcome_text names a outcome sent ++ codes "\n"

-- the line of a moment
abbrev pub moment_line : Bool → ℕ → Moment → List ℕ
moment_line names number m = act_line names number m.act m.outcome m.sent
