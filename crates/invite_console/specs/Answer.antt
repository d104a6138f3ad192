-- The text of the command `answer`.
use Rattle.std.specs.Prelude.{ℕ, List, [], ◌∷◌, codes, Bool, true, if◌then◌else◌, is_some}
use Rattle.std.specs.List.{flat_map}
use Rattle.hex.specs.Hex.{encode_lower}
use Rattle.wire_msg.specs.Envelope.{Envelope}
use Rattle.wire_msg.specs.Spelling.{spelling}
use Rattle.wire_msg.specs.Contents.{messages_in, is_malformed}
use Rattle.node_core.specs.declared.event.Event.TheVariants.{Deliver}
use Rattle.node_core.specs.State.{State}
use Rattle.node_core.specs.Effect.{Effect}
use Rattle.node_core.specs.Effects.{effect_of}
use Rattle.node_core.specs.Refusals.{refusal_of}
use Rattle.node_core.specs.Start.{alone}
use Rattle.console_text.specs.Ends.{Printout, line, refused, before}
use Rattle.invite_console.specs.Lines.{over_hex_lines}

-- the count of the group in which the node begins
abbrev pub first_count : ℕ
first_count = 1

-- The count that a new group would take. No message brings a new group, since this node never asks whether its coordinator is there.
abbrev pub next_count : ℕ
next_count = 2

-- messages, a line of hex for each
abbrev pub message_lines : List Envelope → List ℕ
message_lines messages = flat_map (λ m. line (encode_lower (spelling m))) messages

-- what a delivered message makes of a node of a cluster, whose table of jobs is empty
abbrev pub delivery : ℕ → ℕ → Envelope → State → Effect
delivery nodes self m s = effect_of nodes self [] (Deliver m) next_count s

-- the state after these messages
abbrev pub state_after : ℕ → ℕ → List Envelope → State → State
state_after nodes self [] s = s
state_after nodes self (m ∷ rest) s = state_after nodes self rest (delivery nodes self m s).state

-- whether the message is refused: it is for another node, or names one that is not of the cluster
abbrev pub is_strange : ℕ → ℕ → Envelope → State → Bool
is_strange nodes self m s = is_some (refusal_of nodes self (Deliver m) s)

-- The answers of a node to messages, in their order, and then the end of the stream. The first message that is refused ends them.
unfoldable pub answers : ℕ → ℕ → State → Printout → List Envelope → Printout
answers nodes self s end [] = end
answers nodes self s end (m ∷ rest) =
    if is_strange nodes self m s then refused (codes "refused Stranger")
    else before (message_lines (delivery nodes self m s).sent) (answers nodes self (delivery nodes self m s).state end rest)

-- what is printed behind the last answer: an unfinished frame gives nothing
abbrev pub end_of_answers : Bool → Printout
end_of_answers malformed = if malformed then refused (codes "malformed") else record { text = []; good = true }

abbrev pub answers_to : ℕ → ℕ → List ℕ → Printout
answers_to id nodes bytes = answers nodes id (alone id first_count) (end_of_answers (is_malformed bytes)) (messages_in bytes)

-- what `answer` prints for an input
abbrev pub answer_text : ℕ → ℕ → List ℕ → Printout
answer_text id nodes input = over_hex_lines (answers_to id nodes) input
