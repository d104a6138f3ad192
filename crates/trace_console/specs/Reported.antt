-- What the command `trace` says on standard error of entries that are no run.
use Rattle.std.specs.Prelude.{ℕ, Bool, true, false, if◌then◌else◌, ◌≡◌, List, [], ◌∷◌, ◌++◌, map, codes, decimal, Option, Some, None}
use Rattle.std.specs.Prelude.{slice_get}
use Rattle.std.specs.List.{flat_map}
use Rattle.hex.specs.Hex.{encode_lower}
use Rattle.wire_msg.specs.Envelope.{Envelope}
use Rattle.wire_msg.specs.Spelling.{spelling}
use Rattle.node_words.specs.Words.{phase_text}
use Rattle.trace_check.specs.declared.trace.TraceAction.{TraceAction}
use Rattle.trace_check.specs.declared.leftover.Holdup.{Holdup}
use Rattle.trace_check.specs.declared.leftover.Holdup.TheVariants as holdup
use Rattle.trace_check.specs.declared.leftover.Leftover.{Leftover}
use Rattle.trace_check.specs.Claims.{Claim, brought_by}
use Rattle.trace_check.specs.Leftovers.{AreLeftovers}
use Rattle.trace_check.specs.Orders.{history}
use Rattle.trace_text.specs.Written.{action_name}
use Rattle.trace_console.specs.Judged.{words}

-- a message in hex digits, behind a space
abbrev pub message_text : Envelope → List ℕ
message_text m = codes " " ++ encode_lower (spelling m)

abbrev pub messages_text : List Envelope → List ℕ
messages_text ms = flat_map message_text ms

-- what would be sent
abbrev pub sent_text : List Envelope → List ℕ
sent_text [] = codes " nothing"
sent_text (m ∷ ms) = messages_text (m ∷ ms)

abbrev pub cannot_text : TraceAction → List ℕ
cannot_text action = codes " (" ++ action_name action ++ codes ") can't be: "

-- what holds an entry up
abbrev pub holdup_text : Claim → Holdup → List ℕ
holdup_text c holdup.Waits = codes " waits for" ++ messages_text (brought_by c.action)
holdup_text c holdup.Misaddressed = cannot_text c.action ++ codes "it is for node"
    ++ words (map (λ (m : Envelope). m.receiver) (brought_by c.action))
holdup_text c (holdup.Refused phase) = cannot_text c.action ++ codes "its node refuses it, being " ++ phase_text phase
holdup_text c (holdup.Sends ms) = cannot_text c.action ++ codes "it would send" ++ sent_text ms.items

-- an entry: its node, and its index
unfoldable pub place_text : List ℕ → ℕ → ℕ → List ℕ
place_text between node index = decimal node ++ between ++ decimal index

unfoldable pub line_text : Claim → Leftover → List ℕ
line_text c left = codes "\nnode " ++ place_text (codes ": entry ") left.node left.index ++ holdup_text c left.holdup

abbrev pub entry_text : Option Claim → Leftover → List ℕ
entry_text None left = []
entry_text (Some c) left = line_text c left

-- the line of an entry that is left, behind the end of the line before
abbrev pub leftover_text : List (List Claim) → Leftover → List ℕ
leftover_text hs left = entry_text (slice_get (history hs left.node) left.index) left

abbrev pub waits : Holdup → Bool
waits holdup.Waits = true
waits holdup.Misaddressed = false
waits (holdup.Refused phase) = false
waits (holdup.Sends ms) = false

unfoldable pub first_text : ℕ → ℕ → List ℕ
first_text node index = codes "no order takes all entries: look first at node " ++ place_text (codes ", entry ") node index

-- where to look: the first entry that isn't waiting
abbrev pub look_text : List Leftover → List ℕ
look_text [] = codes "no order takes all entries: each that is left waits for a message that none sent"
look_text (left ∷ others) = if waits left.holdup then look_text others else first_text left.node left.index

-- all that is said: nothing, where no entry is left
abbrev pub report : List (List Claim) → List Leftover → List ℕ
report hs [] = []
report hs (left ∷ others) = look_text (left ∷ others) ++ flat_map (leftover_text hs) (left ∷ others)

abbrev pub IsReport : List (List Claim) → List ℕ → Type 0
IsReport hs why = (left : List Leftover) × AreLeftovers hs left × (why ≡ report hs left)
