-- The order of a run that was recorded, as a text has it beside the trace: two words a turn, its node and the number of the message that
-- it was brought, or a dash.
use Rattle.std.specs.Prelude.{ℕ, ◌≡◌, ◌<◌, ◌^◌, Bool, true, false, List, [], ◌∷◌, ◌++◌, length, Option, Some, None, option_map}
use Rattle.std.specs.Prelude.{option_and_then, if◌then◌else◌, codes, decimal, map}
use Rattle.std.specs.Borrow.{Bor}
use Rattle.std.specs.Str.{bytes_eq, is_utf8}
use Rattle.json.specs.Find.{as_str, get}
use Rattle.json.specs.Json.{Json, Members, if_last, value}
use Rattle.json.specs.Json as json
use Rattle.json.specs.Lex.{tokens}
use Rattle.json.specs.Token.{Token}
use Rattle.serde_json.specs.Data.{Data, array, number, object, string, unsigned, member, no_members}
use Rattle.serde_json.specs.Read.{max_depth}
use Rattle.serde_json.specs.View.{items_of}
use Rattle.line_words.specs.Words.{number_of, words_of}
use Rattle.group_task.specs.declared.node.TheConstants.{NODES}
use Rattle.trace_check.specs.Claims.{Claim}
use Rattle.trace_check.specs.declared.order.Order.{Order}
use Rattle.trace_text.specs.Entries.{below}
use Rattle.trace_text.specs.Written.{history_data}
use Rattle.trace_text.specs.declared.ordered.OrderedTurn.{OrderedTurn}
use Rattle.json.specs.declared.error.Error.{Error}
use Rattle.json.specs.declared.error.Error.TheVariants.{Invalid, OutOfMemory, TooLong, DuplicateKey}

-- the node of each turn, and of each the number of the message that it was brought
abbrev pub Ordered : Type 0
Ordered = List ℕ × List (Option ℕ)

abbrev pub ordered_by : Order → Ordered
ordered_by order = (order.nodes.items, order.messages.items)

-- each turn has both
abbrev pub IsEven : Ordered → Type 0
IsEven o = length o.0 ≡ length o.1

-- the numbers of the turns are in their ranges
abbrev pub MessageFits : Option ℕ → Type 0
MessageFits None = Unit {0}
MessageFits (Some n) = n < 2 ^ 64

abbrev pub TurnsFit : List ℕ → List (Option ℕ) → Type 0
TurnsFit [] messages = Unit {0}
TurnsFit (node ∷ nodes) [] = Unit {0}
TurnsFit (node ∷ nodes) (message ∷ messages) = (node < NODES) × MessageFits message × TurnsFit nodes messages

-- ---- what a text says

abbrev pub node_in : List ℕ → Option ℕ
node_in word = option_and_then (below NODES) (number_of word)

abbrev pub message_in : List ℕ → Option (Option ℕ)
message_in word = if bytes_eq word (codes "-") then Some None else option_map (λ (n : ℕ). Some n) (number_of word)

abbrev pub with_turn : Option ℕ → Option (Option ℕ) → Option Ordered → Option Ordered
with_turn None message turns = None
with_turn (Some node) None turns = None
with_turn (Some node) (Some message) None = None
with_turn (Some node) (Some message) (Some turns) = Some (node ∷ turns.0, message ∷ turns.1)

abbrev pub turns_of : List (List ℕ) → Option Ordered
turns_of [] = Some ([], [])
turns_of (node ∷ []) = None
turns_of (node ∷ message ∷ words) = with_turn (node_in node) (message_in message) (turns_of words)

-- an empty text has no words
abbrev pub words_in : List ℕ → List (List ℕ)
words_in [] = []
words_in (c ∷ text) = words_of (c ∷ text)

-- the text under the key
abbrev pub order_words : Json → Option (List ℕ)
order_words j = option_and_then as_str (get (codes "order") j)

abbrev pub order_in : Option Json → Option Ordered
order_in j = option_and_then (λ (text : List ℕ). turns_of (words_in text)) (option_and_then order_words j)

-- the JSON value of a text, nested as deep as serde_json reads it
abbrev pub json_of : List ℕ → Option Json
json_of text = option_and_then (λ p. if_last p.0 p.1) (value max_depth (tokens text))

-- the order that a text has; None where it has none
abbrev pub order_of : List ℕ → Option Ordered
order_of text = if is_utf8 text then order_in (json_of text) else None

-- ---- what is read of it

-- the text under the key among members, behind those of which this was found
abbrev pub words_from : Option (List ℕ) → Members → Option (List ℕ)
words_from found json.no_members = found
words_from found (json.member key j ms) = words_from (if bytes_eq key (codes "order") then as_str j else found) ms

-- the text of a whole text's tokens
abbrev pub words_at : List Token → Option (List ℕ)
words_at ts = option_and_then order_words (option_and_then (λ p. if_last p.0 p.1) (value max_depth ts))

-- there is none, unless memory ran out
abbrev pub IsLacking : {A : Type 0} → Option A → Error → Type 0
IsLacking read OutOfMemory = Unit {0}
IsLacking read Invalid = read ≡ None
IsLacking read TooLong = read ≡ None
IsLacking read DuplicateKey = read ≡ None

-- a member was passed, of this key: what was found before, or the text that it has
pub record PassesMember (key : List ℕ) (old new : List Token) (before after : Option (List ℕ)) : Type 0 where
  pub json : Json
  pub there : value 126 old ≡ Some (json, new)
  pub found : after ≡ (if bytes_eq key (codes "order") then as_str json else before)

abbrev pub words_behind : Option (Bor (List ℕ)) → List (List ℕ)
words_behind None = []
words_behind (Some text) = words_of text.now

-- the text begins with this turn
pub record CutsTurn (text : List ℕ) (turn : OrderedTurn) : Type 0 where
  pub turns : turns_of (words_of text) ≡ with_turn (Some turn.node) (Some turn.message) (turns_of (words_behind turn.behind))
  pub fewer : length (words_behind turn.behind) < length (words_of text)

-- ---- what is written

abbrev pub message_word : Option ℕ → List ℕ
message_word None = codes "-"
message_word (Some n) = decimal n

abbrev pub space_if : Bool → List ℕ
space_if true = 32 ∷ []
space_if false = []

abbrev pub turn_text : ℕ → Option ℕ → List ℕ
turn_text node message = decimal node ++ 32 ∷ message_word message

-- turns behind others, or the first ones; one that lacks its node or its message isn't written
abbrev pub turns_text : Bool → List ℕ → List (Option ℕ) → List ℕ
turns_text later [] messages = []
turns_text later (node ∷ nodes) [] = []
turns_text later (node ∷ nodes) (message ∷ messages) = space_if later ++ (turn_text node message ++ turns_text true nodes messages)

abbrev pub order_text : Ordered → List ℕ
order_text o = turns_text false o.0 o.1

-- the JSON value of a trace with its order
abbrev pub ordered_data : List (List Claim) → Ordered → Data
ordered_data hs o =
    object (member (codes "histories") (array (items_of (map history_data hs)))
    (member (codes "nodes") (number (unsigned (length hs))) (member (codes "order") (string (order_text o)) no_members)))
