-- The messages that a step hands out, and the lines of its answer that carry them.
use Rattle.std.specs.Prelude.{ℕ, ◌≡◌, ◌+◌, List, [], ◌∷◌, ◌++◌, map, filter, length, All, Bool, true, false, bytes_eq, codes, decimal}
use Rattle.std.specs.Prelude.{Option, Some, None}
use Rattle.hex.specs.Hex.{encode_lower}
use Rattle.line_words.specs.Words.{first_word, words_of}
use Rattle.line_words.specs.Lines.{lines_of}
use Rattle.wire_msg.specs.Envelope.{Envelope}
use Rattle.wire_msg.specs.Spelling.{spelling, IsMessage}
use Rattle.node_timers.specs.Retransmission.{Waits, sent_again}
use Rattle.histories.specs.NodeState.{NodeState}
use Rattle.sealed_msg.specs.declared.stamp.Stamp.{Stamp}
use Rattle.sealed_msg.specs.Sealing.{sealed}
use Rattle.node_session.specs.declared.asked.Asked.{Asked}
use Rattle.node_session.specs.declared.asked.Asked.TheVariants as ask
use Rattle.node_session.specs.Turns.{Turn, after_turn, sent_in}
use Rattle.node_session.specs.Chains.{LineOutcome}
use Rattle.node_session.specs.Lines.{At, ComesOf, after_line, answer_at}
use Rattle.node_session.specs.Seals.{SealKeys, Seals, asked_under, key_to, life_of, taken_under}

-- ---- what is handed out

-- by the calls of a line
abbrev pub sent_turns : ℕ → ℕ → NodeState → List Turn → List Envelope
sent_turns self nodes s [] = []
sent_turns self nodes s (turn ∷ turns) = sent_in self nodes s turn ++ sent_turns self nodes (after_turn self nodes s turn) turns

-- a tick sends again first
abbrev pub again : Asked → Waits → List Envelope
again (ask.Tick now) w = sent_again now w
again asked w = []

abbrev pub handed_by : ℕ → ℕ → Bool → At → Asked → LineOutcome → List Envelope
handed_by self nodes true a asked came = []
handed_by self nodes false a asked came = again asked a.waits ++ sent_turns self nodes a.state came.turns

-- by a line, of which this came; nothing once the device failed
abbrev pub handed_out : ℕ → ℕ → At → List ℕ → LineOutcome → List Envelope
handed_out self nodes a line came = handed_by self nodes a.stopped a (asked_under a.seal line) came

-- ---- the lines that carry it

-- a line that begins with the word `send`
abbrev pub is_send : List ℕ → Bool
is_send line = bytes_eq (first_word (words_of line)) (codes "send")

-- those of a text
abbrev pub sends_in : List ℕ → List (List ℕ)
sends_in text = filter is_send (lines_of text)

-- to the message's receiver go these bytes
abbrev pub send_of : Envelope → List ℕ → List ℕ
send_of m bytes = codes "send " ++ decimal m.receiver ++ codes " " ++ encode_lower bytes

-- the stamp of the next message of this life behind the n-th
abbrev pub stamp_behind : ℕ → ℕ → Stamp
stamp_behind life n = record { life = life; number = n + 1 }

-- each message is sealed for its receiver, with a stamp of its own; without a count none goes
abbrev pub sealed_sends : SealKeys → Option ℕ → ℕ → List Envelope → List (List ℕ)
sealed_sends keys None n ms = []
sealed_sends keys (Some life) n [] = []
sealed_sends keys (Some life) n (m ∷ ms) =
    send_of m (sealed (key_to keys (Some m.receiver)) (spelling m) (stamp_behind life n)) ∷ sealed_sends keys (Some life) (n + 1) ms

abbrev pub plain_sends : List Envelope → List (List ℕ)
plain_sends ms = map (λ m. send_of m (spelling m)) ms

-- without a key each goes as it is spelled
abbrev pub sends_under : Option Seals → Option ℕ → List Envelope → List (List ℕ)
sends_under None life ms = plain_sends ms
sends_under (Some q) life ms = sealed_sends q.keys life q.number ms

-- how many messages were sealed
abbrev pub sealed_so_far : Option Seals → ℕ
sealed_so_far None = 0
sealed_so_far (Some q) = q.number

abbrev pub counted_under : Option Seals → Option ℕ → List Envelope → ℕ
counted_under None life ms = 0
counted_under (Some q) None ms = q.number
counted_under (Some q) (Some life) ms = q.number + length ms

-- ---- the law

-- each message that these lines hand out has a spelling
abbrev pub AreMessagesIn : ℕ → ℕ → At → List (List ℕ) → List LineOutcome → Type 0
AreMessagesIn self nodes a [] all = Unit {0}
AreMessagesIn self nodes a (line ∷ lines) [] = Unit {0}
AreMessagesIn self nodes a (line ∷ lines) (came ∷ all) =
    All IsMessage (handed_out self nodes a line came) × AreMessagesIn self nodes (after_line self nodes a line came) lines all

-- The `send` lines of an answer are those of the messages that the step hands out, one for each and in their order: each message sealed
-- under the key of its receiver's life, with the count that the node has behind the line and the next number of the session; without a key,
-- as
-- it is spelled.
pub record AreSent (self nodes : ℕ) (a : At) (line : List ℕ) (came : LineOutcome) : Type 0 where
  pub lines : sends_in (answer_at self nodes a line came) ≡ sends_under (taken_under a.seal line)
      (life_of (after_line self nodes a line came).state) (handed_out self nodes a line came)
  pub number : sealed_so_far (after_line self nodes a line came).seal
      ≡ counted_under a.seal (life_of (after_line self nodes a line came).state) (handed_out self nodes a line came)

-- those of lines, one behind another
abbrev pub AreSentIn : ℕ → ℕ → At → List (List ℕ) → List LineOutcome → Type 0
AreSentIn self nodes a [] all = Unit {0}
AreSentIn self nodes a (line ∷ lines) [] = Unit {0}
AreSentIn self nodes a (line ∷ lines) (came ∷ all) = AreSent self nodes a line came
    × AreSentIn self nodes (after_line self nodes a line came) lines all

-- so it is of any line that hands out such messages, wherever it comes
abbrev pub MessagesAreSealed : Type 0
MessagesAreSealed =
    (self nodes slots : ℕ) (a : At) (line : List ℕ) (came : LineOutcome) → ComesOf self nodes slots a line came
    → All IsMessage (handed_out self nodes a line came) → AreSent self nodes a line came
