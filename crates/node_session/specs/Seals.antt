-- Messages under a key: what a line that brings one asks for, and how those that are sent are written.
use Rattle.std.specs.Prelude.{ℕ, ◌+◌, ◌==◌, ◌||◌, List, [], ◌∷◌, ◌++◌, length, get_or, set, replicate, Bool, true, false, bytes_eq, codes}
use Rattle.std.specs.Prelude.{if◌then◌else◌, option_map, Option, Some, None}
use Rattle.hex.specs.Hex.{encode_lower}
use Rattle.wire_msg.specs.Envelope.{Envelope}
use Rattle.wire_msg.specs.Reading.{message_of}
use Rattle.node_core.specs.declared.event.Event.TheVariants as on
use Rattle.node_core.specs.State.{is_down}
use Rattle.histories.specs.NodeState.{NodeState}
use Rattle.line_words.specs.Words.{words_of}
use Rattle.line_words.specs.Lines.{bytes_of, lines_of}
use Rattle.schedule.specs.Fields.{node_of}
use Rattle.sealed_msg.specs.declared.stamp.Stamp.{Stamp}
use Rattle.sealed_msg.specs.Stamps.{is_above, stamp_bytes}
use Rattle.sealed_msg.specs.Hmac.{hmac_by}
use Rattle.sealed_msg.specs.Lives.{life_key}
use Rattle.sealed_msg.specs.Sealing.{opened, stamped}
use Rattle.node_session.specs.declared.asked.Asked.{Asked}
use Rattle.node_session.specs.declared.asked.Asked.TheVariants as ask
use Rattle.node_session.specs.declared.asked.Unsealed.TheVariants.{Forged, Stale}
use Rattle.node_session.specs.Asked.{asked_of}

-- ---- the keys that seal

-- that of the cluster, and, of each node whose process told its life, that of this life
pub record SealKeys : Type 0 where
  pub own : List ℕ
  pub lives : List (Option (List ℕ))

abbrev pub new_keys : List ℕ → SealKeys
new_keys own = record { own = own; lives = replicate 128 None }

abbrev pub key_else : List ℕ → Option (List ℕ) → List ℕ
key_else own None = own
key_else own (Some key) = key

-- the key of what is sealed for a node
abbrev pub key_to : SealKeys → Option ℕ → List ℕ
key_to keys None = keys.own
key_to keys (Some node) = key_else keys.own (get_or keys.lives node None)

-- once the life of a node's process was told; without one it has none
abbrev pub with_life : SealKeys → ℕ → List ℕ → SealKeys
with_life keys node life = record keys { lives = set keys.lives node (Some (life_key keys.own life)) }

-- ---- what is kept

-- what a session keeps under a key
pub record Seals : Type 0 where
  pub keys : SealKeys
  -- the keys that open: those of the own life, under the key that seals and under another one
  pub opens : List ℕ
  pub other : Option (List ℕ)
  -- the stamp of what was taken last of each node
  pub last : List Stamp
  -- how many messages were sealed
  pub number : ℕ

-- nothing is sealed with it
abbrev pub no_stamp : Stamp
no_stamp = record { life = 0; number = 0 }

-- of a process of this life, or of none
abbrev pub new_seals : List ℕ → Option (List ℕ) → List ℕ → Seals
new_seals own other life = record {
  keys = new_keys own;
  opens = life_key own life;
  other = option_map (λ key. life_key key life) other;
  last = replicate 128 no_stamp;
  number = 0;
}

-- ---- what comes

abbrev pub opened_other : Option (List ℕ) → List ℕ → Option (List ℕ × Stamp)
opened_other None bytes = None
opened_other (Some key) bytes = opened key bytes

abbrev pub opened_else : Option (List ℕ × Stamp) → Option (List ℕ) → List ℕ → Option (List ℕ × Stamp)
opened_else None other bytes = opened_other other bytes
opened_else (Some it) other bytes = Some it

-- by one of the keys
abbrev pub opened_under : Seals → List ℕ → Option (List ℕ × Stamp)
opened_under q bytes = opened_else (opened q.opens bytes) q.other bytes

-- the word behind `deliver`, of a line that has this one alone
abbrev pub brought_word : List (List ℕ) → Option (List ℕ)
brought_word (name ∷ a ∷ []) = if bytes_eq name (codes "deliver") then Some a else None
brought_word words = None

-- what a word that is to be delivered brings
pub data Brought : Type 0 where
  -- no hex
  NoBytes : Brought
  -- no key of the session made it
  Strange : Brought
  -- it was sealed, but is no message
  Garbled : Brought
  Opened : (m : Envelope) (stamp : Stamp) → Brought

abbrev pub brought_message : Option Envelope → Stamp → Brought
brought_message None stamp = Garbled
brought_message (Some m) stamp = Opened m stamp

abbrev pub brought_opened : Option (List ℕ × Stamp) → Brought
brought_opened None = Strange
brought_opened (Some it) = brought_message (message_of it.0) it.1

abbrev pub brought_bytes : Seals → Option (List ℕ) → Brought
brought_bytes q None = NoBytes
brought_bytes q (Some bytes) = brought_opened (opened_under q bytes)

abbrev pub brought_by : Seals → List ℕ → Brought
brought_by q word = brought_bytes q (bytes_of word)

-- whether it is above all that was taken of its sender
abbrev pub is_fresh : Seals → Envelope → Stamp → Bool
is_fresh q m stamp = is_above stamp (get_or q.last m.sender no_stamp)

abbrev pub asked_fresh : Bool → Envelope → Asked
asked_fresh true m = ask.Event (on.Deliver m)
asked_fresh false m = ask.Refused Stale

abbrev pub asked_brought : Seals → Brought → Asked
asked_brought q NoBytes = ask.Bad
asked_brought q Strange = ask.Refused Forged
asked_brought q Garbled = ask.Bad
asked_brought q (Opened m stamp) = asked_fresh (is_fresh q m stamp) m

abbrev pub taken_fresh : Bool → Seals → Envelope → Stamp → Seals
taken_fresh true q m stamp = record q { last = set q.last m.sender stamp }
taken_fresh false q m stamp = q

abbrev pub taken_brought : Seals → Brought → Seals
taken_brought q (Opened m stamp) = taken_fresh (is_fresh q m stamp) q m stamp
taken_brought q brought = q

-- ---- the life of a node's process, which a line tells

-- the words of the node and the life, of a line that has these alone
abbrev pub life_words : List (List ℕ) → Option (List ℕ × List ℕ)
life_words (name ∷ node ∷ a ∷ []) = if bytes_eq name (codes "life") then Some (node, a) else None
life_words words = None

-- a life has 16 bytes; a dash tells that there is none
abbrev pub life_told : Option ℕ → Option (List ℕ) → Option (ℕ × List ℕ)
life_told None life = None
life_told (Some node) None = None
life_told (Some node) (Some life) = if length life == 0 || length life == 16 then Some (node, life) else None

abbrev pub told_by : Option (List ℕ × List ℕ) → Option (ℕ × List ℕ)
told_by None = None
told_by (Some it) = life_told (node_of it.0) (bytes_of it.1)

-- the node, and the life of its process
abbrev pub told_life : List ℕ → Option (ℕ × List ℕ)
told_life line = told_by (life_words (words_of line))

-- it is no request
abbrev pub asked_told : List ℕ → Option (ℕ × List ℕ) → Asked
asked_told line None = asked_of line
asked_told line (Some it) = ask.Nothing

abbrev pub taken_told : Seals → Option (ℕ × List ℕ) → Seals
taken_told q None = q
taken_told q (Some it) = record q { keys = with_life q.keys it.0 it.1 }

-- ---- a line

abbrev pub asked_words_under : Seals → List ℕ → Option (List ℕ) → Asked
asked_words_under q line None = asked_told line (told_life line)
asked_words_under q line (Some word) = asked_brought q (brought_by q word)

abbrev pub taken_words : Seals → List ℕ → Option (List ℕ) → Seals
taken_words q line None = taken_told q (told_life line)
taken_words q line (Some word) = taken_brought q (brought_by q word)

-- what a line asks for under a key: any that neither delivers nor tells a life what it asks for without
abbrev pub asked_sealed : Seals → List ℕ → Asked
asked_sealed q line = asked_words_under q line (brought_word (words_of line))

-- and what is kept behind it
abbrev pub taken_sealed : Seals → List ℕ → Seals
taken_sealed q line = taken_words q line (brought_word (words_of line))

-- with a key, or with none
abbrev pub asked_under : Option Seals → List ℕ → Asked
asked_under None line = asked_of line
asked_under (Some q) line = asked_sealed q line

abbrev pub taken_under : Option Seals → List ℕ → Option Seals
taken_under None line = None
taken_under (Some q) line = Some (taken_sealed q line)

-- ---- what goes

-- the count that a node's messages go with: the one that it keeps; one that is down sends nothing
abbrev pub life_by : Bool → ℕ → Option ℕ
life_by true counter = None
life_by false counter = Some counter

abbrev pub life_of : NodeState → Option ℕ
life_of s = life_by (is_down s.state.phase) s.durable.counter

-- the word of a message in a line of an answer that hands it out
abbrev pub sent_word : List (List ℕ) → Option (List ℕ)
sent_word (name ∷ to ∷ a ∷ []) = if bytes_eq name (codes "send") then Some a else None
sent_word words = None

abbrev pub message_by : Option (List ℕ) → Option (List ℕ)
message_by None = None
message_by (Some word) = bytes_of word

-- the message that it hands out
abbrev pub message_in : List ℕ → Option (List ℕ)
message_in line = message_by (sent_word (words_of line))

-- the node that a line of an answer hands a message out to
abbrev pub receiver_in : List (List ℕ) → Option ℕ
receiver_in (name ∷ to ∷ a ∷ words) = node_of to
receiver_in words = None

-- the key that seals it
abbrev pub key_of_line : SealKeys → List ℕ → List ℕ
key_of_line keys line = key_to keys (receiver_in (words_of line))

-- what stands behind a message: the stamp and the tag of both
abbrev pub seal_of : List ℕ → List ℕ → Stamp → List ℕ
seal_of key message stamp = stamp_bytes stamp ++ hmac_by key (stamped message stamp)

-- a line of an answer as it is written
abbrev pub line_by : SealKeys → Option ℕ → ℕ → List ℕ → Option (List ℕ) → List ℕ
line_by keys life n line None = line ++ codes "\n"
line_by keys None n line (Some message) = []
line_by keys (Some life) n line (Some message) =
    line ++ encode_lower (seal_of (key_of_line keys line) message (record { life = life; number = n + 1 })) ++ codes "\n"

-- how many messages were sealed behind it
abbrev pub number_by : Option ℕ → ℕ → Option (List ℕ) → ℕ
number_by life n None = n
number_by None n (Some message) = n
number_by (Some life) n (Some message) = n + 1

abbrev pub numbered : Option ℕ → ℕ → List (List ℕ) → ℕ
numbered life n [] = n
numbered life n (line ∷ []) = n
numbered life n (line ∷ next ∷ lines) = numbered life (number_by life n (message_in line)) (next ∷ lines)

-- the lines of an answer, each with its seal; behind the last line feed nothing stands
abbrev pub sealed_lines : SealKeys → Option ℕ → ℕ → List (List ℕ) → List ℕ
sealed_lines keys life n [] = []
sealed_lines keys life n (line ∷ []) = line
sealed_lines keys life n (line ∷ next ∷ lines) =
    line_by keys life n line (message_in line) ++ sealed_lines keys life (number_by life n (message_in line)) (next ∷ lines)

-- an answer as it is written under a key, or under none, at a node that sends with this count
abbrev pub written : Option Seals → Option ℕ → List ℕ → List ℕ
written None life text = text
written (Some q) life text = sealed_lines q.keys life q.number (lines_of text)

-- what is kept then
abbrev pub sealed_behind : Option Seals → Option ℕ → List ℕ → Option Seals
sealed_behind None life text = None
sealed_behind (Some q) life text = Some (record q { number = numbered life q.number (lines_of text) })
