-- What the life of a process promises: what it takes was sealed for this life, and what is sealed for a node is sealed for the life that
-- was told of it.
use Rattle.std.specs.Prelude.{ℕ, ◌≡◌, ◌≢◌, ◌<◌, ◌⊎◌, List, length, Option, Some}
use Rattle.wire_msg.specs.Envelope.{Envelope}
use Rattle.wire_msg.specs.Reading.{message_of}
use Rattle.line_words.specs.Words.{words_of}
use Rattle.line_words.specs.Lines.{bytes_of}
use Rattle.sealed_msg.specs.declared.stamp.Stamp.{Stamp}
use Rattle.sealed_msg.specs.Lives.{life_key}
use Rattle.sealed_msg.specs.Sealing.{sealed}
use Rattle.node_session.specs.Chains.{LineOutcome}
use Rattle.node_session.specs.Lines.{At, ComesOf, after_lines}
use Rattle.node_session.specs.Seals.{SealKeys, brought_word, key_to, new_seals, with_life}
use Rattle.node_session.specs.Stamping.{Delivers}

-- the bytes that a line brings are this message, sealed for this life under a key that the process was given
pub record IsSealedFor (own : List ℕ) (other : Option (List ℕ)) (life : List ℕ) (line : List ℕ) (m : Envelope) : Type 0 where
  pub word : List ℕ
  pub bytes : List ℕ
  pub key : List ℕ
  pub spelling : List ℕ
  pub stamp : Stamp
  pub brought : brought_word (words_of line) ≡ Some word
  pub spelled : bytes_of word ≡ Some bytes
  pub given : (key ≡ own) ⊎ (other ≡ Some key)
  pub sealed_so : bytes ≡ sealed (life_key key life) spelling stamp
  pub read : message_of spelling ≡ Some m

-- whatever a process was told before, what it delivers to its node was sealed for its life
abbrev pub OwnLifeAlone : Type 0
OwnLifeAlone =
    (self nodes slots : ℕ) (own : List ℕ) (other : Option (List ℕ)) (life : List ℕ) (a : At) (lines : List (List ℕ))
    (all : List LineOutcome) (line : List ℕ) (came : LineOutcome) (m : Envelope)
    → a.seal ≡ Some (new_seals own other life) → ComesOf self nodes slots (after_lines self nodes a lines all) line came
    → Delivers m came.turns → IsSealedFor own other life line m

-- once a life was told of a node, what is sealed for this node is sealed for this life; for the others nothing changes
abbrev pub ToldLifeAlone : Type 0
ToldLifeAlone =
    (keys : SealKeys) (node : ℕ) (life : List ℕ) → node < length keys.lives
    → (key_to (with_life keys node life) (Some node) ≡ life_key keys.own life)
    × ((n : ℕ) → n ≢ node → key_to (with_life keys node life) (Some n) ≡ key_to keys (Some n))
