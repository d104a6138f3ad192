-- Which of the messages that a history sent went onto no link.
use Rattle.std.specs.Prelude.{ℕ, ◌≡◌, ◌+◌, ◌<◌, ⊤, Bool, List, [], ◌∷◌, ◌++◌, length, slice_index_or}
use Rattle.std.specs.List.{AllByRecursion}
use Rattle.wire_msg.specs.Envelope.{Envelope}
use Rattle.link_ring.specs.Sides.{Side}
use Rattle.node_lock.specs.declared.turn_log.Loss.{Loss}
use Rattle.node_lock.specs.History.{Turn}
use Rattle.node_lock.specs.Sending.{HasLink, addressed_to, losses_of, went_of}

-- there is a mark for each message of each turn
abbrev pub AreMarked : List (List Bool) → List Turn → Type 0
AreMarked [] [] = ⊤
AreMarked [] (t ∷ ts) = ⊥
AreMarked (w ∷ ws) [] = ⊥
AreMarked (w ∷ ws) (t ∷ ts) = (length w ≡ length t.entry.sent) × AreMarked ws ts

-- by whether each message of each turn went onto a link: those that did, in order
abbrev pub all_went : List (List Bool) → List Turn → List Envelope
all_went [] ts = []
all_went (w ∷ ws) [] = []
all_went (w ∷ ws) (t ∷ ts) = went_of w t.entry.sent ++ all_went ws ts

-- and the others, where the first of the turns stands at this place
abbrev pub all_losses : ℕ → List (List Bool) → List Loss
all_losses turn [] = []
all_losses turn (w ∷ ws) = losses_of turn 0 w ++ all_losses (turn + 1) ws

-- just these are lost: each other message that the history sent went onto the link to its receiver, and nothing else did
pub record HasLost (history : List Turn) (lost : List Loss) (puts : List Side) : Type 0 where
  pub went : List (List Bool)
  pub marked : AreMarked went history
  pub is_lost : lost ≡ all_losses 0 went
  pub put : (k : ℕ) (d : Side) → k < length puts → (slice_index_or puts k d).messages
      ≡ addressed_to (slice_index_or puts k d).receiver (all_went went history)
  pub led : AllByRecursion (λ (m : Envelope). HasLink puts m.receiver) (all_went went history)
