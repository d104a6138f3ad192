-- What contracts see of a link: its two sides, and when they belong together.
use Rattle.std.specs.Prelude.{ℕ, ◌≡◌, ◌⊎◌, ◌-◌, ◌+◌, ◌≤◌, List, [], ◌∷◌, ◌++◌, length, None}
use mathlib.Core.List.{IsPrefix}
use Rattle.wire_msg.specs.Envelope.{Envelope}
use Rattle.wire_msg.specs.Kinds.{short_of}

-- a ring, as proofs tell it from any other one: by the two names under which they keep what was put into it and what was taken
abbrev pub Ring : Type 0
Ring = ℕ × ℕ

-- one side of a link: its two nodes, for how many messages its ring has slots, the messages that went through this end, in
-- order, and how many more may go through before their list has to grow; the messages that the taking end has seen in the
-- ring and not taken yet: none at the end that puts; the ring itself, and how many of its slots the putting end has seen free and
-- not filled yet: none at the end that takes
pub record Side : Type 0 where
  pub sender : ℕ
  pub receiver : ℕ
  pub capacity : ℕ
  pub messages : List Envelope
  pub room : ℕ
  pub seen : List Envelope
  pub ring : Ring
  pub free : ℕ

-- nothing was taken at it yet
abbrev pub unused : Ring → ℕ → ℕ → ℕ → Side
unused ring sender receiver capacity = record {
  sender = sender;
  receiver = receiver;
  capacity = capacity;
  messages = [];
  room = 0;
  seen =
      [];
  ring = ring;
  free = 0;
}

-- nothing was put at it yet, and all slots are free
abbrev pub unused_put : Ring → ℕ → ℕ → ℕ → Side
unused_put ring sender receiver capacity = record (unused ring sender receiver capacity) { free = capacity }

-- a message more went through it
abbrev pub with_message : Side → Envelope → Side
with_message side message = record side { messages = side.messages ++ message ∷ []; room = side.room - 1 }

-- the message was put into the ring through this end
pub record PutNext (message : Envelope) (old new : Side) : Type 0 where
  pub put : new ≡ record (with_message old message) { free = new.free }
  pub slot : old.free ≤ new.free + 1

-- the message was handed back: no slot is seen free, or it is a long one for which no box is there, which comes only once as many messages
-- were put as there are slots
pub record HandedBack (message : Envelope) (old new : Side) : Type 0 where
  pub same : new ≡ record old { free = new.free }
  pub seen : old.free ≤ new.free
  pub full : (new.free ≡ 0) ⊎ ((short_of message.body ≡ None) × (old.capacity ≤ length old.messages))

-- the message went out of the ring through this end: the first of those that were seen in it, where any were
pub record TookNext (message : Envelope) (old new : Side) : Type 0 where
  pub taken : new ≡ record (with_message old message) { seen = new.seen }
  pub first : IsPrefix old.seen (message ∷ new.seen)

-- there is room for so many messages
abbrev pub with_room : Side → ℕ → Side
with_room side room = record side { room = room }

-- the sides have the same two nodes, and what was taken is the front of what was put
pub record Paired (put take : Side) : Type 0 where
  pub sender : put.sender ≡ take.sender
  pub receiver : put.receiver ≡ take.receiver
  pub order : IsPrefix take.messages put.messages
