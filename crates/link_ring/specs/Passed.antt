-- How an end of a link keeps the messages that went through it: the short form of each, and a Ready or a Work in a list beside.
use Rattle.std.specs.Prelude.{ℕ, ◌≡◌, ◌≢◌, ◌<◌, ◌≤◌, ◌+◌, List, ◌++◌, length, slice_index_or}
use Rattle.wire_msg.specs.Envelope.{Envelope}
use Rattle.wire_msg.specs.Kinds.{said, IsShort}
use Rattle.wire_msg.specs.declared.body.Body.TheVariants.{AreYouCoordinator}
use Rattle.wire_msg.specs.declared.short.Kind.{Kind}
use Rattle.wire_msg.specs.declared.short.Short.{Short as ShortForm}
use Rattle.message_list.specs.PackedMessages.{MessagesKept}
use Rattle.link_ring.specs.declared.passed.PassedKind.{PassedKind}
use Rattle.link_ring.specs.declared.passed.PassedKind.TheVariants.{Short, Long}
use Rattle.link_ring.specs.declared.passed.Passed.{Passed}

-- the short form, where it is of this kind
abbrev pub short_by : Kind → Passed → ShortForm
short_by kind p = record { kind = kind; answer = p.answer; creator = p.creator; number = p.number }

-- the long message of this number
abbrev pub long_at : List Envelope → ℕ → Envelope
long_at longs number = slice_index_or longs number (record { sender = 0; receiver = 0; body = AreYouCoordinator })

abbrev pub message_by : List Envelope → PassedKind → Passed → Envelope
message_by longs (Short kind) p = record { sender = p.sender; receiver = p.receiver; body = said (short_by kind p) }
message_by longs Long p = long_at longs p.number

-- the message that went through, where these are the long ones
abbrev pub message_passed : List Envelope → Passed → Envelope
message_passed longs p = message_by longs p.kind p

-- a short form is that of a body, or the long message is there
abbrev pub HasBody : ℕ → PassedKind → Passed → Type 0
HasBody longs (Short kind) p = IsShort (short_by kind p)
HasBody longs Long p = p.number < longs

-- it can be read back, where so many long messages are kept
pub record IsRead (longs : ℕ) (p : Passed) : Type 0 where
  pub differ : p.sender ≢ p.receiver
  pub body : HasBody longs p.kind p

-- the message is kept so; a long one was added to the list of these
pub record Packs (message : Envelope) (p : Passed) (old new : MessagesKept) : Type 0 where
  pub more : List Envelope
  pub longs : new.messages ≡ old.messages ++ more
  pub said : message_passed new.messages p ≡ message
  pub read : IsRead (length new.messages) p
  pub room : old.room ≤ new.room + 1
