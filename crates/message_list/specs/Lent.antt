-- Messages as they are lent, known apart by the numbers that they say.
use Rattle.std.specs.Prelude.{◌≡◌, ◌≢◌, ◌==◌, ℕ, ◌+◌, ◌*◌, ◌^◌, Bool, List, ◌∷◌, ◌++◌, length, All, IsTrue, nat_eq, slice_index_or}
use Rattle.std.specs.Prelude.{if◌then◌else◌}
use Rattle.std.specs.Hash as fed
use Rattle.std.specs.Cmp.Lexicographic.{pointwise, bytes_decides}
use Rattle.std.specs.Ordering.{on}
use Rattle.std.proofs.Common.{ap}
use Rattle.wire_msg.specs.Envelope.{Envelope}
use Rattle.wire_msg.specs.Spelling.{truth}
use Rattle.wire_msg.specs.Kinds.{Shape, Brief, Tells, Gives, shape_of, number_of}
use Rattle.wire_msg.specs.declared.body.Body.TheVariants.{AreYouCoordinator}
use Rattle.message_list.specs.declared.opened.Opened.{Opened}
use Rattle.message_list.specs.PackedMessages.{shape_kept, message_of, HasBody, HasPayload}

-- the message at a place of a list
abbrev pub message_at : List Envelope → ℕ → Envelope
message_at messages place = slice_index_or messages place (record { sender = 0; receiver = 1; body = AreYouCoordinator })

-- the number of the kind, a node and a number that are named, or 0, and what else is said
abbrev pub numbers_in : Shape → List ℕ
numbers_in (Brief s) = number_of s.kind ∷ s.creator ∷ s.number ∷ truth s.answer
numbers_in (Tells t) = 7 ∷ t.group.creator ∷ t.group.count ∷ t.members
numbers_in (Gives g id w) = 9 ∷ g.creator ∷ id ∷ g.count ∷ w.queue ∷ w.priority ∷ w.payload

-- all that a message says
abbrev pub numbers_of : Envelope → List ℕ
numbers_of m = m.sender ∷ m.receiver ∷ numbers_in (shape_of m.body)

-- whether two messages are one
abbrev pub same_message : Envelope → Envelope → Bool
same_message = on numbers_of (pointwise nat_eq)

-- the ends, the kind, and the node and the number that are named, as one number
abbrev pub mark_by : ℕ → ℕ → ℕ → ℕ → ℕ → ℕ
mark_by sender receiver kind node number = (((sender * 256 + receiver) * 256 + node) * 256 + kind) * 2 ^ 64 + number

abbrev pub mark : List ℕ → ℕ
mark (sender ∷ receiver ∷ kind ∷ node ∷ number ∷ rest) = mark_by sender receiver kind node number
mark numbers = 0

-- a number that equal messages share
abbrev pub mark_of : Envelope → ℕ
mark_of m = mark (numbers_of m)

-- the count of a Work's group, since one job is sent again in each new group; 0 of a message that is no Work
abbrev pub count : List ℕ → ℕ
count (sender ∷ receiver ∷ kind ∷ node ∷ number ∷ more ∷ rest) = if kind == 9 then more else 0
count numbers = 0

abbrev pub count_of : Envelope → ℕ
count_of m = count (numbers_of m)

-- what a hasher is given of a message
abbrev pub marked : List ℕ → fed.HashWrites
marked numbers = fed.u128 (mark numbers) ++ fed.u64 (count numbers)

pub same_mark : (m n : Envelope) → IsTrue (same_message m n) → marked (numbers_of m) ≡ marked (numbers_of n)
same_mark m n same = ap marked ((bytes_decides (numbers_of m) (numbers_of n)).0 same)

-- ---- a packed message, lent with what is kept beside it

abbrev pub shape_opened : Opened → Shape
shape_opened o = shape_kept o.tasks.now o.works.now o.payloads.now o.packed_message.now

abbrev pub message_opened : Opened → Envelope
message_opened o = message_of o.tasks.now o.works.now o.payloads.now o.packed_message.now

-- it can be read
pub record IsOpened (o : Opened) : Type 0 where
  pub ends : o.packed_message.now.sender ≢ o.packed_message.now.receiver
  pub body : HasBody (length o.tasks.now) (length o.works.now) o.packed_message.now.kind o.packed_message.now
  pub payloads : All (HasPayload (length o.payloads.now)) o.works.now
