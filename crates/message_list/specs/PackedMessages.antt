-- How messages are kept: a packed message of fixed size for each, and what is longer in lists beside it.
use Rattle.std.specs.Prelude.{ℕ, ◌≢◌, ◌+◌, ◌<◌, ◌≤◌, Bool, true, false, List, [], ◌∷◌, length, take, drop, All, Option, Some, None}
use Rattle.std.specs.Prelude.{slice_index_or}
use Rattle.job_model.specs.declared.payload.TheConstants.{PAYLOAD_CAPACITY}
use Rattle.group_task.specs.Assignment.{Assignment}
use Rattle.wire_msg.specs.Envelope.{Envelope}
use Rattle.wire_msg.specs.Kinds.{Shape, Brief, Tells, Gives, shape_of, body_of, no_group, IsShort}
use Rattle.wire_msg.specs.declared.short.Kind.{Kind}
use Rattle.wire_msg.specs.declared.short.Short.{Short}
use Rattle.message_list.specs.declared.packed_message.PackedKind.{PackedKind}
use Rattle.message_list.specs.declared.packed_message.PackedKind.TheVariants as kind
use Rattle.message_list.specs.declared.packed_message.PackedMessage.{PackedMessage}
use Rattle.message_list.specs.declared.packed_message.PackedWork.{PackedWork}

-- ---- what is kept of a body

-- its short form, or where its task or work stands in the lists beside
abbrev pub letter_by : ℕ → ℕ → ℕ → ℕ → Shape → PackedMessage
letter_by tasks works sender receiver (Brief s) = record {
  sender = sender;
  receiver = receiver;
  kind = kind.Short s.kind;
  answer =
      s.answer;
  creator = s.creator;
  number = s.number;
}
letter_by tasks works sender receiver (Tells t) = record {
  sender = sender;
  receiver = receiver;
  kind = kind.Ready;
  answer =
      false;
  creator = sender;
  number = tasks;
}
letter_by tasks works sender receiver (Gives g id w) = record {
  sender = sender;
  receiver = receiver;
  kind = kind.Work;
  answer =
      false;
  creator = sender;
  number = works;
}

-- the packed message of a message, where so many tasks and works are kept before it
abbrev pub letter_of : ℕ → ℕ → Envelope → PackedMessage
letter_of tasks works m = letter_by tasks works m.sender m.receiver (shape_of m.body)

abbrev pub task_kept : Shape → List Assignment
task_kept (Tells t) = t ∷ []
task_kept shape = []

-- a work whose payload begins here
abbrev pub work_kept : ℕ → Shape → List PackedWork
work_kept start (Gives g id w) = record {
  group = g;
  id = id;
  queue = w.queue;
  priority = w.priority;
  start = start;
  len =
      length w.payload;
} ∷ []
work_kept start shape = []

abbrev pub payload_kept : Shape → List ℕ
payload_kept (Gives g id w) = w.payload
payload_kept shape = []

-- ---- what a packed message says

abbrev pub task_at : List Assignment → ℕ → Assignment
task_at tasks place = slice_index_or tasks place (record { group = no_group; members = [] })

abbrev pub work_at : List PackedWork → ℕ → PackedWork
work_at works place = slice_index_or works place (record { group = no_group; id = 0; queue = 0; priority = 0; start = 0; len = 0 })

abbrev pub payload_of : List ℕ → PackedWork → List ℕ
payload_of payloads w = take w.len (drop w.start payloads)

abbrev pub work_said : List ℕ → PackedWork → Shape
work_said payloads w = Gives w.group w.id (record { queue = w.queue; priority = w.priority; payload = payload_of payloads w })

-- the short form in a packed message, if it has this kind
abbrev pub short_by : Kind → PackedMessage → Short
short_by k l = record { kind = k; answer = l.answer; creator = l.creator; number = l.number }

abbrev pub short_kept : PackedKind → PackedMessage → Option Short
short_kept (kind.Short k) l = Some (short_by k l)
short_kept other l = None

abbrev pub shape_by : List Assignment → List PackedWork → List ℕ → PackedKind → PackedMessage → Shape
shape_by tasks works payloads (kind.Short k) l = Brief (short_by k l)
shape_by tasks works payloads kind.Ready l = Tells (task_at tasks l.number)
shape_by tasks works payloads kind.Work l = work_said payloads (work_at works l.number)

abbrev pub shape_kept : List Assignment → List PackedWork → List ℕ → PackedMessage → Shape
shape_kept tasks works payloads l = shape_by tasks works payloads l.kind l

-- the message that was kept
abbrev pub message_of : List Assignment → List PackedWork → List ℕ → PackedMessage → Envelope
message_of tasks works payloads l = record { sender = l.sender; receiver = l.receiver; body = body_of (shape_kept tasks works payloads l) }

-- whether a packed message alone says all that its message does
abbrev pub is_whole : PackedKind → Bool
is_whole (kind.Short k) = true
is_whole other = false

-- ---- what can be read back

abbrev pub HasBody : ℕ → ℕ → PackedKind → PackedMessage → Type 0
HasBody tasks works (kind.Short k) l = IsShort (short_by k l)
HasBody tasks works kind.Ready l = l.number < tasks
HasBody tasks works kind.Work l = l.number < works

-- a packed message between two nodes, whose short form is that of a body, or whose place in the list beside is there
pub record CanBeRead (tasks works : ℕ) (l : PackedMessage) : Type 0 where
  pub differ : l.sender ≢ l.receiver
  pub body : HasBody tasks works l.kind l

-- the payload is there
pub record HasPayload (payloads : ℕ) (w : PackedWork) : Type 0 where
  pub within : w.start + w.len ≤ payloads
  pub fits : w.len ≤ PAYLOAD_CAPACITY

-- all that is kept can be read back
pub record AreRead (letters : List PackedMessage) (tasks : List Assignment) (works : List PackedWork) (payloads : List ℕ) : Type 0 where
  pub each_letter : All (CanBeRead (length tasks) (length works)) letters
  pub each_work : All (HasPayload (length payloads)) works

-- what contracts see of a list of messages: the messages, and for how many more there is room
pub record MessagesKept : Type 0 where
  pub messages : List Envelope
  pub room : ℕ

-- the sender and the receiver
abbrev pub ends_of : Envelope → ℕ × ℕ
ends_of m = (m.sender, m.receiver)
