-- The grammar of messages: which of them have a spelling, and the one spelling of each.
use Rattle.std.specs.Prelude.{◌≡◌, ℕ, ◌<◌, ◌≤◌, ◌^◌, List, [], ◌∷◌, ◌++◌, length}
use Rattle.std.specs.Int.{w64, to_be_bytes}
use Rattle.group_task.specs.declared.node.TheConstants.{NODES}
use Rattle.lease_message.specs.declared.lease_name.TheConstants.{NAME_CAPACITY}
use Rattle.lease_message.specs.declared.message.LeaseBody.{LeaseBody}
use Rattle.lease_message.specs.declared.message.LeaseBody.TheVariants.{Request, Grant, Refusal, Release}
use Rattle.lease_message.specs.declared.message.LeaseClient.{LeaseClient}
use Rattle.lease_message.specs.declared.message.LeaseMessage.{LeaseMessage}
use Rattle.lease_message.specs.declared.message.Reason.{Reason}
use Rattle.lease_message.specs.declared.message.Reason.TheVariants as reason

-- 1 to 64 bytes
pub record IsName (bytes : List ℕ) : Type 0 where
  pub some : 1 ≤ length bytes
  pub fits : length bytes ≤ NAME_CAPACITY

abbrev pub number : ℕ → List ℕ
number n = to_be_bytes w64 n

abbrev pub kind_of : LeaseBody → ℕ
kind_of (Request n keeps voters) = 1
kind_of (Grant n) = 2
kind_of (Refusal n why lasts) = 3
kind_of Release = 4

abbrev pub reason_number : Reason → ℕ
reason_number reason.Waiting = 1
reason_number reason.Held = 2
reason_number reason.Epoch = 3
reason_number reason.Terms = 4
reason_number reason.Full = 5

-- the machine, its process, and the number there
abbrev pub client_bytes : LeaseClient → List ℕ
client_bytes c = c.machine ∷ number c.process ++ number c.number

-- what a body says
abbrev pub content : LeaseBody → List ℕ
content (Request n keeps list) = number n ++ (number keeps ++ number list)
content (Grant n) = number n
content (Refusal n why lasts) = number n ++ (reason_number why ∷ number lasts)
content Release = []

-- version, kind, client, voter, epoch, what the body says, and the name up to the end
abbrev pub spelling : LeaseMessage → List ℕ
spelling m = 1 ∷ kind_of m.body ∷ client_bytes m.client ++ (m.voter ∷ number m.epoch ++ (content m.body ++ m.name))

-- ---- what has a spelling

pub record IsClient (c : LeaseClient) : Type 0 where
  pub machine : c.machine < NODES
  pub process : c.process < 2 ^ 64
  pub number : c.number < 2 ^ 64

abbrev pub IsBody : LeaseBody → Type 0
IsBody (Request n keeps list) = (n < 2 ^ 64) × (keeps < 2 ^ 64) × (list < 2 ^ 64)
IsBody (Grant n) = n < 2 ^ 64
IsBody (Refusal n why lasts) = (n < 2 ^ 64) × (lasts < 2 ^ 64)
IsBody Release = Unit {0}

pub record IsMessage (m : LeaseMessage) : Type 0 where
  pub client : IsClient m.client
  pub voter : m.voter < NODES
  pub epoch : m.epoch < 2 ^ 64
  pub body : IsBody m.body
  pub name : IsName m.name

-- the bytes are the spelling of the message
pub record Spells (m : LeaseMessage) (bytes : List ℕ) : Type 0 where
  pub message : IsMessage m
  pub spelled : bytes ≡ spelling m
