-- The lines that a process of leases writes.
use Rattle.std.specs.Prelude.{ℕ, List, [], ◌∷◌, ◌++◌, codes, decimal, Option, Some, None}
use Rattle.hex.specs.Hex.{encode_lower}
use Rattle.lease_runs.specs.Voter.{Client}
use Rattle.lease_network.specs.Network.{Name, Message, request, grant, release}
use Rattle.lease_message.specs.declared.message.LeaseClient.{LeaseClient}
use Rattle.lease_message.specs.declared.message.LeaseBody.{LeaseBody}
use Rattle.lease_message.specs.declared.message.LeaseBody.TheVariants.{Request, Grant, Refusal, Release}
use Rattle.lease_message.specs.declared.message.LeaseMessage.{LeaseMessage}
use Rattle.lease_session.specs.declared.refusing.Refusal.{Refusal as Refused}
use Rattle.lease_session.specs.declared.refusing.Refusal.TheVariants as why

-- ---- what messages say

-- the client that a message names
abbrev pub asker : LeaseClient → Client
asker c = record { machine = c.machine; boot = c.process; number = c.number }

abbrev pub said_by : LeaseMessage → LeaseBody → List Message
said_by m (Request number keeps list) = request m.name (asker m.client) number m.epoch ∷ []
said_by m (Grant number) = grant m.name (asker m.client) number m.voter ∷ []
said_by m (Refusal number reason lasts) = []
said_by m Release = release m.name (asker m.client) m.epoch ∷ []

-- what a message says over a network: one thing, or nothing that counts
abbrev pub said : LeaseMessage → List Message
said m = said_by m m.body

-- ---- lines

-- A message to a machine, with the bytes that it is sent as; a user holds the lease of a name under an epoch until a time of the own clock;
-- it holds it no more; a
-- line, or what it brings, isn't taken; what a user asks isn't; when something is due next, if anything is; the device failed.
pub data Row : Type 0 where
  send : ℕ → LeaseMessage → List ℕ → Row
  held : Name → ℕ → ℕ → ℕ → Row
  lost : Name → ℕ → Row
  refused : Refused → Row
  unserved : Refused → Name → ℕ → Row
  next : Option ℕ → Row
  fault : Row

abbrev pub refusal_word : Refused → List ℕ
refusal_word why.Bad = codes "Bad"
refusal_word why.Time = codes "Time"
refusal_word why.Terms = codes "Terms"
refusal_word why.Forged = codes "Forged"
refusal_word why.Stale = codes "Stale"
refusal_word why.Claimed = codes "Claimed"
refusal_word why.Full = codes "Full"
refusal_word why.Exhausted = codes "Exhausted"
refusal_word why.Waiting = codes "Waiting"
refusal_word why.Unclaimed = codes "Unclaimed"

abbrev pub time_text : Option ℕ → List ℕ
time_text None = []
time_text (Some time) = codes " " ++ decimal time

abbrev pub row_text : Row → List ℕ
row_text (send to message bytes) = codes "send " ++ decimal to ++ codes " " ++ encode_lower bytes ++ codes "\n"
row_text (held name user epoch until) = codes "held " ++ name ++ codes " " ++ decimal user ++ codes " " ++ decimal epoch ++ codes " "
    ++ decimal until ++ codes "\n"
row_text (lost name epoch) = codes "lost " ++ name ++ codes " " ++ decimal epoch ++ codes "\n"
row_text (refused why) = codes "refused " ++ refusal_word why ++ codes "\n"
row_text (unserved why name user) = codes "refused " ++ refusal_word why ++ codes " " ++ name ++ codes " " ++ decimal user ++ codes "\n"
row_text (next time) = codes "next" ++ time_text time ++ codes "\n"
row_text fault = codes "fault Device\n"
