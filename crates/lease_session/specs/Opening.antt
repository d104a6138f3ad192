-- What the bytes of a message bring, under a key or under none.
use Rattle.std.specs.Prelude.{ℕ, ◌≡◌, List, Bool, true, false, get_or, Option, Some, None}
use Rattle.sealed_msg.specs.declared.stamp.Stamp.{Stamp}
use Rattle.sealed_msg.specs.Stamps.{is_above}
use Rattle.sealed_msg.specs.Sealing.{opened}
use Rattle.lease_message.specs.declared.message.LeaseBody.{LeaseBody}
use Rattle.lease_message.specs.declared.message.LeaseBody.TheVariants.{Request, Grant, Refusal, Release}
use Rattle.lease_message.specs.declared.message.LeaseMessage.{LeaseMessage}
use Rattle.lease_message.specs.Spelling.{Spells}
use Rattle.lease_session.specs.declared.asked.Came.{Came}
use Rattle.lease_session.specs.declared.asked.Came.TheVariants as came
use Rattle.lease_session.specs.declared.refusing.Refusal.TheVariants as why
use Rattle.lease_session.specs.declared.seals.LeaseSeal.{LeaseSeal}

abbrev pub sender_by : LeaseMessage → LeaseBody → ℕ
sender_by m (Request number keeps list) = m.client.machine
sender_by m (Grant number) = m.voter
sender_by m (Refusal number reason lasts) = m.voter
sender_by m Release = m.client.machine

-- who sent a message
abbrev pub sender_of : LeaseMessage → ℕ
sender_of m = sender_by m m.body

-- ---- under a key

abbrev pub opened_other : Option (List ℕ) → List ℕ → Option (List ℕ × Stamp)
opened_other None bytes = None
opened_other (Some key) bytes = opened key bytes

abbrev pub opened_else : Option (List ℕ × Stamp) → Option (List ℕ) → List ℕ → Option (List ℕ × Stamp)
opened_else None other bytes = opened_other other bytes
opened_else (Some it) other bytes = Some it

-- by one of the keys
abbrev pub opened_under : LeaseSeal → List ℕ → Option (List ℕ × Stamp)
opened_under q bytes = opened_else (opened q.own bytes) q.other bytes

-- nothing is sealed with it
abbrev pub no_stamp : Stamp
no_stamp = record { life = 0; number = 0 }

-- whether it is above what was taken last of its sender
abbrev pub is_fresh : LeaseSeal → LeaseMessage → Stamp → Bool
is_fresh q m stamp = is_above stamp (get_or q.last (sender_of m) no_stamp)

abbrev pub came_fresh : Bool → LeaseMessage → Came
came_fresh true m = came.Message m
came_fresh false m = came.Unsealed why.Stale

-- ---- what is brought, if anything

-- the message that they spell, where it isn't stale
abbrev pub BringsPlain : LeaseSeal → List ℕ → Stamp → Option Came → Type 0
BringsPlain q bytes stamp None = (m : LeaseMessage) → Spells m bytes → ⊥
BringsPlain q bytes stamp (Some it) = (m : LeaseMessage) × Spells m bytes × (it ≡ came_fresh (is_fresh q m stamp) m)

abbrev pub BringsOpened : LeaseSeal → Option (List ℕ × Stamp) → Option Came → Type 0
BringsOpened q None it = it ≡ Some (came.Unsealed why.Forged)
BringsOpened q (Some parts) it = BringsPlain q parts.0 parts.1 it

-- the message that they spell
abbrev pub BringsUnsealed : List ℕ → Option Came → Type 0
BringsUnsealed bytes None = (m : LeaseMessage) → Spells m bytes → ⊥
BringsUnsealed bytes (Some it) = (m : LeaseMessage) × Spells m bytes × (it ≡ came.Message m)

abbrev pub Brings : Option LeaseSeal → List ℕ → Option Came → Type 0
Brings None bytes it = BringsUnsealed bytes it
Brings (Some q) bytes it = BringsOpened q (opened_under q bytes) it

-- a word may spell no bytes
abbrev pub BringsBy : Option LeaseSeal → Option (List ℕ) → Option Came → Type 0
BringsBy seal None it = it ≡ None
BringsBy seal (Some bytes) it = Brings seal bytes it
