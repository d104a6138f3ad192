-- Reading from left to right: each reader answers what stands at the front, and the bytes after it.
use Rattle.std.specs.Prelude.{ℕ, List, [], ◌∷◌, length, take, drop, Option, Some, None, option_and_then, option_map, nat_lt, ◌==◌, ◌||◌}
use Rattle.std.specs.Prelude.{if◌then◌else◌}
use Rattle.std.specs.Int.{Width, w64, byte_len, from_be_bytes}
use Rattle.group_task.specs.declared.node.TheConstants.{NODES}
use Rattle.lease_message.specs.declared.lease_name.TheConstants.{NAME_CAPACITY}
use Rattle.lease_message.specs.declared.message.LeaseBody.{LeaseBody}
use Rattle.lease_message.specs.declared.message.LeaseBody.TheVariants.{Request, Grant, Refusal, Release}
use Rattle.lease_message.specs.declared.message.LeaseClient.{LeaseClient}
use Rattle.lease_message.specs.declared.message.LeaseMessage.{LeaseMessage}
use Rattle.lease_message.specs.declared.message.Reason.{Reason}
use Rattle.lease_message.specs.declared.message.Reason.TheVariants as reason

infixl 10 ◌>>=◌
abbrev pub ◌>>=◌ : {A B : Type 0} → Option A → (A → Option B) → Option B
o >>= f = option_and_then f o

-- what a reader answered, with the bytes that it left
abbrev pub seen : {X : Type 0} → Option X → List ℕ → Option (X × List ℕ)
seen o rest = option_map (λ x. (x, rest)) o

abbrev pub byte_at : List ℕ → Option (ℕ × List ℕ)
byte_at [] = None
byte_at (b ∷ rest) = Some (b, rest)

abbrev pub number_at : Width → List ℕ → Option (ℕ × List ℕ)
number_at w bytes = if nat_lt (length bytes) (byte_len w) then None
    else Some (from_be_bytes w (take (byte_len w) bytes), drop (byte_len w) bytes)

-- a byte below a limit
unfoldable pub below_at : ℕ → List ℕ → Option (ℕ × List ℕ)
below_at limit bytes = do
  b ← byte_at bytes
  if nat_lt b.0 limit then Some b else None

unfoldable pub client_at : List ℕ → Option (LeaseClient × List ℕ)
client_at bytes = do
  machine ← below_at NODES bytes
  process ← number_at w64 machine.1
  number ← number_at w64 process.1
  Some (record { machine = machine.0; process = process.0; number = number.0 }, number.1)

abbrev pub reason_numbered : ℕ → Option Reason
reason_numbered n =
    if n == 1 then Some reason.Waiting else
    if n == 2 then Some reason.Held else
    if n == 3 then Some reason.Epoch else
    if n == 4 then Some reason.Terms else
    if n == 5 then Some reason.Full else None

unfoldable pub reason_at : List ℕ → Option (Reason × List ℕ)
reason_at bytes = do
  n ← byte_at bytes
  why ← reason_numbered n.0
  Some (why, n.1)

unfoldable pub request_at : List ℕ → Option (LeaseBody × List ℕ)
request_at bytes = do
  number ← number_at w64 bytes
  keeps ← number_at w64 number.1
  list ← number_at w64 keeps.1
  Some (Request number.0 keeps.0 list.0, list.1)

unfoldable pub grant_at : List ℕ → Option (LeaseBody × List ℕ)
grant_at bytes = do
  number ← number_at w64 bytes
  Some (Grant number.0, number.1)

unfoldable pub refusal_at : List ℕ → Option (LeaseBody × List ℕ)
refusal_at bytes = do
  number ← number_at w64 bytes
  why ← reason_at number.1
  lasts ← number_at w64 why.1
  Some (Refusal number.0 why.0 lasts.0, lasts.1)

-- a body of this kind
unfoldable pub body_at : ℕ → List ℕ → Option (LeaseBody × List ℕ)
body_at kind bytes =
    if kind == 1 then request_at bytes else
    if kind == 2 then grant_at bytes else
    if kind == 3 then refusal_at bytes else
    if kind == 4 then Some (Release, bytes) else None

-- a name, which ends with the bytes
unfoldable pub name_at : List ℕ → Option (List ℕ)
name_at bytes = if (length bytes == 0) || nat_lt NAME_CAPACITY (length bytes) then None else Some bytes

-- the kind, behind the version
unfoldable pub kind_at : List ℕ → Option (ℕ × List ℕ)
kind_at bytes = do
  version ← byte_at bytes
  if version.0 == 1 then byte_at version.1 else None

-- all of the bytes
unfoldable pub whole_at : List ℕ → Option LeaseMessage
whole_at bytes = do
  kind ← kind_at bytes
  client ← client_at kind.1
  voter ← below_at NODES client.1
  epoch ← number_at w64 voter.1
  body ← body_at kind.0 epoch.1
  name ← name_at body.1
  Some (record { client = client.0; voter = voter.0; epoch = epoch.0; body = body.0; name = name })
