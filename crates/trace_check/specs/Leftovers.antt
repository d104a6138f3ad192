-- What is left where no entry more can be taken, and why.
use Rattle.std.specs.Prelude.{◌≡◌, ◌≢◌, ◌<◌, ℕ, zero, suc, List, [], ◌∷◌, ◌++◌, length, Option, Some, None, slice_get, IfSome, IsSomeAnd}
use Rattle.wire_msg.specs.Envelope.{Envelope}
use Rattle.histories.specs.NodeState.{NodeState}
use Rattle.histories.specs.declared.history_event.HistoryEvent.{HistoryEvent}
use Rattle.histories.specs.HistoryEvent.{AreAddressed}
use Rattle.histories.specs.After.{sent_at}
use Rattle.histories.specs.Possible.{IsPossible}
use Rattle.trace_check.specs.declared.leftover.Holdup.{Holdup}
use Rattle.trace_check.specs.declared.leftover.Holdup.TheVariants.{Waits, Misaddressed, Refused, Sends}
use Rattle.trace_check.specs.declared.leftover.Leftover.{Leftover}
use Rattle.trace_check.specs.Claims.{Claim, MayCome, what_at, brought_by}
use Rattle.trace_check.specs.Orders.{history, taken, state_of, IsSent, IsLegal, IsStuck}

-- what the entry says was done can't come at a node in this state, whatever the entry says that it sent
abbrev pub IsRefused : ℕ → ℕ → NodeState → Claim → Type 0
IsRefused self nodes s c = IsSomeAnd (what_at s c) (λ (what : HistoryEvent). IsPossible self nodes s what) → ⊥

-- nothing is sent where it can
abbrev pub IsSilent : ℕ → ℕ → NodeState → Claim → Type 0
IsSilent self nodes s c = IfSome (what_at s c) (λ (what : HistoryEvent). sent_at self nodes s what ≡ [])

-- it can, and sends these messages
abbrev pub WouldSend : ℕ → ℕ → NodeState → Claim → List Envelope → Type 0
WouldSend self nodes s c ms = IsSomeAnd (what_at s c) (λ (what : HistoryEvent). IsPossible self nodes s what
    × (ms ≡ sent_at self nodes s what))

-- why an entry isn't taken at a node in this state: all but its message is there, or it can't be there, whatever is sent
abbrev pub HoldsUp : ℕ → ℕ → NodeState → Claim → Holdup → Type 0
HoldsUp self nodes s c Waits = MayCome self nodes s c × AreAddressed self (brought_by c.action)
HoldsUp self nodes s c Misaddressed = AreAddressed self (brought_by c.action) → ⊥
HoldsUp self nodes s c (Refused phase) = (phase ≡ s.state.phase) × IsRefused self nodes s c
HoldsUp self nodes s c (Sends ms) = WouldSend self nodes s c ms.items × (ms.items ≢ c.sent)

-- a message that none of the entries sent
pub record IsMissing (hs : List (List Claim)) (past : List ℕ) (ms : List Envelope) : Type 0 where
  pub message : Envelope
  pub alone : ms ≡ message ∷ []
  pub unsent : IsSent hs past message → ⊥

-- where an entry waits, its message is missing
abbrev pub IsLacking : List (List Claim) → List ℕ → Claim → Holdup → Type 0
IsLacking hs past c Waits = IsMissing hs past (brought_by c.action)
IsLacking hs past c holdup = Unit {0}

-- this holds up the entry, which is the next one of its node after these
abbrev pub IsHeldUp : List (List Claim) → List ℕ → ℕ → Claim → Holdup → Type 0
IsHeldUp hs past n c holdup = HoldsUp n (length hs) (state_of hs n (taken n past)) c holdup × IsLacking hs past c holdup

-- the next entry of this node comes behind these, if it has one
abbrev pub AddsLeft : List (List Claim) → List ℕ → ℕ → Option Claim → List Leftover → List Leftover → Type 0
AddsLeft hs past n None front left = left ≡ front
AddsLeft hs past n (Some c) front left = (holdup : Holdup)
    × (left ≡ front ++ record { node = n; index = taken n past; holdup = holdup } ∷ []) × IsHeldUp hs past n c holdup

-- the next entry of each node below this number that has entries left, in the order of the nodes
abbrev pub AreLeftBelow : List (List Claim) → List ℕ → ℕ → List Leftover → Type 0
AreLeftBelow hs past zero left = left ≡ []
AreLeftBelow hs past (suc n) left = (front : List Leftover) × AreLeftBelow hs past n front
    × AddsLeft hs past n (slice_get (history hs n) (taken n past)) front left

-- the next entry of each node that has entries left, once none more can be taken
abbrev pub AreLeftovers : List (List Claim) → List Leftover → Type 0
AreLeftovers hs left = (past : List ℕ) × IsLegal hs past × IsStuck hs past × AreLeftBelow hs past (length hs) left

-- what holds an entry up, but for a wait, holds it up whatever is sent
abbrev pub HoldupsHold : Type 0
HoldupsHold = (self nodes : ℕ) (s : NodeState) (c : Claim) (holdup : Holdup) → (holdup ≡ Waits → ⊥) → HoldsUp self nodes s c holdup
    → MayCome self nodes s c → AreAddressed self (brought_by c.action) → ⊥

-- ---- a node that is brought through its history again

-- each of so many entries may come after those before it
abbrev pub CanReplay : List (List Claim) → ℕ → ℕ → Type 0
CanReplay hs n many = (k : ℕ) (c : Claim) → k < many → slice_get (history hs n) k ≡ Some c → MayCome n (length hs) (state_of hs n k) c

-- the node's entry at this place is held up so; or there is none
abbrev pub IsFound : List (List Claim) → ℕ → ℕ → Option Claim → Option Holdup → Type 0
IsFound hs n place None None = Unit {0}
IsFound hs n place (Some c) (Some holdup) = HoldsUp n (length hs) (state_of hs n place) c holdup
IsFound hs n place c holdup = ⊥
