-- What a verdict says, and that it decides.
use Rattle.std.specs.Prelude.{◌≡◌, ◌<◌, ℕ, ◌+◌, ◌⊎◌, List, ◌∷◌, length, reverse, Some, slice_get}
use Rattle.wire_msg.specs.Envelope.{Envelope}
use Rattle.histories.specs.Lists.{IsAmong}
use Rattle.trace_check.specs.declared.trace.Verdict.{Verdict}
use Rattle.trace_check.specs.declared.trace.Verdict.TheVariants.{Run, NotARun}
use Rattle.trace_check.specs.Claims.{Claim, after_claim}
use Rattle.trace_check.specs.Orders.{history, taken, state_of, IsSent, IsLegal, IsStuck, IsComplete, IsLeast}

-- this is the least node with entries left after these, and the index of its next
abbrev pub IsFirstLeft : List (List Claim) → List ℕ → ℕ → ℕ → Type 0
IsFirstLeft hs past node index = (index ≡ taken node past) × (index < length (history hs node))
    × ((m : ℕ) → m < node → taken m past ≡ length (history hs m))

-- all entries are taken in this order; or none more can be after some others, and then the least node with entries left is
-- named. At each turn the least node that could took its entry
abbrev pub IsVerdict : List (List Claim) → Verdict → Type 0
IsVerdict hs (Run order) = IsLegal hs (reverse order.items) × IsLeast hs (reverse order.items) × IsComplete hs (reverse order.items)
IsVerdict hs (NotARun node index) =
    (past : List ℕ) × IsLegal hs past × IsLeast hs past × IsStuck hs past × IsFirstLeft hs past node index

-- the order of the run, where the verdict is one
abbrev pub IsOrderOf : Verdict → List ℕ → Type 0
IsOrderOf (Run run) order = order ≡ run.items
IsOrderOf (NotARun node index) order = Unit {0}

-- the entries that can be taken are, in this order: at each turn that of the least node that could, until none could
pub record AreTaken (hs : List (List Claim)) (verdict : Verdict) (order : List ℕ) : Type 0 where
  pub legal : IsLegal hs (reverse order)
  pub least : IsLeast hs (reverse order)
  pub stuck : IsStuck hs (reverse order)
  pub run : IsOrderOf verdict order

-- some order of the histories is a run
abbrev pub IsRun : List (List Claim) → Type 0
IsRun hs = (order : List ℕ) × IsLegal hs order × IsComplete hs order

-- so the verdict is Run exactly where some order is a run
abbrev pub DecidesRun : List (List Claim) → Verdict → Type 0
DecidesRun hs (Run order) = IsRun hs
DecidesRun hs (NotARun node index) = IsRun hs → ⊥

abbrev pub VerdictsDecide : Type 0
VerdictsDecide = (hs : List (List Claim)) (v : Verdict) → IsVerdict hs v → DecidesRun hs v

-- what one turn changes: the state of its node, and what is sent
pub record Turned (hs : List (List Claim)) (past : List ℕ) (n : ℕ) (c : Claim) : Type 0 where
  pub state : state_of hs n (taken n past + 1) ≡ after_claim n (length hs) (state_of hs n (taken n past)) c
  pub sends : (m : Envelope) → IsSent hs (n ∷ past) m → IsSent hs past m ⊎ IsAmong m c.sent
  pub keeps : (m : Envelope) → IsSent hs past m → IsSent hs (n ∷ past) m
  pub adds : (m : Envelope) → IsAmong m c.sent → IsSent hs (n ∷ past) m

abbrev pub TurnsGoOn : Type 0
TurnsGoOn = (hs : List (List Claim)) (past : List ℕ) (n : ℕ) (c : Claim) → slice_get (history hs n) (taken n past) ≡ Some c
    → Turned hs past n c
