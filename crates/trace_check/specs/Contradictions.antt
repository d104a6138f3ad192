-- Entries of one node that can't be, whatever the other nodes do.
use Rattle.std.specs.Prelude.{ℕ, ◌≡◌, ◌+◌, ◌-◌, ◌<◌, ◌≤◌, ◌⊎◌, List, [], ◌∷◌, ◌++◌, length, replicate, Some, None, slice_get}
use Rattle.histories.specs.Lists.{IsAmong}
use Rattle.histories.specs.NodeState.{NodeState, opening}
use Rattle.histories.specs.HistoryEvent.{AreAddressed}
use Rattle.trace_check.specs.declared.contradiction.Contradiction.{Contradiction}
use Rattle.trace_check.specs.declared.contradiction.TheConstants.{MOST_ENTRIES}
use Rattle.trace_check.specs.declared.leftover.Leftover.{Leftover}
use Rattle.trace_check.specs.declared.leftover.Holdup.TheVariants.{Waits}
use Rattle.trace_check.specs.Claims.{Claim, MayCome, state_after, brought_by}
use Rattle.trace_check.specs.Kept.{part}
use Rattle.trace_check.specs.Leftovers.{AreLeftovers, CanReplay}
use Rattle.trace_check.specs.Orders.{history, state_of}
use Rattle.trace_check.specs.Searches.{twin_after}
use Rattle.trace_check.specs.Twins.{opened}
use Rattle.trace_check.specs.Verdicts.{IsRun}

-- an entry of a node can't come, whatever is sent, and each of those before it may come behind those before that
pub record IsStopped (hs : List (List Claim)) (n index : ℕ) : Type 0 where
  pub claim : Claim
  pub next : slice_get (history hs n) index ≡ Some claim
  pub before : CanReplay hs n index
  pub dead : MayCome n (length hs) (state_of hs n index) claim → AreAddressed n (brought_by claim.action) → ⊥

-- what is left and doesn't wait is stopped
abbrev pub LeftoversStop : Type 0
LeftoversStop = (hs : List (List Claim)) (left : List Leftover) (l : Leftover) → AreLeftovers hs left → IsAmong l left
    → (l.holdup ≡ Waits → ⊥) → IsStopped hs l.node l.index

-- ---- where a node opens

-- a node stands as where it opens after so many entries of its history
abbrev pub IsOpenedAt : List (List Claim) → ℕ → ℕ → Type 0
IsOpenedAt hs n many = state_of hs n many ≡ opened n (state_of hs n many).durable

-- and never again up to this one
pub record IsLastOpening (hs : List (List Claim)) (n many first : ℕ) : Type 0 where
  pub within : first ≤ many
  pub stands : IsOpenedAt hs n first
  pub last : (k : ℕ) → first < k → k ≤ many → IsOpenedAt hs n k → ⊥

-- where the entries begin: at the last opening, or so many before the end where that is longer ago
pub record IsStart (hs : List (List Claim)) (n index first : ℕ) : Type 0 where
  pub opening : ℕ
  pub last : IsLastOpening hs n index opening
  pub few : (first ≤ index) × (index < first + MOST_ENTRIES)
  pub whole : (first ≡ opening) ⊎ ((opening < first) × (first + MOST_ENTRIES ≡ index + 1))

-- ---- what can't be

-- Of so many nodes there is no run in which this one has these entries behind one another where it stands so before them: whatever it
-- did before that and does behind them, and whatever the others do.
abbrev pub CantBe : ℕ → ℕ → NodeState → List Claim → Type 0
CantBe nodes n s entries =
    (hs : List (List Claim)) (before behind : List Claim) → length hs ≡ nodes → history hs n ≡ before ++ (entries ++ behind)
    → state_after n nodes (opening n) before ≡ s → IsRun hs → ⊥

-- of so many nodes this one has these entries, and the others have none
abbrev pub lone : ℕ → ℕ → List Claim → List (List Claim)
lone nodes n entries = replicate n [] ++ (entries ∷ replicate (nodes - n - 1) [])

-- The entries of a node since it opened last, up to this one, or the last of them where these are more than so many, and how the node
-- stands
-- before them.
pub record IsCore (hs : List (List Claim)) (n index : ℕ) (c : Contradiction) : Type 0 where
  pub node : c.node ≡ n
  pub start : IsStart hs n index c.first
  pub before : c.before ≡ twin_after hs n c.first
  pub entries : c.trace ≡ lone (length hs) n (part c.first (index + 1) (history hs n))

-- no run has them where the node stands as it did before them
pub record IsContradiction (hs : List (List Claim)) (n index : ℕ) (c : Contradiction) : Type 0 where
  pub core : IsCore hs n index c
  pub cant : CantBe (length hs) n c.before.node (part c.first (index + 1) (history hs n))
