-- All that was done with a network, and what it says of each number: delivery as a function of what was done, not of what
-- is kept.
use Rattle.std.specs.Prelude.{ℕ, suc, min, max, ◌≡◌, ◌<◌, Bool, false, not, ◌&&◌, ◌||◌, ◌==◌, nat_lt, List, [], ◌∷◌, if◌then◌else◌}
use Rattle.std.specs.Prelude.{slice_get, Option, Some, None, Result, Ok, Err}
use Rattle.group_task.specs.declared.node.TheConstants.{NODES}
use Rattle.wire_msg.specs.Envelope.{Envelope}
use Rattle.sim_net.specs.declared.fault.NetFault.{NetFault}
use Rattle.sim_net.specs.declared.fault.NetFault.TheVariants.{NoSuch, Lost, Cut}
use Rattle.sim_net.specs.Network.{Network, silent, delivery, after_sent, after_lost, after_cut, after_mend}

-- something that was done
pub data Change : Type 0 where
  Sends : (message : Envelope) → Change
  Loses : (number : ℕ) → Change
  Cuts : (a b : ℕ) → Change
  Mends : (a b : ℕ) → Change

abbrev pub after_change : Network → Change → Network
after_change net (Sends m) = after_sent net m
after_change net (Loses k) = after_lost net k
after_change net (Cuts a b) = after_cut net a b
after_change net (Mends a b) = after_mend net a b

-- the network after these changes, the first of them first
abbrev pub after_changes : Network → List Change → Network
after_changes net [] = net
after_changes net (c ∷ cs) = after_changes (after_change net c) cs

-- ---- what was done, in itself

-- all messages that were sent, in their order
abbrev pub sent_by : List Change → List Envelope
sent_by [] = []
sent_by (Sends m ∷ cs) = m ∷ sent_by cs
sent_by (Loses k ∷ cs) = sent_by cs
sent_by (Cuts a b ∷ cs) = sent_by cs
sent_by (Mends a b ∷ cs) = sent_by cs

-- whether message k was lost once it was there, where so many were sent before
abbrev pub was_lost : ℕ → ℕ → List Change → Bool
was_lost k sent [] = false
was_lost k sent (Sends m ∷ cs) = was_lost k (suc sent) cs
was_lost k sent (Loses j ∷ cs) = (k == j && nat_lt k sent) || was_lost k sent cs
was_lost k sent (Cuts a b ∷ cs) = was_lost k sent cs
was_lost k sent (Mends a b ∷ cs) = was_lost k sent cs

-- the same two nodes, in whichever order
abbrev pub same_pair : ℕ → ℕ → ℕ → ℕ → Bool
same_pair a b c d = min a b == min c d && max a b == max c d

-- whether the last cut or mend of the two nodes is a cut, and where there is none, what was before
abbrev pub was_cut : ℕ → ℕ → Bool → List Change → Bool
was_cut a b before [] = before
was_cut a b before (Sends m ∷ cs) = was_cut a b before cs
was_cut a b before (Loses k ∷ cs) = was_cut a b before cs
was_cut a b before (Cuts c d ∷ cs) = was_cut a b (same_pair a b c d || before) cs
was_cut a b before (Mends c d ∷ cs) = was_cut a b (not (same_pair a b c d) && before) cs

abbrev pub delivered_as : List Change → Option Envelope → Bool → Result Envelope NetFault
delivered_as changes None lost = Err NoSuch
delivered_as changes (Some m) lost = if lost then Err Lost else (if was_cut m.sender m.receiver false changes then Err Cut else Ok m)

-- what is delivered under a number after these changes
abbrev pub delivered : List Change → ℕ → Result Envelope NetFault
delivered changes k = delivered_as changes (slice_get (sent_by changes) k) (was_lost k 0 changes)

-- only nodes are cut and mended
abbrev pub AreOfNodes : List Change → Type 0
AreOfNodes [] = Unit {0}
AreOfNodes (Sends m ∷ cs) = AreOfNodes cs
AreOfNodes (Loses k ∷ cs) = AreOfNodes cs
AreOfNodes (Cuts a b ∷ cs) = (a < NODES) × (b < NODES) × AreOfNodes cs
AreOfNodes (Mends a b ∷ cs) = (a < NODES) × (b < NODES) × AreOfNodes cs

-- NoSuch exactly where no message has the number; else Lost exactly where it was lost before; else Cut exactly where the
-- last cut or mend of its two nodes is a cut; else the message comes
abbrev pub DeliveredByChanges : Type 0
DeliveredByChanges = (changes : List Change) → AreOfNodes changes → (k : ℕ)
    → delivery (after_changes silent changes) k ≡ delivered changes k
