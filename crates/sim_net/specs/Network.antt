-- What the network keeps, and what comes of asking it for a message.
use Rattle.std.specs.Prelude.{ℕ, Bool, true, false, min, max, List, [], ◌∷◌, ◌++◌, map, replicate, if◌then◌else◌, slice_get, slice_set}
use Rattle.std.specs.Prelude.{slice_index_or, Some, None, Result, Ok, Err}
use Rattle.group_task.specs.Ids.{has, with_id, without_id}
use Rattle.group_task.specs.declared.node.TheConstants.{NODES}
use Rattle.wire_msg.specs.Envelope.{Envelope}
use Rattle.sim_net.specs.declared.fault.NetFault.{NetFault}
use Rattle.sim_net.specs.declared.fault.NetFault.TheVariants.{NoSuch, Lost, Cut}

-- all messages that were ever sent, by their numbers from 0 on; of each whether it is lost; and which pairs of nodes
-- are cut, a row for each lesser id with the greater ones
pub record Network : Type 0 where
  pub sent : List Envelope
  pub lost : List Bool
  pub cuts : List (List ℕ)

-- what contracts see of a network: also for how many more messages there is room
pub record Roomy : Type 0 where
  pub network : Network
  pub room : ℕ

-- nothing sent, and no pair cut
abbrev pub silent : Network
silent = record { sent = []; lost = []; cuts = replicate NODES [] }

-- ---- pairs of nodes

-- whether the pair of these two nodes is cut, in whichever order they are named
abbrev pub is_cut : List (List ℕ) → ℕ → ℕ → Bool
is_cut cuts a b = has (slice_index_or cuts (min a b) []) (max a b)

-- the cuts with the pair's greater id put into the row of its lesser one, or taken out
abbrev pub with_pair : (List ℕ → ℕ → List ℕ) → List (List ℕ) → ℕ → ℕ → List (List ℕ)
with_pair change cuts a b = slice_set cuts (min a b) (change (slice_index_or cuts (min a b) []) (max a b))

-- ---- what comes of an act

-- the message of this number, if it was sent and isn't lost
abbrev pub message_at : Network → ℕ → Result Envelope NetFault
message_at net k = elim (slice_get net.sent k) [ None ↦ Err NoSuch | Some m ↦ if slice_index_or net.lost k false then Err Lost else Ok m ]

-- what is delivered under a number: what stands there, unless its pair is cut
abbrev pub delivery : Network → ℕ → Result Envelope NetFault
delivery net k = elim (message_at net k) [ Ok m ↦ if is_cut net.cuts m.sender m.receiver then Err Cut else Ok m | Err why ↦ Err why ]

-- ---- the network after it

-- a message more, not lost
abbrev pub after_sent : Network → Envelope → Network
after_sent net m = record net { sent = net.sent ++ m ∷ []; lost = net.lost ++ false ∷ [] }

abbrev pub after_lost : Network → ℕ → Network
after_lost net k = record net { lost = slice_set net.lost k true }

abbrev pub after_cut : Network → ℕ → ℕ → Network
after_cut net a b = record net { cuts = with_pair with_id net.cuts a b }

abbrev pub after_mend : Network → ℕ → ℕ → Network
after_mend net a b = record net { cuts = with_pair without_id net.cuts a b }

-- messages more, one after another
abbrev pub after_all_sent : Network → List Envelope → Network
after_all_sent net ms = record net { sent = net.sent ++ ms; lost = net.lost ++ map (λ (m : Envelope). false) ms }
