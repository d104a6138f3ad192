-- What histories are of which all entries can be taken in some order.
use Rattle.std.specs.Prelude.{ℕ, ◌+◌, List, [], ◌∷◌, length, Option, Some, None}
use Rattle.histories.specs.NodeState.{NodeState, opening}
use Rattle.histories.specs.declared.history_event.HistoryEvent.{HistoryEvent}
use Rattle.histories.specs.HistoryEvent.{Entry}
use Rattle.histories.specs.Bundle.{Bundle}
use Rattle.trace_check.specs.Claims.{Claim, what_at, after_claim}
use Rattle.trace_check.specs.Orders.{IsLegal, IsComplete}

abbrev pub entry_with : Claim → Option HistoryEvent → List Entry → List Entry
entry_with c None es = es
entry_with c (Some what) es = record { what = what; sent = c.sent } ∷ es

-- the entries of the node's history that the trace's entries stand for, from s on
abbrev pub entries_of : ℕ → ℕ → NodeState → List Claim → List Entry
entries_of self nodes s [] = []
entries_of self nodes s (c ∷ cs) = entry_with c (what_at s c) (entries_of self nodes (after_claim self nodes s c) cs)

-- those of all nodes, from n on
abbrev pub entries_from : ℕ → ℕ → List (List Claim) → List (List Entry)
entries_from n nodes [] = []
entries_from n nodes (h ∷ hs) = entries_of n nodes (opening n) h ∷ entries_from (n + 1) nodes hs

-- histories of which all entries can be taken in some order are a bundle
abbrev pub OrdersAreBundles : Type 0
OrdersAreBundles = (hs : List (List Claim)) (order : List ℕ) → IsLegal hs order → IsComplete hs order
    → Bundle (entries_from 0 (length hs) hs)
