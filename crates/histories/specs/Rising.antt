-- The counts that a node gives to its groups rise.
use Rattle.std.specs.Prelude.{ℕ, ◌≡◌, ◌<◌, List, [], ◌∷◌, length, slice_get, Some}
use Rattle.histories.specs.NodeState.{opening}
use Rattle.histories.specs.HistoryEvent.{Entry}
use Rattle.histories.specs.History.{counts_given}
use Rattle.histories.specs.Bundle.{Bundle}

-- each number is greater than the one before it
abbrev pub Rises : ℕ → List ℕ → Type 0
Rises last [] = Unit {0}
Rises last (k ∷ ks) = (last < k) × Rises k ks

-- the counts that each node gives rise over all its lives, that of its opening included
abbrev pub EachRises : List (List Entry) → Type 0
EachRises histories = (n : ℕ) (h : List Entry) → slice_get histories n ≡ Some h → Rises 1 (counts_given n (length histories) (opening n) h)

-- the counts given rise in every bundle
abbrev pub EachBundleRises : Type 0
EachBundleRises = (histories : List (List Entry)) → Bundle histories → EachRises histories
