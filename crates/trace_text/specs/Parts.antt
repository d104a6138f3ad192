-- The text of a trace in parts, one after another.
use Rattle.std.specs.Prelude.{ℕ, List, [], ◌∷◌, codes, decimal}
use Rattle.json.specs.Token.{begin_array, begin_object, end_array, end_object, key, number, string}
use Rattle.json.specs.Print.{print}

-- in front of the histories
abbrev pub trace_head : List ℕ
trace_head = print (begin_object ∷ key (codes "histories") ∷ begin_array ∷ [])

-- behind them, with how many nodes there are
abbrev pub trace_end : ℕ → List ℕ
trace_end nodes = print (end_array ∷ key (codes "nodes") ∷ number (decimal nodes) ∷ end_object ∷ [])

-- and with this text of the order of its turns
abbrev pub ordered_end : ℕ → List ℕ → List ℕ
ordered_end nodes order = print (end_array ∷ key (codes "nodes") ∷ number (decimal nodes) ∷ key (codes "order") ∷ string order ∷ end_object
    ∷ [])
