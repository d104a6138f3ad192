-- The jobs in hand, by the nodes that keep them and their ids there.
use Rattle.std.specs.Prelude.{ℕ, ◌==◌, List, Bool, not, ◌&&◌}
use Rattle.std.specs.List.{filter, list_any}
use Rattle.node_core.specs.declared.in_hand.InHand.{InHand}

-- whether it is the job of this keeper and id
abbrev pub is_of : InHand → ℕ → ℕ → Bool
is_of job origin id = job.origin == origin && job.id == id

abbrev pub holds : List InHand → ℕ → ℕ → Bool
holds hand origin id = list_any (λ job. job.origin == origin && job.id == id) hand

abbrev pub without_held : List InHand → ℕ → ℕ → List InHand
without_held hand origin id = filter (λ job. not (job.origin == origin && job.id == id)) hand
