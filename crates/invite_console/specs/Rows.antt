-- A node's line in the table that ends a simulation.
use Rattle.std.specs.Prelude.{◌≡◌, ℕ, List, [], ◌∷◌, ◌++◌, codes, decimal, map}
use Rattle.std.specs.List.Sorted.{IsPermutation, IsSorted}
use Rattle.std.specs.Ordering.{nat_cmp, ordering_then}
use Rattle.std.specs.declared.cmp.Ordering.{Ordering}
use Rattle.job_model.specs.declared.job.Job.{Job}
use Rattle.job_model.specs.Durable.{Durable}
use Rattle.node_core.specs.declared.in_hand.InHand.{InHand}
use Rattle.node_core.specs.State.{State}
use Rattle.node_core.specs.Words.{members_of}
use Rattle.console_text.specs.Ends.{line}
use Rattle.node_words.specs.Words.{group_part, ids_text, phase_text}

-- jobs in hand, as the nodes that keep them and their ids there
abbrev pub held_by : InHand → ℕ × ℕ
held_by job = (job.origin, job.id)

abbrev pub pair_text : ℕ × ℕ → List ℕ
pair_text pair = decimal pair.0 ++ codes ":" ++ decimal pair.1

-- pairs, each behind a comma
abbrev pub more_pairs_text : List (ℕ × ℕ) → List ℕ
more_pairs_text [] = []
more_pairs_text (pair ∷ pairs) = codes "," ++ pair_text pair ++ more_pairs_text pairs

-- pairs joined by commas; a dash stands for none
abbrev pub pairs_text : List (ℕ × ℕ) → List ℕ
pairs_text [] = codes "-"
pairs_text (pair ∷ pairs) = pair_text pair ++ more_pairs_text pairs

-- by the node that keeps the job, and then by its id
abbrev pub pair_order : ℕ × ℕ → ℕ × ℕ → Ordering
pair_order x y = ordering_then (nat_cmp x.0 y.0) (nat_cmp x.1 y.1)

-- these are the jobs in hand, in rising order
pub record AreHeld (hand : List InHand) (pairs : List (ℕ × ℕ)) : Type 0 where
  pub same : IsPermutation (map held_by hand) pairs
  pub rising : IsSorted pair_order pairs

-- ids joined by commas; a dash stands for none
abbrev pub job_ids : List Job → List ℕ
job_ids jobs = map (λ (job : Job). job.id) jobs

abbrev pub head_text : ℕ → State → List ℕ
head_text id s = codes "node " ++ decimal id ++ codes " " ++ phase_text s.phase

abbrev pub sets_part : State → List ℕ
sets_part s = codes " up " ++ ids_text s.up ++ codes " members " ++ ids_text (members_of s.task)

abbrev pub jobs_part : Durable → List ℕ
jobs_part d = codes " count " ++ decimal d.counter ++ codes " pending " ++ ids_text (job_ids d.pending)

-- the line of a node that is up, whose hand holds these
abbrev pub up_row : ℕ → State → Durable → List (ℕ × ℕ) → List ℕ
up_row id s d pairs = head_text id s ++ group_part s ++ sets_part s ++ jobs_part d ++ codes " hand " ++ pairs_text pairs

abbrev pub down_row : ℕ → List ℕ
down_row id = codes "node " ++ decimal id ++ codes " Down"

-- a text to which the line of a node that is up was added
abbrev pub HasRow : ℕ → State → Durable → List ℕ → List ℕ → Type 0
HasRow id s d old new = (pairs : List (ℕ × ℕ)) × AreHeld s.hand pairs × (new ≡ old ++ line (up_row id s d pairs))
