-- Plans as text.
use Rattle.std.specs.Prelude.{◌≡◌, ◌≤◌, ℕ, List, [], ◌∷◌, length, bytes_eq, codes, if◌then◌else◌, Option, Some, None, Result, Ok, Err}
use Rattle.group_task.specs.declared.node.TheConstants.{NODES}
use Rattle.line_words.specs.Words.{words_of}
use Rattle.line_words.specs.Lines.{lines_of}
use Rattle.schedule.specs.declared.size.Size.{Size}
use Rattle.schedule.specs.declared.size.TheConstants.{LEAST_CAPACITY, MOST_CAPACITY}
use Rattle.schedule.specs.Fields.{number_between}
use Rattle.schedule.specs.Text.{size_of}
use Rattle.node_lock.specs.Planned.{Planned}
use Rattle.node_threads.specs.declared.size.RunSize.{RunSize}
use Rattle.node_threads.specs.Nodes.{PollOthers}
use Rattle.threads_console.specs.declared.turn.PlanTurn.{PlanTurn}
use Rattle.threads_console.specs.Lines.{LinesLeft, all_left}
use Rattle.threads_console.specs.Planning.{ArePlanned}
use Rattle.threads_console.specs.Turns.{line_of}

-- the size of a run, and the turns of its workers, each with its node
pub record Script : Type 0 where
  pub size : RunSize
  pub turns : List (ℕ × PlanTurn)

abbrev pub script : RunSize → List (ℕ × PlanTurn) → Script
script size turns = record { size = size; turns = turns }

abbrev pub sized : Size → ℕ → RunSize
sized cluster capacity = record { nodes = cluster.nodes; slots = cluster.slots; capacity = capacity }

-- for how many messages each link has room, by the words of its line
abbrev pub capacity_of : List (List ℕ) → Option ℕ
capacity_of [] = None
capacity_of (name ∷ []) = None
capacity_of (name ∷ number ∷ []) = if bytes_eq name (codes "links") then number_between LEAST_CAPACITY MOST_CAPACITY number else None
capacity_of (name ∷ number ∷ more ∷ rest) = None

-- the turn of the line n in front of those of later lines; the first line that can't be read is the one that counts
abbrev pub in_front : ℕ → Option (ℕ × PlanTurn) → Result (List (ℕ × PlanTurn)) ℕ → Result (List (ℕ × PlanTurn)) ℕ
in_front n None later = Err n
in_front n (Some turn) (Ok turns) = Ok (turn ∷ turns)
in_front n (Some turn) (Err m) = Err m

-- the turns of these lines, in a cluster of so many nodes
abbrev pub turns_of : ℕ → List (ℕ × List ℕ) → Result (List (ℕ × PlanTurn)) ℕ
turns_of nodes [] = Ok []
turns_of nodes (line ∷ lines) = in_front line.0 (line_of nodes (words_of line.1)) (turns_of nodes lines)

abbrev pub with_turns : RunSize → Result (List (ℕ × PlanTurn)) ℕ → Result Script ℕ
with_turns size (Ok turns) = Ok (script size turns)
with_turns size (Err n) = Err n

abbrev pub behind_links : ℕ → Size → Option ℕ → List (ℕ × List ℕ) → Result Script ℕ
behind_links n cluster None lines = Err n
behind_links n cluster (Some capacity) lines = with_turns (sized cluster capacity) (turns_of cluster.nodes lines)

-- the lines behind the cluster's, of which the first names the links
abbrev pub with_links : ℕ → Size → List (ℕ × List ℕ) → Result Script ℕ
with_links end cluster [] = Err end
with_links end cluster (line ∷ lines) = behind_links line.0 cluster (capacity_of (words_of line.1)) lines

abbrev pub behind_cluster : ℕ → ℕ → Option Size → List (ℕ × List ℕ) → Result Script ℕ
behind_cluster end n None lines = Err n
behind_cluster end n (Some cluster) lines = with_links end cluster lines

-- of the lines that aren't empty the first names the cluster, the second the links, and each other one is a turn. Where one of
-- the two isn't there, the line behind the last is named
abbrev pub script_in : ℕ → List (ℕ × List ℕ) → Result Script ℕ
script_in end [] = Err end
script_in end (line ∷ lines) = behind_cluster end line.0 (size_of (words_of line.1)) lines

abbrev pub script_left : LinesLeft → Result Script ℕ
script_left left = script_in left.end left.lines

-- the plans that an input is, or the number of the first line that can't be read
abbrev pub script_of : List ℕ → Result Script ℕ
script_of input = script_left (all_left (lines_of input))

-- the input was read as plans for a run of this size
pub record IsRead (input : List ℕ) (size : RunSize) (plans : List Planned) : Type 0 where
  pub turns : List (ℕ × PlanTurn)
  pub reads : script_of input ≡ Ok (script size turns)
  pub planned : ArePlanned size.nodes turns plans

-- a run of this size can have these plans
pub record CanRun (size : RunSize) (plans : List Planned) : Type 0 where
  pub nodes : (length plans ≡ size.nodes) × (size.nodes ≤ NODES)
  pub slots : (4 ≤ size.slots) × (size.slots ≤ 4096)
  pub polls : PollOthers plans

-- the lines were read as these plans
pub record AreRead (nodes : ℕ) (lines : List (ℕ × List ℕ)) (plans : List Planned) : Type 0 where
  pub turns : List (ℕ × PlanTurn)
  pub reads : turns_of nodes lines ≡ Ok turns
  pub planned : ArePlanned nodes turns plans
