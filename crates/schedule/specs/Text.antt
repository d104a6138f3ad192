-- A schedule as text.
use Rattle.std.specs.Prelude.{ℕ, ◌+◌, nat_lt, List, [], ◌∷◌, ◌++◌, length, option_map, bytes_eq, codes, if◌then◌else◌, Option, Some, None}
use Rattle.std.specs.Prelude.{Result, Ok, Err}
use Rattle.line_words.specs.Words.{words_of}
use Rattle.line_words.specs.Lines.{lines_of}
use Rattle.schedule.specs.declared.act.Act.{Act}
use Rattle.group_task.specs.declared.node.TheConstants.{NODES}
use Rattle.schedule.specs.declared.size.Size.{Size}
use Rattle.disk_layout.specs.declared.layout.TheConstants.{LEAST_SLOTS, MOST_SLOTS}
use Rattle.schedule.specs.declared.size.TheConstants.{MOST_ACTS}
use Rattle.schedule.specs.Fields.{number_between}
use Rattle.schedule.specs.Acts.{act_of, of_two}

pub record Script : Type 0 where
  pub size : Size
  pub acts : List Act

abbrev pub script : Size → List Act → Script
script size acts = record { size = size; acts = acts }

abbrev pub size : ℕ → ℕ → Size
size nodes slots = record { nodes = nodes; slots = slots }

abbrev pub named_size : List ℕ → List ℕ → List ℕ → Option Size
named_size name nodes slots =
    if bytes_eq name (codes "cluster") then of_two size (number_between 1 NODES nodes) (number_between LEAST_SLOTS MOST_SLOTS slots)
    else None

-- the cluster of these words
abbrev pub size_of : List (List ℕ) → Option Size
size_of [] = None
size_of (name ∷ []) = None
size_of (name ∷ a ∷ []) = None
size_of (name ∷ nodes ∷ slots ∷ []) = named_size name nodes slots
size_of (name ∷ a ∷ b ∷ c ∷ rest) = None

-- the act of the line n in front of those of later lines; the first line that can't be read is the one that counts
abbrev pub in_front : ℕ → Option Act → Result (List Act) ℕ → Result (List Act) ℕ
in_front n None later = Err n
in_front n (Some act) (Ok acts) = Ok (act ∷ acts)
in_front n (Some act) (Err m) = Err m

-- the act of a line behind so many acts
abbrev pub next_act : ℕ → List ℕ → Option Act
next_act before line = if nat_lt before MOST_ACTS then act_of (words_of line) else None

-- the acts of these lines, where n lines and so many acts came before; empty lines are passed over
abbrev pub acts_from : ℕ → ℕ → List (List ℕ) → Result (List Act) ℕ
acts_from n before [] = Ok []
acts_from n before ([] ∷ lines) = acts_from (n + 1) before lines
acts_from n before ((c ∷ line) ∷ lines) = in_front (n + 1) (next_act before (c ∷ line)) (acts_from (n + 1) (before + 1) lines)

abbrev pub with_acts : Size → Result (List Act) ℕ → Result Script ℕ
with_acts size (Ok acts) = Ok (script size acts)
with_acts size (Err n) = Err n

abbrev pub behind_size : ℕ → Option Size → List (List ℕ) → Result Script ℕ
behind_size n None lines = Err n
behind_size n (Some size) lines = with_acts size (acts_from n 0 lines)

-- the schedule of these lines, where n lines came before: the first line that isn't empty names the cluster. Where there is
-- none, the line behind the last is named, which is the last part of the text, an empty one
abbrev pub script_from : ℕ → List (List ℕ) → Result Script ℕ
script_from n [] = Err n
script_from n ([] ∷ lines) = script_from (n + 1) lines
script_from n ((c ∷ line) ∷ lines) = behind_size (n + 1) (size_of (words_of (c ∷ line))) lines

-- the schedule that an input is, or the number of the first line that can't be read
abbrev pub script_of : List ℕ → Result Script ℕ
script_of input = script_from 0 (lines_of input)

-- ---- for the code

-- acts, and the act of a line behind them; an empty line has none
abbrev pub onto : List Act → List ℕ → Option (List Act)
onto acts [] = Some acts
onto acts (c ∷ line) = option_map (λ act. acts ++ act ∷ []) (next_act (length acts) (c ∷ line))

-- acts in front of those of later lines
abbrev pub behind : List Act → Result (List Act) ℕ → Result (List Act) ℕ
behind acts (Ok more) = Ok (acts ++ more)
behind acts (Err n) = Err n
