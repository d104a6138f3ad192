-- What is wrong with plans that can't be read, as standard error says it.
use Rattle.std.specs.Prelude.{ℕ, List, [], ◌∷◌, ◌++◌, drop, bytes_eq, codes, is_some, if◌then◌else◌, Option, Some, None}
use Rattle.line_words.specs.Words.{first_word, words_of}
use Rattle.line_words.specs.Lines.{line_numbered, lines_of}
use Rattle.node_core.specs.TimerWords.{timer_named}
use Rattle.schedule.specs.declared.size.Size.{Size}
use Rattle.schedule.specs.Fields.{number_below}
use Rattle.schedule.specs.Text.{size_of}
use Rattle.console_text.specs.Reasons.{line_flaw, word_shown}
use Rattle.threads_console.specs.Lines.{numbered_from}
use Rattle.threads_console.specs.Scripts.{capacity_of, script_of}

-- nothing of this kind is named by the word; an empty word stands for one that isn't there
abbrev pub no_such : List ℕ → List ℕ → List ℕ
no_such kind [] = codes "no " ++ kind ++ codes " is named"
no_such kind (c ∷ word) = codes "no such " ++ kind ++ codes ": " ++ word_shown (c ∷ word)

-- how an order of this name is written
abbrev pub order_form : List ℕ → Option (List ℕ)
order_form name =
    if bytes_eq name (codes "submit") then Some (codes "N operator submit QUEUE HEX [P]") else
    if bytes_eq name (codes "finish") then Some (codes "N operator finish ORIGIN ID") else
    if bytes_eq name (codes "arm") then Some (codes "N operator arm K") else
    if bytes_eq name (codes "crash") then Some (codes "N operator crash [HEX]") else
    if bytes_eq name (codes "recover") then Some (codes "N operator recover") else None

abbrev pub order_flaw : List ℕ → Option (List ℕ) → List ℕ
order_flaw name None = no_such (codes "order") name
order_flaw name (Some form) = codes "not of the form " ++ form

abbrev pub timer_flaw : List ℕ → List ℕ
timer_flaw name = if is_some (timer_named name) then codes "not of the form N clock TIMER" else no_such (codes "timer") name

-- a turn of the worker of this name, with this word behind it
abbrev pub worker_flaw : List ℕ → List ℕ → List ℕ
worker_flaw worker word =
    if bytes_eq worker (codes "intake") then codes "not of the form N intake J, where J is another node" else
    if bytes_eq worker (codes "clock") then timer_flaw word else
    if bytes_eq worker (codes "operator") then order_flaw word (order_form word) else no_such (codes "worker") worker

-- what is wrong with words that are no turn in a cluster of so many nodes, in the first three of them
abbrev pub turn_flaw : ℕ → List (List ℕ) → List ℕ
turn_flaw nodes words =
    if is_some (number_below nodes (first_word words)) then worker_flaw (first_word (drop 1 words)) (first_word (drop 2 words))
    else no_such (codes "node") (first_word words)

-- of these lines the first has to name the links
abbrev pub links_flaw : Size → List (ℕ × List ℕ) → List ℕ → List ℕ
links_flaw cluster [] line = codes "there is no line links CAPACITY"
links_flaw cluster (links ∷ turns) line =
    if is_some (capacity_of (words_of links.1)) then turn_flaw cluster.nodes (words_of line) else codes "not of the form links CAPACITY"

abbrev pub cluster_flaw : Option Size → List (ℕ × List ℕ) → List ℕ → List ℕ
cluster_flaw None lines line = codes "not of the form cluster NODES SLOTS"
cluster_flaw (Some cluster) lines line = links_flaw cluster lines line

-- what is wrong with plans of these lines, none of them empty, by what the line that can't be read had to be
abbrev pub script_flaw : List (ℕ × List ℕ) → List ℕ → List ℕ
script_flaw [] line = codes "there is no line cluster NODES SLOTS"
script_flaw (cluster ∷ lines) line = cluster_flaw (size_of (words_of cluster.1)) lines line

-- what is wrong with the line n, the first that can't be read
abbrev pub flaw_at : ℕ → List (List ℕ) → List ℕ
flaw_at n lines = script_flaw (numbered_from 0 lines) (line_numbered n lines)

-- what is wrong with plans, in their first line that can't be read
abbrev pub plans_flaw : List ℕ → List ℕ
plans_flaw input = line_flaw (λ n. flaw_at n (lines_of input)) (script_of input)
