-- The turn that a line gives to a worker of a node.
use Rattle.std.specs.Prelude.{ℕ, List, [], ◌∷◌, ◌==◌, not, bytes_eq, codes, if◌then◌else◌, Option, Some, None, option_map}
use Rattle.line_words.specs.Words.{number_of}
use Rattle.line_words.specs.Lines.{bytes_of}
use Rattle.schedule.specs.Fields.{kept_if, node_of, number_below, priority_of}
use Rattle.schedule.specs.Acts.{of_two, work_of}
use Rattle.node_core.specs.TimerWords.{timer_named}
use Rattle.node_lock.specs.declared.order.OperatorOrder.{OperatorOrder}
use Rattle.node_lock.specs.declared.order.OperatorOrder.TheVariants.{Submit, Finish, Arm, Crash, Recover}
use Rattle.threads_console.specs.declared.turn.PlanTurn.{PlanTurn}
use Rattle.threads_console.specs.declared.turn.PlanTurn.TheVariants.{Poll, Fire, Do}

-- another node than this one, in a cluster of so many
abbrev pub other_of : ℕ → ℕ → List ℕ → Option ℕ
other_of nodes own word = kept_if (λ j. not (j == own)) (number_below nodes word)

-- ---- what the operator does: a name, and its fields

abbrev pub submit_order : List ℕ → List ℕ → Option ℕ → Option OperatorOrder
submit_order queue payload priority = option_map Submit (work_of queue payload priority)

abbrev pub alone_order : List ℕ → Option OperatorOrder
alone_order name = if bytes_eq name (codes "crash") then Some (Crash []) else if bytes_eq name (codes "recover") then Some Recover else None

abbrev pub short_order : List ℕ → List ℕ → Option OperatorOrder
short_order name field =
    if bytes_eq name (codes "arm") then option_map Arm (number_of field) else
    if bytes_eq name (codes "crash") then option_map Crash (bytes_of field) else None

abbrev pub middle_order : List ℕ → List ℕ → List ℕ → Option OperatorOrder
middle_order name first second =
    if bytes_eq name (codes "submit") then submit_order first second (Some 0) else
    if bytes_eq name (codes "finish") then of_two Finish (node_of first) (number_of second) else None

abbrev pub long_order : List ℕ → List ℕ → List ℕ → List ℕ → Option OperatorOrder
long_order name first second third = if bytes_eq name (codes "submit") then submit_order first second (priority_of third) else None

abbrev pub order_of : List (List ℕ) → Option OperatorOrder
order_of [] = None
order_of (name ∷ []) = alone_order name
order_of (name ∷ a ∷ []) = short_order name a
order_of (name ∷ a ∷ b ∷ []) = middle_order name a b
order_of (name ∷ a ∷ b ∷ c ∷ []) = long_order name a b c
order_of (name ∷ a ∷ b ∷ c ∷ d ∷ rest) = None

-- ---- the other two workers have one field

abbrev pub of_one : {A : Type 0} → (List ℕ → Option A) → List (List ℕ) → Option A
of_one read [] = None
of_one read (word ∷ []) = read word
of_one read (word ∷ more ∷ rest) = None

-- the turn of the worker of this name, at a node of a cluster of so many
abbrev pub turn_of : ℕ → ℕ → List ℕ → List (List ℕ) → Option PlanTurn
turn_of nodes own worker fields =
    if bytes_eq worker (codes "intake") then option_map Poll (of_one (other_of nodes own) fields) else
    if bytes_eq worker (codes "clock") then option_map Fire (of_one timer_named fields) else
    if bytes_eq worker (codes "operator") then option_map Do (order_of fields) else None

abbrev pub turn_at : ℕ → Option ℕ → List ℕ → List (List ℕ) → Option (ℕ × PlanTurn)
turn_at nodes None worker fields = None
turn_at nodes (Some own) worker fields = option_map (λ turn. (own, turn)) (turn_of nodes own worker fields)

-- the node and the turn of a line of these words
abbrev pub line_of : ℕ → List (List ℕ) → Option (ℕ × PlanTurn)
line_of nodes [] = None
line_of nodes (node ∷ []) = None
line_of nodes (node ∷ worker ∷ fields) = turn_at nodes (number_below nodes node) worker fields
