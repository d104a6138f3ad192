-- What the command `turns` prints.
use Rattle.std.specs.Prelude.{ℕ, ◌≡◌, ◌⊎◌, List, [], ◌∷◌, ◌++◌, reverse, codes, ◌&&◌, Bool, true, false, is_none}
use Rattle.std.specs.Prelude.{Option, Some, None}
use Rattle.std.specs.List.{flat_map}
use Rattle.console_text.specs.Ends.{Printout}
use Rattle.node_words.specs.Words.{group_text, ids_text, phase_text}
use Rattle.trace_check.specs.declared.leftover.Leftover.{Leftover}
use Rattle.trace_check.specs.declared.trace.Verdict.{Verdict}
use Rattle.trace_check.specs.declared.trace.Verdict.TheVariants.{Run, NotARun}
use Rattle.trace_check.specs.Claims.{Claim}
use Rattle.trace_check.specs.Leftovers.{AreLeftovers}
use Rattle.trace_check.specs.Orders.{IsLegal, IsComplete}
use Rattle.trace_check.specs.Verdicts.{IsVerdict, DecidesRun, AreTaken}
use Rattle.trace_text.specs.Ordered.{Ordered, order_of}
use Rattle.trace_text.specs.Tellings.{TellingsData}
use Rattle.trace_text.specs.Wholes.{trace_of}
use Rattle.trace_console.specs.declared.answers.FalseAnswer.{FalseAnswer}
use Rattle.trace_console.specs.declared.turn.Stand.{Stand}
use Rattle.trace_console.specs.declared.turn.Turn.{Turn}
use Rattle.trace_console.specs.Answers.{IsComparison, IsPrintedWith}
use Rattle.trace_console.specs.Judged.{words}
use Rattle.trace_console.specs.Reported.{leftover_text}
use Rattle.trace_console.specs.Told.{IsToldIn}
use Rattle.trace_console.specs.Turns.{AreTurns}

-- ---- the text

-- in which order the turns are
abbrev pub order_text : Bool → List ℕ
order_text true = codes "recorded"
order_text false = codes "possible"

unfoldable pub members_text : Stand → List ℕ
members_text s = words (s.coordinator ∷ []) ++ codes " " ++ ids_text s.members ++ words (s.in_hand ∷ [])

unfoldable pub stand_text : Stand → List ℕ
stand_text s = codes " " ++ phase_text s.phase ++ codes " " ++ group_text s.group ++ members_text s

-- how the node stands after a turn, and how many jobs it has in hand
abbrev pub after_text : Option Stand → List ℕ
after_text None = codes " Down"
after_text (Some s) = stand_text s

-- a turn, behind the end of the line before: its node, the index of its entry, and how the node stands then
unfoldable pub turn_text : Turn → List ℕ
turn_text t = codes "\nturn" ++ words (t.node ∷ t.index ∷ []) ++ after_text t.stand

-- all turns, and what is left
unfoldable pub turns_text : List (List Claim) → Bool → List Turn → List Leftover → List ℕ
turns_text hs recorded turns left = order_text recorded ++ flat_map turn_text turns ++ flat_map (leftover_text hs) left ++ codes "\n"

-- ---- what is printed of a trace

-- the turns of this order, and the entries that are left
pub record Tells (hs : List (List Claim)) (order : List ℕ) (recorded : Bool) (left : List Leftover) (text : List ℕ) : Type 0 where
  pub turns : List Turn
  pub are_turns : AreTurns hs order turns
  pub is_text : text ≡ turns_text hs recorded turns left

-- all entries can be taken in this order
abbrev pub IsRunIn : List (List Claim) → List ℕ → Type 0
IsRunIn hs order = IsLegal hs (reverse order) × IsComplete hs (reverse order)

abbrev pub is_run : Verdict → Bool
is_run (Run order) = true
is_run (NotARun node index) = false

-- the order that the text gives is taken where all entries can be taken in it, and only there; else what can be taken is told in the order
-- in which the checker takes it, and what is left
abbrev pub TellsIn : List (List Claim) → Option Ordered → List ℕ → List Leftover → List ℕ → Type 0
TellsIn hs None taken left text = Tells hs taken false left text
TellsIn hs (Some given) taken left text = (IsRunIn hs given.0 × Tells hs given.0 true [] text)
    ⊎ ((IsRunIn hs given.0 → ⊥) × Tells hs taken false left text)

-- it ends well where all entries can be taken, and nothing else is told of any of them than its node tells
pub record IsTelling (given : Option Ordered) (hs : List (List Claim)) (d : TellingsData) (printout : Printout) : Type 0 where
  pub verdict : Verdict
  pub is_verdict : IsVerdict hs verdict
  pub decides : DecidesRun hs verdict
  pub taken : List ℕ
  pub are_taken : AreTaken hs verdict taken
  pub left : List Leftover
  pub are_left : AreLeftovers hs left
  pub found : Option FalseAnswer
  pub compared : IsComparison hs d found
  pub good : printout.good ≡ (is_run verdict && is_none found)
  pub tells : TellsIn hs given taken left printout.text

abbrev pub AreToldOf : List ℕ → Printout → Type 0
AreToldOf text printout = IsPrintedWith (IsTelling (order_of text)) (IsToldIn text) (trace_of text) printout
