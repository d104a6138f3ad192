-- What nodes told, beside what they would have told.
use Rattle.std.specs.Prelude.{ℕ, ◌≡◌, ◌<◌, ◌+◌, ◌&&◌, Bool, true, false, List, [], ◌∷◌, ◌++◌, length, reverse, codes, Option, Some, None}
use Rattle.std.specs.Prelude.{IfSome, slice_get, Result, Ok, Err}
use Rattle.std.specs.Str.{bytes_eq}
use Rattle.console_text.specs.Ends.{Printout, refused}
use Rattle.console_text.specs.declared.ends.ExitKind.{ExitKind}
use Rattle.console_text.specs.declared.ends.ExitKind.TheVariants.{Done, Refused, NoMemory, Unread, Unwritten}
use Rattle.histories.specs.NodeState.{NodeState}
use Rattle.memchr.specs.Find.{FindsNeedle}
use Rattle.trace_check.specs.declared.checking.Examined.{Examined}
use Rattle.trace_check.specs.declared.trace.Verdict.{Verdict}
use Rattle.trace_check.specs.declared.trace.Verdict.TheVariants.{Run, NotARun}
use Rattle.trace_check.specs.Claims.{Claim}
use Rattle.trace_check.specs.Followed.{before}
use Rattle.trace_check.specs.Orders.{history, state_of, taken, IsComplete, IsLegal}
use Rattle.trace_check.specs.Verdicts.{AreTaken, IsVerdict}
use Rattle.trace_text.specs.declared.fault.Location.{Location}
use Rattle.trace_text.specs.Tellings.{SaidData, TellingData, TellingsData}
use Rattle.trace_text.specs.Wholes.{trace_of}
use Rattle.trace_console.specs.declared.answers.FalseAnswer.{FalseAnswer}
use Rattle.trace_console.specs.declared.judging.Stage.{Stage}
use Rattle.trace_console.specs.Judged.{bad_trace, verdict_printed}
use Rattle.trace_console.specs.NodeAnswers.{dropped_answer, gone_answer, group_answer, id_answer, is_finish, kept_answer, took_answer}
use Rattle.trace_console.specs.Ongoing.{IsJudgementAt, printed_at}
use Rattle.trace_console.specs.Reported.{IsReport, place_text}
use Rattle.trace_console.specs.Told.{IsToldIn, told_of}

-- ---- what is said of it

-- the field has this text
abbrev pub is_text : Option (List ℕ) → List ℕ → Bool
is_text None text = false
is_text (Some said) text = bytes_eq said text

-- so it has, where it is there
abbrev pub says : SaidData → List ℕ → Bool
says None text = true
says (Some field) text = is_text field text

-- it is an object, and each field that is there has the text of what the node tells; finished: whether the entry says that a job was
abbrev pub is_so : TellingData → Bool → NodeState → NodeState → Bool
is_so told finished old new =
    told.object
    && says told.group (group_answer new.state)
    && says told.took (took_answer old.state new.state)
    && says told.dropped (dropped_answer finished old.state new.state)
    && says told.gone (gone_answer old.durable new.durable)
    && says told.id (id_answer old.durable new.durable)
    && says told.kept (kept_answer new.durable)

abbrev pub is_so_if : Option TellingData → Bool → NodeState → NodeState → Bool
is_so_if None finished old new = true
is_so_if (Some told) finished old new = is_so told finished old new

-- what is told of the entry of a node at this index is what the node tells
abbrev pub entry_so : List (List Claim) → TellingsData → ℕ → ℕ → Bool
entry_so hs d n index = is_so_if (told_of d n index) (is_finish (slice_get (history hs n) index)) (state_of hs n index)
    (state_of hs n (index + 1))

-- ---- the turns of an order

-- so of the entry of the turn of this number
abbrev pub turn_so_of : List (List Claim) → TellingsData → List ℕ → Option ℕ → Bool
turn_so_of hs d past None = true
turn_so_of hs d past (Some n) = entry_so hs d n (taken n past)

abbrev pub turn_so : List (List Claim) → TellingsData → List ℕ → ℕ → Bool
turn_so hs d order turn = turn_so_of hs d (before order turn) (slice_get order turn)

-- the entry that its node takes at the turn of this number, of which something else is told than the node tells
pub record IsFalse (hs : List (List Claim)) (d : TellingsData) (order : List ℕ) (number : ℕ) (f : FalseAnswer) : Type 0 where
  pub turn : f.turn ≡ number
  pub node : slice_get order number ≡ Some f.node
  pub index : f.index ≡ taken f.node (before order number)
  pub other : entry_so hs d f.node f.index ≡ false

-- at the turn of this number something else is told of the entry than its node tells; or it isn't
abbrev pub IsFalseAt : List (List Claim) → TellingsData → List ℕ → ℕ → Option FalseAnswer → Type 0
IsFalseAt hs d order turn None = turn_so hs d order turn ≡ true
IsFalseAt hs d order turn (Some f) = IsFalse hs d order turn f

-- the first such turn of an order; none where there is none
abbrev pub IsFirstFalse : List (List Claim) → TellingsData → List ℕ → Option FalseAnswer → Type 0
IsFirstFalse hs d order None = (turn : ℕ) → turn < length order → turn_so hs d order turn ≡ true
IsFirstFalse hs d order (Some f) = IsFalse hs d order f.turn f × ((k : ℕ) → k < f.turn → turn_so hs d order k ≡ true)

-- each node would also have told so at its turns; the newest stands first
abbrev pub AllSo : List (List Claim) → TellingsData → List ℕ → Type 0
AllSo hs d [] = Unit {0}
AllSo hs d (n ∷ past) = (entry_so hs d n (taken n past) ≡ true) × AllSo hs d past

-- some order is a run in which each node would also have told so
abbrev pub IsRunAsTold : List (List Claim) → TellingsData → Type 0
IsRunAsTold hs d = (order : List ℕ) × IsLegal hs order × IsComplete hs order × AllSo hs d order

abbrev pub DecidesTold : List (List Claim) → TellingsData → Option FalseAnswer → Type 0
DecidesTold hs d None = IsRunAsTold hs d
DecidesTold hs d (Some f) = IsRunAsTold hs d → ⊥

-- where all entries can be taken in an order, there is such a run exactly where of no turn of it something else is told
abbrev pub AnswersDecide : Type 0
AnswersDecide = (hs : List (List Claim)) (d : TellingsData) (order : List ℕ) (found : Option FalseAnswer) → IsLegal hs (reverse order)
    → IsComplete hs (reverse order) → IsFirstFalse hs d order found → DecidesTold hs d found

abbrev pub DecidesAsTold : List (List Claim) → TellingsData → Verdict → Option FalseAnswer → Type 0
DecidesAsTold hs d (Run order) found = DecidesTold hs d found
DecidesAsTold hs d (NotARun node index) found = IsRunAsTold hs d → ⊥

-- ---- what is printed, and said

-- of the entries that can be taken, in the order in which the checker takes them, the first of which something else is told
pub record IsComparison (hs : List (List Claim)) (d : TellingsData) (found : Option FalseAnswer) : Type 0 where
  pub verdict : Verdict
  pub is_verdict : IsVerdict hs verdict
  pub order : List ℕ
  pub taken : AreTaken hs verdict order
  pub first : IsFirstFalse hs d order found
  pub decides : DecidesAsTold hs d verdict found

-- the verdict, where nothing else is told; else that entry is no part of a run
abbrev pub IsPrintedOf : Stage → List (List Claim) → Option FalseAnswer → Printout → Type 0
IsPrintedOf stage hs None printout = IsJudgementAt stage hs printout
IsPrintedOf stage hs (Some f) printout = printout ≡ verdict_printed (NotARun f.node f.index)

-- so is printed what was found
abbrev pub printed_as_told : Stage → Examined → Option FalseAnswer → Printout
printed_as_told stage e None = printed_at stage e
printed_as_told stage e (Some f) = verdict_printed (NotARun f.node f.index)

abbrev pub IsJudgementAsTold : Stage → List (List Claim) → TellingsData → Printout → Type 0
IsJudgementAsTold stage hs d printout = (found : Option FalseAnswer) × IsComparison hs d found × IsPrintedOf stage hs found printout

unfoldable pub false_text : FalseAnswer → List ℕ
false_text f = codes "no order takes all entries as they were told: look first at node " ++ place_text (codes ", entry ") f.node f.index

abbrev pub IsSaidOf : List (List Claim) → Option FalseAnswer → List ℕ → Type 0
IsSaidOf hs None why = IsReport hs why
IsSaidOf hs (Some f) why = why ≡ false_text f

abbrev pub IsReportAsTold : List (List Claim) → TellingsData → List ℕ → Type 0
IsReportAsTold hs d why = (found : Option FalseAnswer) × IsComparison hs d found × IsSaidOf hs found why

-- what is printed of a trace and of what is told of its entries, or where there is none
abbrev pub IsPrintedWith : (List (List Claim) → TellingsData → Printout → Type 0) → (TellingsData → Type 0)
    → Result (List (List Claim)) (Option Location) → Printout → Type 0
IsPrintedWith Is IsTold (Ok hs) printout = (told : TellingsData) × IsTold told × Is hs told printout
IsPrintedWith Is IsTold (Err location) printout = printout ≡ refused (bad_trace location)

-- the verdict on the trace that a text is, and on what it says was told
abbrev pub IsJudgedAt : Stage → List ℕ → Printout → Type 0
IsJudgedAt stage text printout = IsPrintedWith (IsJudgementAsTold stage) (IsToldIn text) (trace_of text) printout

-- of a text in which the key doesn't stand it is that on its entries alone
abbrev pub UntoldIsJudgedAlone : Type 0
UntoldIsJudgedAlone = (stage : Stage) (text : List ℕ) (hs : List (List Claim)) (printout : Printout)
    → FindsNeedle text (codes "\"told\"") 0 None → trace_of text ≡ Ok hs → IsJudgedAt stage text printout → IsJudgementAt stage hs printout

-- and what is said of it; what is wrong with a text that is no trace is printed, and not said again
abbrev pub IsReportedWith : (TellingsData → Type 0) → Result (List (List Claim)) (Option Location) → List ℕ → Type 0
IsReportedWith IsTold (Ok hs) why = (told : TellingsData) × IsTold told × IsReportAsTold hs told why
IsReportedWith IsTold (Err location) why = why ≡ []

abbrev pub IsReportedAsTold : List ℕ → List ℕ → Type 0
IsReportedAsTold text why = IsReportedWith (IsToldIn text) (trace_of text) why

-- this is said of the bytes that were read; where the reader says its bytes, they are these
abbrev pub IsVerdictReportOf : Option (List ℕ) → List ℕ → Type 0
IsVerdictReportOf input why = (bytes : List ℕ) × IfSome input (λ known. known ≡ bytes) × IsReportedAsTold bytes why

-- so where the verdict was printed
abbrev pub IsVerdictTold : Option (List ℕ) → ExitKind → List ℕ → Type 0
IsVerdictTold input Done why = IsVerdictReportOf input why
IsVerdictTold input Refused why = IsVerdictReportOf input why
IsVerdictTold input NoMemory why = Unit {0}
IsVerdictTold input Unread why = Unit {0}
IsVerdictTold input Unwritten why = Unit {0}
