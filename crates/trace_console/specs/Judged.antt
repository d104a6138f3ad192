-- What the command `trace` prints.
use Rattle.std.specs.Prelude.{ℕ, ◌≡◌, List, [], ◌∷◌, ◌++◌, true, codes, decimal, Option, Some, None}
use Rattle.console_text.specs.Ends.{Printout, line, refused}
use Rattle.trace_check.specs.declared.trace.Verdict.{Verdict}
use Rattle.trace_check.specs.declared.trace.Verdict.TheVariants.{Run, NotARun}
use Rattle.trace_check.specs.Claims.{Claim}
use Rattle.trace_check.specs.Verdicts.{IsVerdict, DecidesRun}
use Rattle.trace_text.specs.declared.fault.Location.{Location}

-- each number behind a space
abbrev pub words : List ℕ → List ℕ
words [] = []
words (n ∷ ns) = 32 ∷ (decimal n ++ words ns)

abbrev pub verdict_printed : Verdict → Printout
verdict_printed (Run order) = record { text = line (codes "Run" ++ words order.items); good = true }
verdict_printed (NotARun node index) = refused (codes "NotARun" ++ words (node ∷ index ∷ []))

abbrev pub bad_trace : Option Location → List ℕ
bad_trace None = codes "bad trace"
bad_trace (Some location) = codes "bad trace" ++ words (location.node ∷ location.index ∷ [])

-- a verdict on these histories, which decides whether some order of them is a run
pub record IsJudgement (histories : List (List Claim)) (printout : Printout) : Type 0 where
  pub verdict : Verdict
  pub is_verdict : IsVerdict histories verdict
  pub decides : DecidesRun histories verdict
  pub printed : printout ≡ verdict_printed verdict
