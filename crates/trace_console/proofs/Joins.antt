-- What is said of the histories of all files.
use Rattle.std.proofs.Common.{◌≡◌, ◌≤◌, ℕ, ◌+◌, Bool, true, false, List, [], ◌++◌, length, length-append, Result, Ok, Err, Option}
use Rattle.std.proofs.Common.{sym, ap, ◌∙◌, subst, append_assoc, append-nil, arith}
use Rattle.std.specs.Prelude.{nat_le}
use Rattle.std.proofs.lemmas.Bool.{le-leb}
use Rattle.console_text.specs.Ends.{Printout}
use Rattle.group_task.specs.declared.node.TheConstants.{NODES}
use Rattle.trace_text.specs.Tellings.{TellingsData}
use Rattle.trace_check.specs.Claims.{Claim}
use Rattle.trace_text.specs.declared.fault.Location.{Location}
use Rattle.trace_console.specs.declared.files.TraceFile.{TraceFile}
use Rattle.trace_console.specs.Answers.{IsPrintedWith, IsReportAsTold}
use Rattle.trace_console.specs.Files.{BadFile, IsReportBehind, IsReportIf, behind, histories_of}

-- what is said of histories that aren't too many
pub report_if : (IsTold : TellingsData → Type 0) (hs : List (List Claim)) (d : TellingsData) (why : List ℕ) → length hs ≤ NODES → IsTold d
    → IsReportAsTold hs d why → IsReportIf (nat_le (length hs) NODES) IsTold hs why
report_if IsTold hs d why few told is = subst (λ (b : Bool). IsReportIf b IsTold hs why) (sym (le-leb (length hs) NODES few)) (d, told, is)

-- no file came yet
pub behind_none : (hs : List (List Claim)) (r : Result (List (List Claim)) BadFile) → hs ≡ [] → r ≡ behind hs r
behind_none hs (Ok more) none = ap (λ (xs : List (List Claim)). Ok (xs ++ more)) (sym none)
behind_none hs (Err bad) none =
    let length_is = ap (λ (xs : List (List Claim)). length xs) none in
    let place : bad.before ≡ length hs + bad.before = omega (arith, length_is) in
    ap (λ (k : ℕ). Err (record { name = bad.name; location = bad.location; before = k })) place

pub behind_both : (xs ys : List (List Claim)) (r : Result (List (List Claim)) BadFile) → behind xs (behind ys r) ≡ behind (xs ++ ys) r
behind_both xs ys (Ok more) = ap (λ (zs : List (List Claim)). Ok zs) (sym (append_assoc xs ys more))
behind_both xs ys (Err bad) =
    let all = length-append xs ys in
    let place : length xs + (length ys + bad.before) ≡ length (xs ++ ys) + bad.before = omega (arith, all) in
    ap (λ (k : ℕ). Err (record { name = bad.name; location = bad.location; before = k })) place

-- ---- all files

-- what is told is what the files say
pub with_told : (Is : List (List Claim) → TellingsData → Printout → Type 0) (IsTold : TellingsData → Type 0) (d : TellingsData)
    (r : Result (List (List Claim)) (Option Location)) (o : Printout) → IsTold d → IsPrintedWith Is (λ e. e ≡ d) r o
    → IsPrintedWith Is IsTold r o
with_told Is IsTold d (Ok hs) o told is = (is.0, subst IsTold (sym is.1) told, is.2)
with_told Is IsTold d (Err location) o told is = is

report_told : (IsTold : TellingsData → Type 0) (d : TellingsData) (b : Bool) (hs : List (List Claim)) (why : List ℕ) → IsTold d
    → IsReportIf b (λ e. e ≡ d) hs why → IsReportIf b IsTold hs why
report_told IsTold d true hs why told is = (is.0, subst IsTold (sym is.1) told, is.2)
report_told IsTold d false hs why told is = is

pub behind_told : (IsTold : TellingsData → Type 0) (d : TellingsData) (r : Result (List (List Claim)) BadFile) (why : List ℕ) → IsTold d
    → IsReportBehind (λ e. e ≡ d) r why → IsReportBehind IsTold r why
behind_told IsTold d (Ok hs) why told is = report_told IsTold d (nat_le (length hs) NODES) hs why told is
behind_told IsTold d (Err bad) why told is = is

pub all_files : (others : List TraceFile) (hs : List (List Claim)) (r : Result (List (List Claim)) BadFile) → others ≡ []
    → r ≡ behind hs (histories_of others) → Ok hs ≡ r
all_files others hs r none is =
    sym (is ∙ ap (λ (fs : List TraceFile). behind hs (histories_of fs)) none ∙ ap (λ (xs : List (List Claim)). Ok xs) (append-nil hs))
