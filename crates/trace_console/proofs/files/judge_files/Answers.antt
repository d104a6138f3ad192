use Rattle.std.proofs.Common.{◌≡◌, ℕ, ◌+◌, List, [], ◌++◌, length, length-append, drop, Result, Ok, Option, refl, sym}
use Rattle.std.proofs.Common.{ap, ◌∙◌, subst, rules}
use Rattle.std.proofs.lemmas.Option.{slice_get_read}
use Rattle.std.proofs.lemmas.Result.{IfOk-weaker}
use Rattle.console_text.specs.Ends.{printout_of}
use Rattle.trace_check.specs.Claims.{Claim}
use Rattle.trace_text.specs.declared.fault.Location.{Location}
use Rattle.trace_text.specs.Wholes.{trace_of}
use Rattle.trace_text.proofs.PublicLaws.{drop_all, drop_get}
use Rattle.trace_console.specs.declared.files.TraceFile.{TraceFile}
use Rattle.trace_console.specs.Answers.{IsJudgementAsTold, IsPrintedWith}
use Rattle.trace_console.specs.Files.{AreToldIn, BadFile, IsReportBehind, behind, first_file, histories_of, nodes_of, run_of}
use Rattle.trace_console.specs.Told.{IsThen, IsToldIn}
use Rattle.trace_console.proofs.Joins.{all_files, behind_both, behind_none, behind_told, with_told}
use Rattle.trace_console.proofs.Thens.{IsToldSoFar, no_file_yet, one_file_more, told_of_files}
use Rattle.trace_console.proofs.files.judge_files.Goals as goal

pub loop-file-init : goal.loop-file-init
loop-file-init c =
    let files = c.args.files.now in
    let none = c.new-histories.ensures.items in
    record {
      histories = behind_none c.new-histories.result.items (histories_of files) none;
      told = subst (λ (k : ℕ). IsToldSoFar files files k c.nothing-told.result) (sym (ap (λ (hs : List (List Claim)). length hs) none))
          (no_file_yet files c.nothing-told.result);
    }

pub loop-file-preserved : goal.loop-file-preserved
loop-file-preserved c =
    let files = c.args.files.now in
    let i = c.loop-file.file-index in
    let file = c.file-item.result in
    let others = drop (i + 1) files in
    let hs = c.loop-file.histories.items in
    let own = c.in-Ok.trace in
    let told = c.in_ok-read-in-Ok.field-0 in
    let new = c.append_nodes.new.self in
    let cut = drop_get files i file (slice_get_read files (length files) i file refl c.loop-file-test.true c.file-item.is) in
    let trace_is : trace_of file.text.items ≡ Ok own = ap trace_of (sym c.deref.ensures.value) ∙ c.in-Ok.ensures.ok in
    let rest : histories_of (drop i files) ≡ behind own (histories_of others) =
    ap histories_of cut
    ∙ ap (λ (r : Result (List (List Claim)) (Option Location)). first_file file.name.now r (histories_of others)) trace_is in
    let appended : c.append.new.self.items ≡ hs ++ own = search rules in
    let many = ap (λ (xs : List (List Claim)). length xs) appended ∙ length-append hs own in
    let front : c.len.result ≡ length hs = search rules in
    record {
      histories = c.loop-file.invariant.histories ∙ ap (λ (r : Result (List (List Claim)) BadFile). behind hs r) rest
          ∙ behind_both hs own (histories_of others)
          ∙ ap (λ (xs : List (List Claim)). behind xs (histories_of others)) (sym appended);
      told = subst (λ (k : ℕ). IsToldSoFar files others k new) (sym many)
          (one_file_more files others file (length hs) (length own) c.loop-file.told told new
          (subst (λ (fs : List TraceFile). IsToldSoFar files fs (length hs) c.loop-file.told) cut c.loop-file.invariant.told)
          (subst (λ (text : List ℕ). IsToldIn text told) c.deref-in-Ok.ensures.value c.in_ok-read-in-Ok.ensures)
          (ap (λ (r : Result (List (List Claim)) (Option Location)). nodes_of r) trace_is)
          (subst (λ (k : ℕ). IsThen [] k c.loop-file.told told new) front c.in_ok-append_nodes-in-Ok.ensures));
    }

pub returns-clause-printed : goal.returns-clause-printed
returns-clause-printed c =
    let files = c.args.files.now in
    let hs = c.loop-file.histories.items in
    let d = c.loop-file.told in
    let Is = IsJudgementAsTold c.args.stage in
    let none = drop_all files c.loop-file.file-index c.loop-file-test.false in
    let whole = all_files (drop c.loop-file.file-index files) hs (histories_of files) none c.loop-file.invariant.histories in
    let told = told_of_files files (length hs) d (subst (λ (fs : List TraceFile). IsToldSoFar files fs (length hs) d) none
    c.loop-file.invariant.told) in
    IfOk-weaker c.judge_all.result (λ explained. IsPrintedWith Is (λ e. e ≡ d) (run_of (Ok hs)) (printout_of explained.printout)) _
    (λ explained is. with_told Is (AreToldIn files) d (run_of (histories_of files)) (printout_of explained.printout) told
    (subst (λ (r : Result (List (List Claim)) BadFile). IsPrintedWith Is (λ e. e ≡ d) (run_of r) (printout_of explained.printout)) whole
    is))
    c.judge_all.ensures.printed

pub returns-clause-why : goal.returns-clause-why
returns-clause-why c =
    let files = c.args.files.now in
    let hs = c.loop-file.histories.items in
    let d = c.loop-file.told in
    let none = drop_all files c.loop-file.file-index c.loop-file-test.false in
    let whole = all_files (drop c.loop-file.file-index files) hs (histories_of files) none c.loop-file.invariant.histories in
    let told = told_of_files files (length hs) d (subst (λ (fs : List TraceFile). IsToldSoFar files fs (length hs) d) none
    c.loop-file.invariant.told) in
    IfOk-weaker c.judge_all.result (λ explained. IsReportBehind (λ e. e ≡ d) (Ok hs) explained.why.items) _
    (λ explained is. behind_told (AreToldIn files) d (histories_of files) explained.why.items told
    (subst (λ (r : Result (List (List Claim)) BadFile). IsReportBehind (λ e. e ≡ d) r explained.why.items) whole is))
    c.judge_all.ensures.why
