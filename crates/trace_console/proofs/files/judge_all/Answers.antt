use Rattle.std.proofs.Common.{◌≡◌, ◌≤◌, List, length, Ok, refl, subst, arith}
use Rattle.group_task.specs.declared.node.TheConstants.{NODES}
use Rattle.std.proofs.lemmas.Result.{IfOk-weaker}
use Rattle.trace_check.specs.Claims.{Claim}
use Rattle.trace_console.specs.Files.{IsReportBehind}
use Rattle.trace_console.specs.Answers.{IsReportAsTold}
use Rattle.trace_console.proofs.Joins.{report_if}
use Rattle.trace_console.proofs.files.judge_all.Goals as goal

pub returns-clause-why : goal.returns-clause-why
returns-clause-why c =
    let hs = c.args.histories.items in
    let few : length hs ≤ NODES = omega (arith, c.if-from-len.false, c.len.ensures, c.from.ensures) in
    let d = c.args.told.now in
    IfOk-weaker c.judge-2.result (λ explained. IsReportAsTold c.new.result d explained.why.items)
    (λ explained. IsReportBehind (λ e. e ≡ d) (Ok hs) explained.why.items)
    (λ explained is. report_if (λ e. e ≡ d) hs d explained.why.items few refl
    (subst (λ (trace : List (List Claim)). IsReportAsTold trace d explained.why.items) c.new.ensures is)) c.judge-2.ensures.why
