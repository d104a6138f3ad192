use Rattle.std.proofs.Common.{◌≡◌, length, ◌∙◌, sym}
use Rattle.std.proofs.lemmas.List.{length-map}
use Rattle.std.proofs.lemmas.Result.{IfOk-weaker}
use Rattle.trace_text.proofs.PublicLaws.{whole_text}
use Rattle.threads_console.specs.Texts.{log_claims, run_claims}
use Rattle.threads_console.proofs.writing.write_run.Goals as goal

pub returns : goal.returns
returns c =
    let logs = c.args.run.histories.items in
    let hs = run_claims logs in
    let many : c.len-nodes.result ≡ length hs = c.len-nodes.ensures ∙ c.args.run.histories.ok.0 ∙ sym (length-map logs log_claims) in
    IfOk-weaker c.end_trace.result _ _ (λ text ended. ended ∙ whole_text hs c.len-nodes.result c.in_ok-text.text.items many
    c.in_ok-text.ensures) c.end_trace.ensures
