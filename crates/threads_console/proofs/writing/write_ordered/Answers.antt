use Rattle.std.proofs.Common.{◌≡◌, length, inl, inr, ◌∙◌, rules, subst, sym}
use Rattle.std.proofs.lemmas.List.{length-map}
use Rattle.std.proofs.lemmas.Result.{IfOk-weaker}
use Rattle.std.specs.Prelude.{IfSome, IsNone, Option}
use Rattle.trace_check.specs.declared.order.Order.{Order}
use Rattle.trace_text.proofs.PublicLaws.{ordered_whole, whole_text}
use Rattle.trace_text.specs.Ordered.{ordered_by}
use Rattle.threads_console.specs.Ordering.{IsOrderOf}
use Rattle.threads_console.specs.Texts.{log_claims, run_claims}
use Rattle.threads_console.proofs.writing.write_ordered.Goals as goal

pub returns-in-Some : goal.returns-in-Some
returns-in-Some c =
    let logs = c.args.run.histories.items in
    let hs = run_claims logs in
    let many : c.len-nodes.result ≡ length hs = c.len-nodes.ensures ∙ c.args.run.histories.ok.0 ∙ sym (length-map logs log_claims) in
    let order = c.in-Some.order in
    let is : IsOrderOf logs order = subst (λ (o : Option Order). IfSome o (IsOrderOf logs)) c.in-Some.is c.in_ok-order.ensures.some in
    IfOk-weaker c.end_ordered.result _ _ (λ text ended. inl (record {
      order = order;
      is_order = is;
      is_text = ended
          ∙ ordered_whole hs (ordered_by order) c.len-nodes.result c.in_ok-text.text.items many c.in_ok-text.ensures;
    })) c.end_ordered.ensures

pub returns-in-None : goal.returns-in-None
returns-in-None c =
    let logs = c.args.run.histories.items in
    let hs = run_claims logs in
    let many : c.len-nodes.result ≡ length hs = c.len-nodes.ensures ∙ c.args.run.histories.ok.0 ∙ sym (length-map logs log_claims) in
    let none : IsNone c.in_ok-order.order = search rules in
    IfOk-weaker c.end_trace.result _ _ (λ text ended. inr (
      c.in_ok-order.ensures.none none,
      ended ∙ whole_text hs c.len-nodes.result c.in_ok-text.text.items many c.in_ok-text.ensures,
    )) c.end_trace.ensures
