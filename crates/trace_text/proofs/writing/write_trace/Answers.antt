use Rattle.std.proofs.Common.{ℕ, List, [], ◌∷◌, length, codes, decimal, subst}
use Rattle.std.specs.Prelude.{OnOk}
use Rattle.json.specs.Token.{end_array, end_object, key, number}
use Rattle.trace_check.specs.Claims.{Claim}
use Rattle.trace_text.specs.Tokens.{Adds, histories_tokens}
use Rattle.trace_text.proofs.Printing.{whole_added}
use Rattle.trace_text.proofs.writing.write_trace.Goals as goal

pub returns-clause-text : goal.returns-clause-text
returns-clause-text c =
    whole_added c.args.trace.now (end_array ∷ key (codes "nodes") ∷ number (decimal (length c.args.trace.now)) ∷ end_object ∷ [])
    c.write_nodes.result c.args.out.now c.write_head.new.out c.write_histories.new.out c.write_nodes.new.out c.in_ok-write_head.ensures
    (subst (λ (xs : List (List Claim)). Adds c.write_head.new.out c.write_histories.new.out (histories_tokens xs)) c.histories.ensures
    c.in_ok-write_histories.ensures.text)
    (subst (λ (n : ℕ). OnOk c.write_nodes.result (Adds c.write_histories.new.out c.write_nodes.new.out
    (end_array ∷ key (codes "nodes") ∷ number (decimal n) ∷ end_object ∷ []))) c.nodes-nodes.ensures.value c.write_nodes.ensures)
