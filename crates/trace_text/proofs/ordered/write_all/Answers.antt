use Rattle.std.proofs.Common.{ℕ, List, [], ◌∷◌, codes, decimal, subst}
use Rattle.json.specs.Token.{end_array, key, number}
use Rattle.trace_check.specs.Claims.{Claim}
use Rattle.trace_text.specs.Tokens.{Adds, histories_tokens}
use Rattle.trace_text.proofs.OrdersBack.{all_added}
use Rattle.trace_text.proofs.ordered.write_all.Goals as goal

pub returns-clause-text : goal.returns-clause-text
returns-clause-text c =
    let hs = c.args.trace.now in
    all_added hs c.args.words.now c.write_words.result c.args.out.now c.write_head.new.out c.write_histories.new.out c.end_histories.new.out
    c.write_words.new.out c.in_ok-write_head.ensures
    (subst (λ (xs : List (List Claim)). Adds c.write_head.new.out c.write_histories.new.out (histories_tokens xs)) c.histories.ensures
    c.in_ok-write_histories.ensures.text)
    (subst (λ (n : ℕ). Adds c.write_histories.new.out c.end_histories.new.out (end_array ∷ key (codes "nodes") ∷ number (decimal n) ∷ []))
    c.nodes-nodes.ensures.value c.in_ok-end_histories.ensures)
    c.write_words.ensures
