use Rattle.std.proofs.Common.{rules, ◌≡◌, ℕ, List, ◌++◌, ap, ◌∙◌, append_assoc, codes, decimal}
use Rattle.std.proofs.lemmas.Result.{on_ok_weaker}
use Rattle.threads_console.specs.Printed.{worker_name}
use Rattle.threads_console.proofs.running.push_unfinished.Goals as goal

three : (t a b c : List ℕ) → ((t ++ a) ++ b) ++ c ≡ t ++ ((a ++ b) ++ c)
three t a b c = ap (λ (text : List ℕ). text ++ c) (append_assoc t a b) ∙ append_assoc t (a ++ b) c

pub returns : goal.returns
returns c =
    let t = c.args.text.now.items in
    let name = worker_name c.args.worker in
    let node : c.from.result ≡ c.args.node = search rules in
    on_ok_weaker c.push_worker.result
    (λ last. last ∙ ap (λ (text : List ℕ). text ++ name) (c.in_ok-push_text.ensures ∙ ap (λ (text : List ℕ). text ++ codes " ")
    (c.in_ok-push_named_number.ensures ∙ ap (λ (k : ℕ). t ++ (codes "unfinished " ++ decimal k)) node))
    ∙ three t (codes "unfinished " ++ decimal c.args.node) (codes " ") name)
    c.push_worker.ensures
