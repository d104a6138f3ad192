use Rattle.std.proofs.Common.{ℕ, ◌∷◌, [], ◌++◌, ap, ◌∙◌}
use Rattle.lease_message.proofs.Joined.{joined3}
use Rattle.lease_message.proofs.writing.put_body.Goals as goal

pub returns-in_ok-put_number-in-Request-3-clause-bytes : goal.returns-in_ok-put_number-in-Request-3-clause-bytes
returns-in_ok-put_number-in-Request-3-clause-bytes c = rw c.in-Request.is
    (joined3 c.args.out.now.items _ _ _ _ _ _ c.in_ok-put_number-in-Request.ensures c.in_ok-put_number-in-Request-2.ensures
    c.in_ok-put_number-in-Request-3.ensures)

pub returns-in_ok-put_number-in-Refusal-2-clause-bytes : goal.returns-in_ok-put_number-in-Refusal-2-clause-bytes
returns-in_ok-put_number-in-Refusal-2-clause-bytes c = rw c.in-Refusal.is
    (joined3 c.args.out.now.items _ _ _ _ _ _ c.in_ok-put_number-in-Refusal.ensures
    (c.in_ok-push-in-Refusal.ensures.items ∙ ap (λ (n : ℕ). c.put_number-in-Refusal.new.out.items ++ n ∷ []) c.number.ensures)
    c.in_ok-put_number-in-Refusal-2.ensures)
