use Rattle.std.proofs.Common.{ℕ, List, ◌∷◌, [], ◌++◌, ap, ◌∙◌, arith}
use Rattle.lease_message.specs.Spelling.{number, kind_of, client_bytes, content}
use Rattle.lease_message.proofs.Joined.{joined6}
use Rattle.lease_message.proofs.writing.put.Goals as goal

pub returns-clause-bytes : goal.returns-clause-bytes
returns-clause-bytes c =
    let m = c.args.message.now in
    joined6 c.args.out.now.items (1 ∷ kind_of m.body ∷ []) (client_bytes m.client) (m.voter ∷ []) (number m.epoch)
    (content m.body) m.name _ _ _ _ _ _
    (c.in_ok-extend_from_slice.ensures.items ∙ ap (λ (k : ℕ). c.args.out.now.items ++ 1 ∷ k ∷ []) c.kind-kind.ensures)
    c.in_ok-put_client.ensures.bytes
    (c.in_ok-push.ensures.items ∙ ap (λ (n : ℕ). c.put_client.new.out.items ++ n ∷ []) c.number.ensures.value)
    c.in_ok-put_number.ensures
    c.in_ok-put_body.ensures.bytes
    (c.in_ok-extend_from_slice-2.ensures.items ∙ ap (λ (x : List ℕ). c.put_body.new.out.items ++ x) c.as_slice.ensures.value)

pub returns-clause-fits : goal.returns-clause-fits
returns-clause-fits c = record {
  client = c.in_ok-put_client.ensures.fits;
  voter = c.number.ensures.below;
  epoch = omega arith;
  body = c.in_ok-put_body.ensures.fits;
  name = c.as_slice.ensures.fits;
}
