use Rattle.std.proofs.Common.{◌≡◌, ℕ, List, ◌++◌, sym, ap, subst, ◌∙◌, arith}
use Rattle.wire_msg.specs.Envelope.{Envelope}
use Rattle.wire_msg.specs.Kinds.{said}
use Rattle.wire_msg.specs.Spelling.{front, answered, Spells}
use Rattle.wire_msg.proofs.Spelled.{short_spelled}
use Rattle.wire_msg.proofs.writing.put_short.Goals as goal

pub returns : goal.returns
returns c =
    let x = c.args.short in
    let ends = c.args.ends in
    let m : Envelope = record { sender = ends.0; receiver = ends.1; body = said x } in
    let nodes = c.in_ok-put_front.ensures.nodes in
    let bytes : c.put_answer.new.out.items ≡ front ends.0 ends.1 x ++ answered x.kind x.answer =
    c.in_ok-put_answer.ensures ∙ ap (λ (xs : List ℕ). xs ++ answered x.kind x.answer)
    (c.in_ok-put_front.ensures.bytes ∙ ap (λ (xs : List ℕ). xs ++ front ends.0 ends.1 x) c.requires.empty) in
    subst (Spells m) (sym bytes) (short_spelled ends.0 ends.1 x nodes.0 nodes.1 c.requires.ends (omega arith) (omega arith)
    c.requires.counted)
