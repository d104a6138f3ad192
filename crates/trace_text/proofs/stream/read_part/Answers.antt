use Rattle.std.proofs.Common.{arith}
use Rattle.std.proofs.lemmas.Result.{IfOk-weaker}
use Rattle.trace_text.specs.Drafts.{parted_by}
use Rattle.trace_text.specs.Fields.{data_of, plain}
use Rattle.trace_text.proofs.Steps.{histories_both, nodes_put, other_put, put_leads}
use Rattle.trace_text.proofs.stream.read_part.Goals as goal

pub returns-then-is_word-clause-ok : goal.returns-then-is_word-clause-ok
returns-then-is_word-clause-ok c =
    IfOk-weaker c.read_histories.result _ _ (λ done said. histories_both (parted_by c.args.parts.now) c.args.key.now _ _ _ (grind arith)
    c.read_histories.ensures.kept done said) c.read_histories.ensures.ok

pub returns-then-is_word-2-clause-ok : goal.returns-then-is_word-2-clause-ok
returns-then-is_word-2-clause-ok c =
    let s = parted_by c.args.parts.now in
    let x = data_of c.in_ok-field.field in
    put_leads s c.args.key.now plain x (c.number-parts.result, s.1) c.args.reader.now c.read_field.new.reader c.in_ok-field.ensures.value
    (λ d same. nodes_put s c.args.key.now c.number-parts.result d x (grind arith) c.number-parts.ensures same)

pub returns-else-is_word-2-clause-ok : goal.returns-else-is_word-2-clause-ok
returns-else-is_word-2-clause-ok c =
    let s = parted_by c.args.parts.now in
    put_leads s c.args.key.now plain (data_of c.in_ok-field.field) s c.args.reader.now c.read_field.new.reader c.in_ok-field.ensures.value
    (λ d same. other_put s c.args.key.now d (grind arith) (grind arith))
