use Rattle.std.proofs.Common.{None, ap, ◌∙◌}
use Rattle.std.proofs.lemmas.Result.{IfOk-weaker}
use Rattle.json.specs.Json.{parse_map}
use Rattle.trace_text.specs.Streams.{shaped}
use Rattle.trace_text.proofs.Steps.{no_whole, shaped_both, shut, whole_leads}
use Rattle.trace_text.proofs.Walks.{opened}
use Rattle.trace_text.proofs.stream.read_whole.Goals as goal

pub returns-then-not-branch-clause-ok : goal.returns-then-not-branch-clause-ok
returns-then-not-branch-clause-ok c =
    no_whole c.new.result c.args.reader.now c.open_object.new.reader c.new.ensures.0 c.new.ensures.1
    (shut _ _ _ c.if-not-branch.true c.in_ok-open_object.ensures.value)

pub returns-clause-ok : goal.returns-clause-ok
returns-clause-ok c =
    let is = opened _ _ _ c.if-not-branch.false c.in_ok-open_object.ensures.value in
    IfOk-weaker c.read_parts.result _ _ (λ done said. shaped_both _ _ _ _
    (whole_leads c.new.result c.args.reader.now c.open_object.new.reader c.new.ensures.0 c.new.ensures.1 is) done said)
    c.read_parts.ensures.ok

pub returns-clause-err : goal.returns-clause-err
returns-clause-err c =
    let is = opened _ _ _ c.if-not-branch.false c.in_ok-open_object.ensures.value in
    λ refused. (whole_leads c.new.result c.args.reader.now c.open_object.new.reader c.new.ensures.0 c.new.ensures.1 is).at None
    ∙ ap (parse_map shaped) (c.read_parts.ensures.err refused)
