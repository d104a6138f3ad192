use Rattle.std.proofs.Common.{None, ap, ◌∙◌, List, option_and_then}
use Rattle.json.specs.Token.{Token}
use Rattle.trace_text.specs.Pieces.{parts_on}
use Rattle.trace_text.specs.Streams.{Judged}
use Rattle.trace_text.proofs.Walks.{opened}
use Rattle.trace_text.proofs.stream.resume.Goals as goal

pub returns-clause-err : goal.returns-clause-err
returns-clause-err c =
    λ refused. ap (option_and_then (λ (q : Judged × List Token). parts_on (c.args.parts.now.nodes, q.0) q.1))
    ((opened _ _ _ c.if-not-done.false c.in_ok-done.ensures.ok).at None) ∙ c.read_parts.ensures.err refused
