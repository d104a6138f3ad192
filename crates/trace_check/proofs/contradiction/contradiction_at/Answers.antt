use Rattle.std.proofs.lemmas.Result.{IfOk-weaker}
use Rattle.trace_check.specs.Contradictions.{IsContradiction, IsCore}
use Rattle.trace_check.proofs.Contradictions.{cant_core}
use Rattle.trace_check.proofs.contradiction.contradiction_at.Goals as goal

pub returns : goal.returns
returns c =
    let hs = c.args.trace.now in
    let n = c.args.node in
    let index = c.args.index in
    IfOk-weaker c.core_at.result (IsCore hs n index) (IsContradiction hs n index) (λ core is. cant_core hs n index core c.requires is)
    c.core_at.ensures
