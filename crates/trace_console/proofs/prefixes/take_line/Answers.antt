use Rattle.std.proofs.Common.{sym, ◌∙◌}
use Rattle.trace_console.proofs.Pieces.{brought_line}
use Rattle.trace_console.proofs.prefixes.take_line.Goals as goal

pub returns-in-Ok : goal.returns-in-Ok
returns-in-Ok g c = brought_line c.args.prefix.now c.args.line.now _ (g.W.Write.contents c.args.output.now)
    (sym c.is_empty.ensures ∙ c.if-is_empty.false) c.in-Ok.ensures.came
