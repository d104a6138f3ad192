use Rattle.std.proofs.Common.{IfOk, List, ℕ, subst, sym}
use Rattle.command_line.specs.Obeyed.{Obeys, ServesFor}
use Rattle.command_line.specs.declared.invocation.Invocation.{Invocation}
use Rattle.command_line.proofs.obeying.carry_out.Goals as goal

pub returns-in-Node : goal.returns-in-Node
returns-in-Node g c =
    subst (λ (it : Invocation). IfOk c.node.result (Obeys it (g.R.Read.remaining c.args.input.now) (g.R.Read.remaining c.node.new.input)
    (g.W.Write.contents c.args.output.now.writer) (g.W.Write.contents c.node.new.output.writer)))
    (sym c.in-Node.is)
    (subst (λ (life : List ℕ). IfOk c.node.result (ServesFor c.in-Node.place c.in-Node.round_trip c.in-Node.sealing life
    (g.R.Read.remaining c.args.input.now) (g.R.Read.remaining c.node.new.input) (g.W.Write.contents c.args.output.now.writer)
    (g.W.Write.contents c.node.new.output.writer)))
    c.deref.ensures.value c.node.ensures)

pub returns-in-Lease : goal.returns-in-Lease
returns-in-Lease g c =
    subst (λ (it : Invocation). IfOk c.lease.result (Obeys it (g.R.Read.remaining c.args.input.now) (g.R.Read.remaining c.lease.new.input)
    (g.W.Write.contents c.args.output.now.writer) (g.W.Write.contents c.lease.new.output.writer)))
    (sym c.in-Lease.is) c.lease.ensures
