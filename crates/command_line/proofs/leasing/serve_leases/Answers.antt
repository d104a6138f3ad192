use Rattle.std.proofs.Common.{subst, ℕ}
use Rattle.lease_session.specs.declared.serving.LeaseEnd.TheVariants as end
use Rattle.command_line.specs.LeaseServed.{IsLeaseSealUnder, LeaseServesTo}
use Rattle.command_line.proofs.Leases.{serves_to, stops_so}
use Rattle.command_line.proofs.leasing.serve_leases.Goals as goal

pub returns-in-Ok-Input-default : goal.returns-in-Ok-Input-default
returns-in-Ok-Input-default g c =
    serves_to c.args.keys c.args.terms _ _ _ _ c.in-Ok.seal c.in-Ok-mounted.file c.begin.new.self c.new-store.result.file
    c.in-Ok-begin.begun _ end.Input
    (subst (λ (n : ℕ). IsLeaseSealUnder c.args.keys n c.in-Ok.seal) c.machines.ensures c.in-Ok.ensures.seal) c.in-Ok-begin.ensures.ok.0
    c.in-Ok-begin.ensures.ok.1 c.new-store.ensures
    (rw c.in-Ok-Input-default.field-0-0-is at c.in-Ok-Input-default.ensures)

pub returns-in-Ok-Device-default : goal.returns-in-Ok-Device-default
returns-in-Ok-Device-default g c =
    stops_so _ (LeaseServesTo c.args.keys c.args.terms (g.R.Read.remaining c.args.input.now) (g.R.Read.remaining c.serve_leases.new.input)
    (g.W.Write.contents c.args.output.now) (g.W.Write.contents c.serve_leases.new.output))
    c.stopped-in-Ok-Device-default.result c.stopped-in-Ok-Device-default.ensures.ended
    (serves_to c.args.keys c.args.terms _ _ _ _ c.in-Ok.seal c.in-Ok-mounted.file c.begin.new.self c.new-store.result.file
    c.in-Ok-begin.begun _ end.Device
    (subst (λ (n : ℕ). IsLeaseSealUnder c.args.keys n c.in-Ok.seal) c.machines.ensures c.in-Ok.ensures.seal) c.in-Ok-begin.ensures.ok.0
    c.in-Ok-begin.ensures.ok.1 c.new-store.ensures
    (rw c.in-Ok-Device-default.field-0-0-is at c.in-Ok-Device-default.ensures))
