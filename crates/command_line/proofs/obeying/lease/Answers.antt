use Rattle.std.proofs.Common.{◌≡◌, ◌∙◌}
use Rattle.command_line.specs.LeaseServed.{LeaseServesTo}
use Rattle.command_line.proofs.Leases.{leases_end, untouched_so}
use Rattle.command_line.proofs.obeying.lease.Goals as goal

pub returns : goal.returns
returns g c =
    let less : ((c.serve_leases-status.new.input ≡ c.args.input.now) × (c.serve_leases-status.new.output ≡ c.args.output.now))
    → ((g.R.Read.remaining c.serve_leases-status.new.input ≡ g.R.Read.remaining c.args.input.now)
    × (g.W.Write.contents c.serve_leases-status.new.output.writer ≡ g.W.Write.contents c.args.output.now.writer))
    = λ same. ((λ i. g.R.Read.remaining (same.0 i)), (λ i. g.W.Write.contents (same.1 i).writer)) in
    leases_end c.args.place c.args.round_trip c.args.sealing.now _ _ _ _ c.serve_leases-status.result c.keys_of.result c.in-Some.terms
    c.tell_served.result c.keys_of.ensures (
      c.in-Some.ensures.terms.0,
      c.in-Some.ensures.terms.1,
      c.in-Some.ensures.terms.2 ∙ c.in_ok-list.ensures,
      c.in-Some.ensures.terms.3 ∙ c.keeps_for.ensures,
    )
    (untouched_so ((c.serve_leases-status.new.input ≡ c.args.input.now) × (c.serve_leases-status.new.output ≡ c.args.output.now))
    ((g.R.Read.remaining c.serve_leases-status.new.input ≡ g.R.Read.remaining c.args.input.now)
    × (g.W.Write.contents c.serve_leases-status.new.output.writer ≡ g.W.Write.contents c.args.output.now.writer))
    (LeaseServesTo c.keys_of.result c.in-Some.terms (g.R.Read.remaining c.args.input.now)
    (g.R.Read.remaining c.serve_leases-status.new.input) (g.W.Write.contents c.args.output.now.writer)
    (g.W.Write.contents c.serve_leases-status.new.output.writer))
    c.serve_leases-status.result less c.serve_leases-status.ensures) c.tell_served.ensures
