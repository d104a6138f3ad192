use Rattle.std.proofs.Common.{◌≡◌}
use Rattle.node_timers.specs.Timers.{measured}
use Rattle.command_line.specs.Served.{BreaksOff, ServesTo}
use Rattle.command_line.proofs.Endings.{node_ends, untouched_so}
use Rattle.command_line.proofs.obeying.node.Goals as goal

pub returns : goal.returns
returns g c =
    let less : ((c.serve_file-status.new.input ≡ c.args.input.now) × (c.serve_file-status.new.output ≡ c.args.output.now))
    → ((g.R.Read.remaining c.serve_file-status.new.input ≡ g.R.Read.remaining c.args.input.now)
    × (g.W.Write.contents c.serve_file-status.new.output.writer ≡ g.W.Write.contents c.args.output.now.writer))
    = λ same. ((λ i. g.R.Read.remaining (same.0 i)), (λ i. g.W.Write.contents (same.1 i).writer)) in
    node_ends c.args.place c.args.round_trip c.args.sealing.now c.args.life.now _ _ _ _ c.serve_file-status.result c.keys_of.result
    c.tell_served.result c.keys_of.ensures
    (untouched_so ((c.serve_file-status.new.input ≡ c.args.input.now) × (c.serve_file-status.new.output ≡ c.args.output.now))
    ((g.R.Read.remaining c.serve_file-status.new.input ≡ g.R.Read.remaining c.args.input.now)
    × (g.W.Write.contents c.serve_file-status.new.output.writer ≡ g.W.Write.contents c.args.output.now.writer))
    (BreaksOff c.keys_of.result c.args.place.id c.args.place.nodes (measured c.args.round_trip) (g.R.Read.remaining c.args.input.now)
    (g.R.Read.remaining c.serve_file-status.new.input) (g.W.Write.contents c.args.output.now.writer)
    (g.W.Write.contents c.serve_file-status.new.output.writer))
    (ServesTo c.keys_of.result c.args.place.id c.args.place.nodes (measured c.args.round_trip) (g.R.Read.remaining c.args.input.now)
    (g.R.Read.remaining c.serve_file-status.new.input) (g.W.Write.contents c.args.output.now.writer)
    (g.W.Write.contents c.serve_file-status.new.output.writer))
    c.serve_file-status.result less c.serve_file-status.ensures) c.tell_served.ensures
