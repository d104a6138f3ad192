use Rattle.std.proofs.Common.{◌≡◌, ℕ, List}
use Rattle.wire_msg.specs.Envelope.{Envelope}
use Rattle.cluster_sim.specs.World.{StandsFor}
use Rattle.runs.specs.World.{start}
use Rattle.cluster_sim.specs.Cluster.{report_in}
use Rattle.runs.specs.Reporting.{first_report}
use Rattle.cluster_sim.proofs.recording.opened.Given as goal

abbrev pub invariant-loop-number : goal.invariant-loop-number
invariant-loop-number l = (nodes : ℕ) → StandsFor l.world (start nodes) → (sent : List Envelope)
    → report_in l.report sent ≡ first_report l.number
