-- A node that isn't served, or whose device failed.
use Rattle.std.proofs.Common.{inl, inr}
use Rattle.node_server.specs.declared.serving.ServingEnd.{ServingEnd}
use Rattle.node_server.specs.declared.serving.ServingEnd.TheVariants as end
use Rattle.command_line.specs.Served.{IsStopped, IsUnserved, ServesSo}
use Rattle.command_line.specs.declared.status.Status.{Status}
use Rattle.command_line.specs.declared.status.Status.TheVariants as status

pub stops_so : (Untouched Broken : Type 0) (To : ServingEnd → Type 0) (ended : Status) → IsStopped ended → To end.Device
    → ServesSo Untouched Broken To ended
stops_so Untouched Broken To status.Done is to = absurd is
stops_so Untouched Broken To (status.Failed error) is to = absurd is
stops_so Untouched Broken To (status.File fault) is to = inr to
stops_so Untouched Broken To (status.Foreign owner) is to = absurd is
stops_so Untouched Broken To (status.Device error) is to = inr to
stops_so Untouched Broken To status.Key is to = absurd is
stops_so Untouched Broken To (status.Spent fault) is to = absurd is
stops_so Untouched Broken To (status.Lost error) is to = inr (inl to)

pub unserved_so : (Untouched Broken : Type 0) (To : ServingEnd → Type 0) (ended : Status) → IsUnserved ended → Untouched
    → ServesSo Untouched Broken To ended
unserved_so Untouched Broken To status.Done is nothing = absurd is
unserved_so Untouched Broken To (status.Failed error) is nothing = inl nothing
unserved_so Untouched Broken To (status.File fault) is nothing = inl nothing
unserved_so Untouched Broken To (status.Foreign owner) is nothing = nothing
unserved_so Untouched Broken To (status.Device error) is nothing = inl nothing
unserved_so Untouched Broken To status.Key is nothing = nothing
unserved_so Untouched Broken To (status.Spent fault) is nothing = absurd is
unserved_so Untouched Broken To (status.Lost error) is nothing = inl nothing

pub stopped_unserved : (ended : Status) → IsStopped ended → IsUnserved ended
stopped_unserved status.Done is = absurd is
stopped_unserved (status.Failed error) is = tt
stopped_unserved (status.File fault) is = tt
stopped_unserved (status.Foreign owner) is = tt
stopped_unserved (status.Device error) is = tt
stopped_unserved status.Key is = tt
stopped_unserved (status.Spent fault) is = absurd is
stopped_unserved (status.Lost error) is = tt
