-- The node that an act is reported of, as code names it.
use Rattle.std.specs.Prelude.{ℕ, nat_lt, if◌then◌else◌, List, slice_get, option_map, unwrap_or}
use Rattle.node_core.specs.declared.event.Event.{Event}
use Rattle.wire_msg.specs.Envelope.{Envelope}
use Rattle.schedule.specs.declared.act.Act.{Act}
use Rattle.schedule.specs.declared.act.Act.TheVariants as act
use Rattle.runs.specs.Acts.{receiver_or_first}
use Rattle.runs.specs.Events.{event_at}

-- node 0 in place of a node outside the cluster
abbrev pub node_or_first : ℕ → ℕ → ℕ
node_or_first nodes n = if nat_lt n nodes then n else 0

-- where these were sent: that of the act, or the receiver of the message, or node 0
abbrev pub node_named : ℕ → List Envelope → Act → ℕ
node_named nodes sent (act.Deliver k) = receiver_or_first nodes (slice_get sent k)
node_named nodes sent (act.Arm n calls) = node_or_first nodes n
node_named nodes sent (act.Crash n fill) = node_or_first nodes n
node_named nodes sent (act.Compact n) = node_or_first nodes n
node_named nodes sent a = unwrap_or (option_map (λ (e : ℕ × Event). node_or_first nodes e.0) (event_at a)) 0
