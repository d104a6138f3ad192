-- A step of an act is reported of the node that the act names.
use Rattle.std.proofs.Common.{◌≡◌, ℕ, Bool, true, false, nat_lt, slice_get, Option, refl, sym, ◌∙◌, ap, Result, Ok, Err, if◌then◌else◌}
use Rattle.std.proofs.Common.{◌&&◌, MatchResult}
use Rattle.wire_msg.specs.Envelope.{Envelope}
use Rattle.node_core.specs.declared.event.Event.TheVariants as on
use Rattle.histories.specs.declared.history_event.HistoryEvent.{HistoryEvent}
use Rattle.schedule.specs.declared.act.Act.{Act}
use Rattle.schedule.specs.declared.act.Act.TheVariants as act
use Rattle.sim_net.specs.declared.fault.NetFault.{NetFault}
use Rattle.sim_net.specs.Network.{Network, message_at, delivery, after_lost, after_cut, after_mend}
use Rattle.runs.specs.World.{World}
use Rattle.runs.specs.declared.outcome.ActRefusal.TheVariants.{Net as OfNet, Stranger}
use Rattle.runs.specs.Step.{Step, Changes, Denies}
use Rattle.runs.specs.Acts.{At, IsStepOf, receiver_or_first}
use Rattle.histories.specs.HistoryEvent.{IsOf}
use Rattle.runs.specs.Reporting.{node_of}
use Rattle.cluster_sim.specs.Names.{node_named}
use Rattle.runs.proofs.PublicLaws.{Brings, comes_sent}

named_at : (known : Bool) (n k : ℕ) (P : HistoryEvent → Type 0) (step : Step) → At known n k P step
    → node_of step ≡ (if known then n else 0)
named_at true n k P step at = ap node_of at.1
named_at false n k P step at = ap node_of at

named_by_message : (nodes k : ℕ) (net : Network) (d : Result Envelope NetFault) (step : Step) → delivery net k ≡ d
    → Brings nodes net k d step → node_of step ≡ receiver_or_first nodes (slice_get net.sent k)
named_by_message nodes k net (Ok x) step is brings =
    named_at (nat_lt x.receiver nodes) x.receiver k (IsOf (on.Deliver x)) step brings
    ∙ ap (λ (o : Option Envelope). receiver_or_first nodes o) (sym (comes_sent net k x is))
named_by_message nodes k net (Err why) step is brings = ap node_of brings

named_at_loss : (net : Network) (d : Result Envelope NetFault) (step : Step)
    → MatchResult d (λ (m : Envelope). step ≡ Changes net) (λ (why : NetFault). step ≡ Denies 0 (OfNet why)) → node_of step ≡ 0
named_at_loss net (Ok m) step is = ap node_of is
named_at_loss net (Err why) step is = ap node_of is

named_at_link : (known : Bool) (net : Network) (step : Step) → step ≡ (if known then Changes net else Denies 0 Stranger) → node_of step ≡ 0
named_at_link true net step is = ap node_of is
named_at_link false net step is = ap node_of is

pub step_named : (nodes : ℕ) (w : World) (a : Act) (step : Step) → IsStepOf nodes w a step → node_of step ≡ node_named nodes w.net.sent a
step_named nodes w (act.Deliver k) step of = named_by_message nodes k w.net (delivery w.net k) step refl of
step_named nodes w (act.Lose k) step of = named_at_loss (after_lost w.net k) (message_at w.net k) step of
step_named nodes w (act.Cut x y) step of = named_at_link (nat_lt x nodes && nat_lt y nodes) (after_cut w.net x y) step of
step_named nodes w (act.Mend x y) step of = named_at_link (nat_lt x nodes && nat_lt y nodes) (after_mend w.net x y) step of
step_named nodes w _ step of = named_at _ _ 0 _ step of
