use Rattle.std.proofs.Common.{◌≡◌, Err, IfOk, subst, None, Some, refl, length, slice_get, sym, ◌∙◌, ap}
use Rattle.sim_net.specs.Network.{Network, delivery}
use Rattle.runs.specs.Acts.{receiver_or_first}
use Rattle.runs.specs.declared.outcome.ActRefusal.TheVariants.{Net}
use Rattle.schedule.specs.declared.act.Act.TheVariants as act
use Rattle.node_core.specs.declared.event.Event.TheVariants as on
use Rattle.cluster_sim.specs.Answering.{IsAnsweredBy, delivered as delivered_event, event_by}
use Rattle.cluster_sim.specs.declared.act_report.ActReport.{ActReport}
use Rattle.cluster_sim.specs.World.{StandsFor, WorldView}
use Rattle.cluster_sim.proofs.Answering.{event_answered, idle_areas}
use Rattle.cluster_sim.proofs.Doings.{delivered, denies}
use Rattle.cluster_sim.proofs.world.World.deliver.Goals as goal

pub returns-in-Err-clause-acted : goal.returns-in-Err-clause-acted
returns-in-Err-clause-acted c = λ w stands.
    let before : StandsFor c.self.inside.nodes w = rw c.self.view_is stands in
    denies w (act.Deliver c.args.number) (receiver_or_first (length w.states) (slice_get w.net.sent c.args.number))
    (Net c.in-Err.fault) c.self.inside.nodes before
    (rw (ap (λ (n : Network). delivery n c.args.number) (sym (c.net.ensures ∙ before.net)) ∙ c.in-Err.ensures.refused) refl)

pub returns-in-Ok-clause-acted : goal.returns-in-Ok-clause-acted
returns-in-Ok-clause-acted c = λ w stands.
    let before : StandsFor c.self.inside.nodes w = rw c.self.view_is stands in
    let comes = c.in-Ok.ensures.comes in
    let m = comes.message in
    delivered w c.args.number m c.take.result c.take.new.self
    (ap (λ (n : Network). delivery n c.args.number) (sym (c.net.ensures ∙ before.net)) ∙ comes.is)
    (λ brings goes. rw (← comes.event_is, ← comes.at) (c.take.ensures.acted w c.args.number (act.Deliver c.args.number) before
    (rw comes.event_is brings) (rw (comes.event_is, comes.at) goes)))

pub returns-in-Ok-clause-answers : goal.returns-in-Ok-clause-answers
returns-in-Ok-clause-answers c = λ w stands.
    let before : StandsFor c.self.inside.nodes w = rw c.self.view_is stands in
    let comes = c.in-Ok.ensures.comes in
    let there : event_by c.self.inside.nodes.net (act.Deliver c.args.number) ≡ Some (comes.message.receiver, on.Deliver comes.message) =
    ap delivered_event (ap (λ (n : Network). delivery n c.args.number) (sym c.net.ensures) ∙ comes.is) in
    subst (λ (v : WorldView). IfOk c.take.result (λ (d : ActReport). IsAnsweredBy (act.Deliver c.args.number) v d.outcome)) c.self.view_is
    (event_answered c.self.inside.nodes.net c.self.inside.nodes.nodes (act.Deliver c.args.number) comes.message.receiver
    (on.Deliver comes.message) c.take.result there
    (rw (comes.at, comes.event_is) at (c.take.ensures.answers w before)))

pub returns-in-Ok-clause-areas : goal.returns-in-Ok-clause-areas
returns-in-Ok-clause-areas c = λ w stands. rw (← c.self.view_is) (c.take.ensures.areas w (rw c.self.view_is stands))

pub returns-in-Err-clause-answers : goal.returns-in-Err-clause-answers
returns-in-Err-clause-answers c = λ w stands n event at.
    let refused : delivery c.self.inside.nodes.net c.args.number ≡ Err c.in-Err.fault =
    ap (λ (n : Network). delivery n c.args.number) (sym c.net.ensures) ∙ c.in-Err.ensures.refused in
    let here : delivery c.args.self.now.net c.args.number ≡ Err c.in-Err.fault = rw (← c.self.view_is) refused in
    let none : event_by c.args.self.now.net (act.Deliver c.args.number) ≡ None = ap delivered_event here in
    absurd (let both : None ≡ Some (n, event) = sym none ∙ at in cc)

pub returns-in-Err-clause-areas : goal.returns-in-Err-clause-areas
returns-in-Err-clause-areas c = λ w stands. rw (← c.self.view_is)
    (idle_areas c.self.inside.nodes.nodes c.self.inside.nodes.nodes _ refl (λ bad. cc))
