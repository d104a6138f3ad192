use Rattle.std.proofs.Common.{ap, ◌∙◌}
use Rattle.node_core.specs.State.{state_of}
use Rattle.node_session.proofs.Calls.{if_ok}
use Rattle.node_session.proofs.Timings.{loss_call, loss_none}
use Rattle.node_session.proofs.session.Session.give_up.Goals as goal

pub returns-in_ok-add_fired-in-Some-clause-calls : goal.returns-in_ok-add_fired-in-Some-clause-calls
returns-in_ok-add_fired-in-Some-clause-calls g c =
    if_ok c.turn.result _ _
    (λ ended turns. loss_call g.D.SectorDisk.state c.args.self.now _ c.turn.new.self c.id.result c.args.node c.in-Some.event
    (state_of c.vector.result.now) c.loss_of.result c.give_up.new.self ended c.in-Some.ensures.fired c.in-Some.is
    c.loss_of.ensures.value (c.id.ensures ∙ ap (λ p. p.node.id) c.self.view_is) (c.vector.ensures ∙ ap (λ p. p.node.state) c.self.view_is)
    (c.self-in-Some.view_is ∙ c.in_ok-add_fired-in-Some.ensures.text) c.give_up.ensures turns)
    c.turn.ensures.turn

pub returns-in-None-clause-calls : goal.returns-in-None-clause-calls
returns-in-None-clause-calls g c =
    loss_none g.D.SectorDisk.state c.args.self.now c.id.result c.args.node (state_of c.vector.result.now) c.loss_of.result c.in-None.is
    c.loss_of.ensures.value (c.id.ensures ∙ ap (λ p. p.node.id) c.self.view_is)
    (c.vector.ensures ∙ ap (λ p. p.node.state) c.self.view_is)
