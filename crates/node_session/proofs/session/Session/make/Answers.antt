use Rattle.std.proofs.Common.{◌∙◌, sym, ap, Bool}
use Rattle.node_core.specs.State.{is_down}
use Rattle.node_session.specs.Chains.{brought_up}
use Rattle.node_session.proofs.Calls.{step_alone, step_anew}
use Rattle.node_session.proofs.session.Session.make.Goals as goal

pub returns-then-not-brought_up-clause-calls : goal.returns-then-not-brought_up-clause-calls
returns-then-not-brought_up-clause-calls g c =
    step_alone g.D.SectorDisk.state c.args.self.now c.turn.new.self c.args.event.now c.in_ok-step.step c.in_ok-step.ensures.turn
    (ap (λ (b : Bool). brought_up b (is_down c.turn.new.self.node.state.phase)) (sym c.is_down-was_down.ensures)
    ∙ (ap (λ (b : Bool). brought_up c.is_down-was_down.result b) (sym c.is_down.ensures)
    ∙ (sym c.brought_up.ensures ∙ c.if-not-brought_up.true)))

pub returns-clause-calls : goal.returns-clause-calls
returns-clause-calls g c =
    step_anew g.D.SectorDisk.state c.args.self.now c.turn.new.self c.compact.new.self c.args.event.now c.in_ok-step.step c.in_ok-last.last
    c.in_ok-step.ensures.turn
    (ap (λ (b : Bool). brought_up b (is_down c.turn.new.self.node.state.phase)) (sym c.is_down-was_down.ensures)
    ∙ (ap (λ (b : Bool). brought_up c.is_down-was_down.result b) (sym c.is_down.ensures)
    ∙ (sym c.brought_up.ensures ∙ c.if-not-brought_up.false))) c.in_ok-last.ensures.turn
