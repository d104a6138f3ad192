use Rattle.std.proofs.Common.{◌≡◌, ◌+◌, true, false, refl, sym, ap, arith, ◌∙◌, None, Ok}
use Rattle.node_session.proofs.Calls.{no_call}
use Rattle.node_session.proofs.Timings.{IsFiring, calls_denied, calls_due, calls_ended, calls_rest}
use Rattle.node_session.proofs.session.Session.fire_due.Goals as goal

pub loop-fired-init : goal.loop-fired-init
loop-fired-init g c = record {
  rest = refl;
  done = λ denied. absurd cc;
  calls = no_call g.D.SectorDisk.state c.args.self.now (Ok None)
      (IsFiring c.args.self.now.waits c.args.self.now.timers c.args.self.now.timers 0) (λ s stands. (refl, refl));
}

pub returns-in_default-clause-calls : goal.returns-in_default-clause-calls
returns-in_default-clause-calls g c =
    calls_rest g.D.SectorDisk.state c.args.self.now c.loop-fired.self c.due.new.self c.due.result c.loop-fired.ended c.loop-fired._fired
    c.in_default.is c.due.ensures.same c.due.ensures.due (omega (arith, c.loop-fired-test.true))
    c.loop-fired.invariant.calls

pub returns-then-is_err-clause-calls : goal.returns-then-is_err-clause-calls
returns-then-is_err-clause-calls g c =
    calls_denied g.D.SectorDisk.state c.args.self.now c.turn.new.self c.in_ok-ended.ended (c.loop-fired._fired + 1)
    (sym c.is_err.ensures.value ∙ c.if-is_err.true) (omega (arith, c.loop-fired-test.true))
    (calls_due g.D.SectorDisk.state c.args.self.now c.loop-fired.self c.due.new.self c.add_fired.new.self c.turn.new.self c.in-Some.event
    c.due.result c.loop-fired.ended c.in_ok-ended.ended c.loop-fired._fired
    c.in-Some.ensures.fired c.in-Some.is c.due.ensures.same c.due.ensures.due c.in_ok-add_fired.ensures.text c.loop-fired.invariant.done
    c.loop-fired.invariant.calls c.in_ok-ended.ensures.turn)

pub loop-fired-preserved : goal.loop-fired-preserved
loop-fired-preserved g c = record {
  rest = c.turn.ensures.rest ∙ (c.add_fired.ensures.rest ∙ (ap (λ p. p.rest) c.due.ensures.same ∙ c.loop-fired.invariant.rest));
  done = λ denied. (let bad : false ≡ true = sym c.if-is_err.false ∙ (c.is_err.ensures.value ∙ denied) in absurd cc);
  calls = calls_due g.D.SectorDisk.state c.args.self.now c.loop-fired.self c.due.new.self c.add_fired.new.self c.turn.new.self
      c.in-Some.event c.due.result c.loop-fired.ended c.in_ok-ended.ended c.loop-fired._fired
      c.in-Some.ensures.fired c.in-Some.is c.due.ensures.same c.due.ensures.due c.in_ok-add_fired.ensures.text c.loop-fired.invariant.done
      c.loop-fired.invariant.calls c.in_ok-ended.ensures.turn;
}

pub returns-clause-calls : goal.returns-clause-calls
returns-clause-calls g c =
    calls_ended g.D.SectorDisk.state c.args.self.now c.loop-fired.self c.loop-fired.ended c.loop-fired._fired (omega (
      arith,
      c.loop-fired-test.false,
      c.loop-fired.auto._fired-end,
    )) c.loop-fired.invariant.calls
