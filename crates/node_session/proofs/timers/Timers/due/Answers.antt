use Rattle.std.proofs.Common.{inl, inr}
use Rattle.node_session.proofs.Looks.{ends_there, goes_on, looks_so}
use Rattle.node_session.proofs.timers.Timers.due.Goals.{then-is_some-via-then-is_some, then-is_some-via-else-is_some+then-not-is_answered}
use Rattle.node_session.proofs.timers.Timers.due.Goals as goal

pub returns-then-is_some-clause-looks : goal.returns-then-is_some-clause-looks
returns-then-is_some-clause-looks c =
    let e = c.tick-due.ensures in
    looks_so c.args.snapshot.now c.args.waiting.now c.args.self.now c.look_in.new.self _ c.tick-due.result c.tick-due.new.self
    c.tick-due.result c.tick-due.new.self c.self.view_is c.look_in.ensures
    (record {
      timer = e.timer;
      work = e.work;
      not_early = e.not_early;
      down = e.down;
      moves = e.moves;
      sets = e.set;
      prompts = e.prompts;
      checks = e.checks;
      dispatches = e.dispatches;
      kept = e.kept;
    })
    (ends_there c.args.snapshot.now c.args.waiting.now c.tick-due.result c.tick-due.new.self (elim c.then-is_some.branch [
      | then-is_some-via-then-is_some w ↦ inl (cc (w.if-is_some.true, c.is_some.ensures))
      | then-is_some-via-else-is_some+then-not-is_answered w ↦ inr (cc (w.if-not-is_answered.true, w.is_answered.ensures))
    ]))

pub returns-clause-looks : goal.returns-clause-looks
returns-clause-looks c =
    let e = c.tick-due.ensures in
    let f = c.tick.ensures in
    looks_so c.args.snapshot.now c.args.waiting.now c.args.self.now c.look_in.new.self _ c.tick-due.result c.tick-due.new.self c.tick.result
    c.tick.new.self c.self.view_is c.look_in.ensures
    (record {
      timer = e.timer;
      work = e.work;
      not_early = e.not_early;
      down = e.down;
      moves = e.moves;
      sets = e.set;
      prompts = e.prompts;
      checks = e.checks;
      dispatches = e.dispatches;
      kept = e.kept;
    })
    (goes_on c.args.snapshot.now c.args.waiting.now c.tick-due.result c.tick-due.new.self c.answered.new.self c.tick.result c.tick.new.self
    (cc (c.if-is_some.false, c.is_some.ensures)) (cc (c.if-not-is_answered.false, c.is_answered.ensures)) c.answered.ensures
    (record {
      timer = f.timer;
      work = f.work;
      not_early = f.not_early;
      down = f.down;
      moves = f.moves;
      sets = f.set;
      prompts = f.prompts;
      checks = f.checks;
      dispatches = f.dispatches;
      kept = f.kept;
    }))
