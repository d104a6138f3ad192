use Rattle.std.proofs.Common.{rules, subst, sym}
use Rattle.console_text.specs.Ends.{Prints}
use Rattle.store_console.specs.Session.{IsSession, IsTold}
use Rattle.command_line.specs.Performed.{IsOutcomeOf, IsSaidOf}
use Rattle.command_line.proofs.performing.perform.Goals.{in-Answer, in-Show, in-Sim, in-Store, in-Trace, in-Record, in-Threads, in-Turns}
use Rattle.command_line.proofs.performing.perform.Goals.{in-Contradiction}
use Rattle.command_line.proofs.performing.perform.Goals as goal

pub returns-clause-prints : goal.returns-clause-prints
returns-clause-prints g c = elim c.match-batch.branch [
  | in-Answer w ↦ search rules
  | in-Show w ↦ search rules
  | in-Sim w ↦ search rules
  | in-Store w ↦
      subst (λ b. Prints (IsOutcomeOf b) (g.R.Read.remaining c.args.input.now.reader) (g.W.Write.contents c.args.output.now)
      (g.W.Write.contents c.match-batch.output) c.match-batch.ended.ending) (sym w.in-Store.is)
      (subst (λ o. Prints IsSession (g.R.Read.remaining c.args.input.now.reader) (g.W.Write.contents c.args.output.now)
      (g.W.Write.contents o) c.match-batch.ended.ending) (sym w.output-is)
      (subst (λ e. Prints IsSession (g.R.Read.remaining c.args.input.now.reader) (g.W.Write.contents c.args.output.now)
      (g.W.Write.contents w.store-ended.new.output) e.ending) (sym w.ended-is) w.store-ended.ensures.prints))
  | in-Trace w ↦ search rules
  | in-Record w ↦ search rules
  | in-Threads w ↦ search rules
  | in-Turns w ↦ search rules
  | in-Contradiction w ↦ search rules
]

pub returns-clause-said : goal.returns-clause-said
returns-clause-said g c = elim c.match-batch.branch [
  | in-Answer w ↦ search rules
  | in-Show w ↦ search rules
  | in-Sim w ↦ search rules
  | in-Store w ↦
      subst (λ b. IsSaidOf b (g.R.Read.remaining c.args.input.now.reader) (g.W.Write.contents c.args.output.now)
      (g.W.Write.contents c.match-batch.output) c.match-batch.ended.ending c.match-batch.ended.why.items) (sym w.in-Store.is)
      (subst (λ o. IsTold (g.R.Read.remaining c.args.input.now.reader) (g.W.Write.contents c.args.output.now) (g.W.Write.contents o)
      c.match-batch.ended.ending c.match-batch.ended.why.items) (sym w.output-is)
      (subst (λ e. IsTold (g.R.Read.remaining c.args.input.now.reader) (g.W.Write.contents c.args.output.now)
      (g.W.Write.contents w.store-ended.new.output) e.ending e.why.items) (sym w.ended-is) w.store-ended.ensures.told))
  | in-Trace w ↦ search rules
  | in-Record w ↦ search rules
  | in-Threads w ↦ search rules
  | in-Turns w ↦ search rules
  | in-Contradiction w ↦ search rules
]
