use Rattle.std.proofs.Common.{sym, ap, ◌∙◌, Result, Ok, Err}
use Rattle.std.specs.Prelude.{OnOk}
use Rattle.job_model.specs.declared.node_command.NodeCommand.TheVariants.{Put, Done}
use Rattle.job_model.specs.Durable.{Durable}
use Rattle.job_model.specs.Fold.{after_command, after_wanted}
use Rattle.node_core.specs.declared.wanted.WantedRef.{WantedRef}
use Rattle.node_core.specs.Planned.{lent_by}
use Rattle.trace_check.proofs.durable_state.DurableState.take.Goals as goal

on_ok : {A E : Type 0} (P Q : Type 0) (r : Result A E) → (P → Q) → OnOk r P → OnOk r Q
on_ok P Q (Ok a) more h = more h
on_ok P Q (Err e) more h = h

pub returns-in-Put-clause-step : goal.returns-in-Put-clause-step
returns-in-Put-clause-step c =
    on_ok _ _ c.put.result
    (λ step.
    step c.self.inside.counter ∙ ap (λ (d : Durable). after_command d (Put c.in-Put.work.now)) c.self.view_is
    ∙ ap (λ (w : WantedRef). after_wanted c.args.self.now (lent_by w)) (sym c.in-Put.is))
    c.put.ensures.step

pub returns-in-Done-clause-step : goal.returns-in-Done-clause-step
returns-in-Done-clause-step c =
    c.done.ensures c.self.inside.counter ∙ ap (λ (d : Durable). after_command d (Done c.in-Done.id)) c.self.view_is
    ∙ ap (λ (w : WantedRef). after_wanted c.args.self.now (lent_by w)) (sym c.in-Done.is)
