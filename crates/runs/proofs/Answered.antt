-- What an act was answered is acknowledged.
use Rattle.std.proofs.Common.{◌≡◌, ℕ, ◌+◌, List, [], ◌∷◌, ◌++◌, map, take, refl, sym, ◌∙◌, ap, Bool, Option, Some, None}
use Rattle.std.specs.Prelude.{nat_lt, option_map, option_to_list}
use Rattle.job_model.specs.declared.job.Job.{Job}
use Rattle.job_model.specs.declared.node_command.NodeCommand.{NodeCommand as Command}
use Rattle.job_model.specs.declared.node_command.NodeCommand.TheVariants.{Raise}
use Rattle.job_model.specs.Answer.{answer_of}
use Rattle.node_core.specs.declared.event.Event.{Event}
use Rattle.node_core.specs.declared.event.Event.TheVariants as on
use Rattle.node_core.specs.State.{State}
use Rattle.node_core.specs.Wants.{wants_of}
use Rattle.histories.specs.NodeState.{NodeState, wants_at, settled}
use Rattle.histories.specs.declared.attempt.Attempt.{Attempt}
use Rattle.histories.specs.declared.history_event.HistoryEvent.{HistoryEvent}
use Rattle.histories.specs.declared.history_event.HistoryEvent.TheVariants.{Did, NoOp, Crashed, Recovered}
use Rattle.histories.specs.declared.history_event.NoOpKind.TheVariants.{Nothing}
use Rattle.histories.specs.HistoryEvent.{IsOf}
use Rattle.schedule.specs.declared.act.Act.{Act}
use Rattle.schedule.specs.declared.act.Act.TheVariants as act
use Rattle.runs.specs.declared.outcome.Outcome.TheVariants as outcome
use Rattle.runs.specs.declared.attempt_at.AttemptAt.{AttemptAt}
use Rattle.runs.specs.World.{World, node_in}
use Rattle.runs.specs.Step.{Step, Takes}
use Rattle.runs.specs.Acts.{IsStepOf, act_outcome, what_outcome}
use Rattle.runs.specs.Reporting.{Moment, Report, node_of, tries, commands_at, report_of}
use Rattle.runs.specs.Uses.{asks, AnsweredIsAcknowledged}
use Rattle.runs.proofs.Finishing.{taken_there}
use Rattle.runs.proofs.Fronts.{front_of}

-- an act that asks for a command is an event that wants it
record Asks (what : HistoryEvent) (c : Command) : Type 0 where
  event : Event
  of : IsOf event what
  wants : (self : ℕ) (pending : List Job) (s : State) → wants_of self pending event s ≡ Some c

asks_event : (nodes : ℕ) (w : World) (b : Act) (m number : ℕ) (what : HistoryEvent) (c : Command) → IsStepOf nodes w b (Takes m number what)
    → asks b ≡ Some c → Asks what c
asks_event nodes w (act.Submit n work) m number what c h is = record {
  event = on.Submit work;
  of = (taken_there (nat_lt n nodes) n 0 (IsOf (on.Submit work)) m number what h).1;
  wants = λ self pending s. is;
}
asks_event nodes w (act.Recover n) m number what c h is = record {
  event = on.Recover;
  of = (taken_there (nat_lt n nodes) n 0 (IsOf on.Recover) m number what h).1;
  wants = λ self pending s. is;
}
asks_event nodes w _ m number what c h is = absurd cc

-- one command was tried, and taken with this answer
record TakesOne (n a : ℕ) (what : HistoryEvent) (ts : List AttemptAt) : Type 0 where
  one : Attempt
  is : ts ≡ record { node = n; tried = one } ∷ []
  acked : one.acked ≡ Some a
  asked : (c : Command) → Asks what c → one.command ≡ c

abbrev at_node : ℕ → List Attempt → List AttemptAt
at_node n ts = map (λ (t : Attempt). record { node = n; tried = t }) ts

wanted_one : (n nodes a : ℕ) (s : NodeState) (event : Event) (wants : Option Command) → wants_at n nodes s event ≡ wants
    → option_map (answer_of s.durable) wants ≡ Some a
    → TakesOne n a (Did event) (at_node n (map (λ (c : Command). record { command = c; acked = Some (answer_of s.durable c) })
    (option_to_list wants)))
wanted_one n nodes a s event None is answer = absurd cc
wanted_one n nodes a s event (Some x) is answer = record {
  one = record { command = x; acked = Some (answer_of s.durable x) };
  is = refl;
  acked = answer;
  asked = λ c asks.
      (let same : event ≡ asks.event = cc (asks.of) in
      let both : Some x ≡ Some c = sym is ∙ (ap (λ (e : Event). wants_at n nodes s e) same ∙ asks.wants n s.durable.pending s.state) in
      cc both);
}

raised_one : (n a : ℕ) (kept : Bool) (s : NodeState) → Some ((settled kept s).counter + 1) ≡ Some a
    → TakesOne n a (Recovered kept) (at_node n (record { command = Raise; acked = Some ((settled kept s).counter + 1) } ∷ []))
raised_one n a kept s answer = record {
  one = record { command = Raise; acked = Some ((settled kept s).counter + 1) };
  is = refl;
  acked = answer;
  asked = λ c asks.
      (let same : on.Recover ≡ asks.event = cc (asks.of) in
      let both : Some Raise ≡ Some c = ap (λ (e : Event). wants_of n s.durable.pending e s.state) same
      ∙ asks.wants n s.durable.pending s.state in cc both);
}

what_answered : (n nodes first a p q : ℕ) (s : NodeState) (what : HistoryEvent) (b : Act)
    → what_outcome n nodes first s what b ≡ outcome.Done (Some a) p q → TakesOne n a what (at_node n (tries n nodes s what))
what_answered n nodes first a p q s (Did event) b is = wanted_one n nodes a s event (wants_at n nodes s event) refl (cc is)
what_answered n nodes first a p q s (NoOp Nothing) b is = absurd cc
what_answered n nodes first a p q s Crashed (act.Compact m) is = absurd cc
what_answered n nodes first a p q s (Recovered kept) b is = raised_one n a kept s (cc is)
what_answered n nodes first a p q s _ b is = absurd cc

-- so in a step of an act
record StepTakes (nodes a : ℕ) (w : World) (b : Act) (step : Step) : Type 0 where
  one : Attempt
  is : commands_at nodes w step ≡ record { node = node_of step; tried = one } ∷ []
  acked : one.acked ≡ Some a
  asked : (c : Command) → asks b ≡ Some c → one.command ≡ c

step_answered : (nodes a p q : ℕ) (w : World) (b : Act) (step : Step) → IsStepOf nodes w b step
    → act_outcome nodes w b step ≡ outcome.Done (Some a) p q → StepTakes nodes a w b step
step_answered nodes a p q w b (Takes n number what) of is =
    let it = what_answered n nodes _ a p q (node_in w.states n) what b is in
    record { one = it.one; is = it.is; acked = it.acked; asked = λ c asked. it.asked c (asks_event nodes w b n number what c of asked) }
step_answered nodes a p q w b _ of is = absurd cc

pub answered_is_acknowledged : AnsweredIsAcknowledged
answered_is_acknowledged nodes slots acts r h k m a first many at is =
    let f = front_of nodes slots acts r h k m at in
    let it = step_answered nodes a first many f.before f.act f.step f.of_act (ap (λ (x : Moment). x.outcome) (sym f.is) ∙ is) in
    let grows = ap (λ (x : Report). x.commands) f.grows ∙ ap (λ (ts : List AttemptAt). (report_of nodes (take k acts) h.steps).commands
    ++ ts) it.is in
    rw f.is (it.one, grows, it.acked, it.asked)
