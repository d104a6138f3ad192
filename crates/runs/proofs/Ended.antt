-- Where a job is done in a run, an act before was its finish, at a worker that had it in hand.
use Rattle.std.proofs.Common.{◌≡◌, ◌≢◌, ◌⊎◌, ℕ, suc, ◌+◌, ◌<◌, List, [], ◌∷◌, length, map, take, slice_get, refl, sym, ◌∙◌, ap, subst, inl}
use Rattle.std.proofs.Common.{inr, arith, Option, Some, None}
use Rattle.std.specs.Prelude.{option_to_list}
use Rattle.job_model.specs.declared.node_command.NodeCommand.{NodeCommand as Command}
use Rattle.job_model.specs.declared.node_command.NodeCommand.TheVariants.{Raise, Done}
use Rattle.job_model.specs.Answer.{answer_of}
use Rattle.wire_msg.specs.Envelope.{Envelope}
use Rattle.wire_msg.specs.declared.body.Body.TheVariants.{Done as DoneMessage}
use Rattle.node_core.specs.declared.event.Event.{Event}
use Rattle.node_core.specs.declared.event.Event.TheVariants as on
use Rattle.histories.specs.Lists.{IsAmong}
use Rattle.histories.specs.NodeState.{NodeState, wants_at, settled}
use Rattle.histories.specs.declared.history_event.HistoryEvent.{HistoryEvent}
use Rattle.histories.specs.declared.history_event.HistoryEvent.TheVariants.{Did, Refused, Faulted, Recovered}
use Rattle.histories.specs.declared.history_event.HistoryEvent.TheVariants.{RaiseFailed}
use Rattle.histories.specs.HistoryEvent.{event_of, brought, AreAddressed}
use Rattle.histories.specs.After.{sent_at}
use Rattle.histories.specs.Owners.{acted}
use Rattle.histories.specs.Possible.{Takes as TakesEvent, IsPossible}
use Rattle.histories.specs.declared.attempt.Attempt.{Attempt}
use Rattle.histories.proofs.PublicLaws.{HasWork, OwnedAt, among_either, causes, done_said, has_work, held_finish, owned_after}
use Rattle.schedule.specs.declared.act.Act.{Act}
use Rattle.schedule.specs.declared.act.Act.TheVariants as act
use Rattle.runs.specs.World.{World, node_in}
use Rattle.runs.specs.Step.{Step, Takes, Changes, Denies, world_after}
use Rattle.runs.specs.Run.{IsAllowed, world_at}
use Rattle.runs.specs.Acts.{IsStepOf, IsLawful, IsRunOf}
use Rattle.runs.specs.declared.outcome.Outcome.TheVariants as outcome
use Rattle.runs.specs.declared.outcome.ActRefusal.{ActRefusal}
use Rattle.runs.specs.declared.attempt_at.AttemptAt.{AttemptAt}
use Rattle.runs.specs.Reporting.{Moment, Report, moment_of, tries, commands_at, grown, report_from}
use Rattle.runs.proofs.Finishing.{SaysFinished, finish_act, acted_outcome}
use Rattle.runs.proofs.Keeping.{AllStates, lawful_keeps}
use Rattle.runs.proofs.Lawful.{allowed_of, sent_there}
use Rattle.runs.proofs.Reports.{moments_from}
use Rattle.runs.proofs.Runs.{brought_sent, node_there}

-- at this place of a run from w on the job of this origin and id is finished at this worker, which had it in hand before
pub record Finishes (nodes : ℕ) (w : World) (acts : List Act) (steps : List Step) (worker origin id place : ℕ) : Type 0 where
  pub moment : Moment
  pub at : slice_get (moments_from nodes w acts steps) place ≡ Some moment
  pub of_act : moment.act ≡ act.Finish worker origin id
  pub not_refused : (why : ActRefusal) → moment.outcome ≢ outcome.Refused why
  pub was : NodeState
  pub is_state : slice_get (world_at nodes w (take place steps)).states worker ≡ Some was
  pub work : HasWork worker was.state origin id

-- an entry that says so is an event that was taken
says_taken : (self nodes : ℕ) (s : NodeState) (what : HistoryEvent) (origin id : ℕ) → IsPossible self nodes s what
    → SaysFinished what origin id → TakesEvent self nodes s (on.Finish origin id)
says_taken self nodes s (Did event) origin id may i = elim i [
  | inl e ↦ subst (λ (x : Event). TakesEvent self nodes s x) (sym e) may
  | inr none ↦ absurd none
]
says_taken self nodes s (Faulted event) origin id may i =
    elim i [ inl e ↦ subst (λ (x : Event). TakesEvent self nodes s x) (sym e) may.0 | inr none ↦ absurd none ]
says_taken self nodes s _ origin id may i = absurd i

finishes_now : (slots nodes : ℕ) (w : World) (a : Act) (m number : ℕ) (what : HistoryEvent) (acts : List Act) (steps : List Step)
    (origin id : ℕ) → IsStepOf nodes w a (Takes m number what)
    → IsLawful slots nodes w (Takes m number what) → AllStates OwnedAt w → SaysFinished what origin id
    → Finishes nodes w (a ∷ acts) (Takes m number what ∷ steps) m origin id 0
finishes_now slots nodes w a m number what acts steps origin id of may owned says =
    let s : NodeState = may.0 in
    let at : slice_get w.states m ≡ Some s = may.1 in
    let taken : TakesEvent m nodes s (on.Finish origin id) = says_taken m nodes s what origin id may.2 says in record {
      moment = moment_of nodes w a (Takes m number what);
      at = refl;
      of_act = finish_act nodes w a m number what origin id of says;
      not_refused = acted_outcome m nodes (length w.net.sent) (node_in w.states m) what a (on.Finish origin id) says;
      was = s;
      is_state = at;
      work = has_work m s origin id (owned m s at) (held_finish nodes m origin id s.state taken.1.by_core).1;
    }

finishes_later : (nodes : ℕ) (w : World) (a : Act) (step : Step) (acts : List Act) (steps : List Step) (worker origin id place : ℕ)
    → Finishes nodes (world_after nodes w step) acts steps worker origin id place
    → Finishes nodes w (a ∷ acts) (step ∷ steps) worker origin id (suc place)
finishes_later nodes w a step acts steps worker origin id place h =
    record {
      moment = h.moment;
      at = h.at;
      of_act = h.of_act;
      not_refused = h.not_refused;
      was = h.was;
      is_state = h.is_state;
      work = h.work;
    }

-- finished in this run, by another node before the last of its acts
abbrev pub EndedIn : ℕ → World → List Act → List Step → ℕ → ℕ → Type 0
EndedIn nodes w acts steps origin id = (worker : ℕ) × (place : ℕ) × Finishes nodes w acts steps worker origin id place
    × (place < length steps) × (worker ≢ origin → suc place < length steps)

-- or before it, as F says
abbrev Ended : (ℕ → ℕ → Type 0) → ℕ → World → List Act → List Step → ℕ → ℕ → Type 0
Ended F nodes w acts steps origin id = (F origin id × (0 < length steps)) ⊎ EndedIn nodes w acts steps origin id

-- F says so of each Done that is under way
abbrev Underway : (ℕ → ℕ → Type 0) → List Envelope → Type 0
Underway F ms = (m : Envelope) (id : ℕ) → IsAmong m ms → m.body ≡ DoneMessage id → F m.receiver id

-- the first of these acts says so
abbrev Now : ℕ → World → List Act → List Step → ℕ → ℕ → Type 0
Now nodes w acts steps origin id = (worker : ℕ) × Finishes nodes w acts steps worker origin id 0

did_say : (self nodes : ℕ) (s : NodeState) (what : HistoryEvent) (m : Envelope) (id : ℕ) → IsPossible self nodes s what
    → IsAmong m (sent_at self nodes s what) → m.body ≡ DoneMessage id → SaysFinished what m.receiver id
did_say self nodes s (Did event) m id may i body = (let said : Some event ≡ Some (on.Finish m.receiver id) =
    done_said self nodes s (Did event) m id may i body in
    let same : event ≡ on.Finish m.receiver id = cc said in inl (sym same))
did_say self nodes s _ m id may i body = absurd i

step_underway : (F : ℕ → ℕ → Type 0) (slots nodes : ℕ) (w : World) (a : Act) (step : Step) (acts : List Act) (steps : List Step)
    → IsStepOf nodes w a step → IsLawful slots nodes w step → AllStates OwnedAt w
    → Underway F w.net.sent → Underway (λ o i. F o i ⊎ Now nodes w (a ∷ acts) (step ∷ steps) o i) (world_after nodes w step).net.sent
step_underway F slots nodes w a (Takes n number what) acts steps of may owned h m id i body =
    let was : node_in w.states n ≡ may.0 = node_there w.states n may.0 may.1 in
    elim (among_either m w.net.sent (sent_at n nodes (node_in w.states n) what) i) [
      | inl old ↦ inl (h m id old body)
      | inr new ↦ (let says = did_say n nodes may.0 what m id may.2 (subst (λ (x : NodeState). IsAmong m (sent_at n nodes x what)) was new)
          body in
          inr (n, finishes_now slots nodes w a n number what acts steps m.receiver id of may owned says))
    ]
step_underway F slots nodes w a (Changes net) acts steps of may owned h m id i body =
    inl (h m id (subst (λ (ms : List Envelope). IsAmong m ms) (sent_there nodes w a net of) i) body)
step_underway F slots nodes w a (Denies named why) acts steps of may owned h m id i body = inl (h m id i body)

-- ---- a command that ends a job

-- it was tried by this node in this entry
record Tries (n : ℕ) (s : NodeState) (what : HistoryEvent) (t : Attempt) (id : ℕ) : Type 0 where
  event : Event
  acts : acted what ≡ event ∷ []
  of : event_of what ≡ Some event
  wants : (nodes : ℕ) → wants_at n nodes s event ≡ Some (Done id)

command_wanted : (f : Command → Attempt) (wants : Option Command) (t : Attempt) (id : ℕ) → ((c : Command) → (f c).command ≡ c)
    → IsAmong t (map f (option_to_list wants)) → t.command ≡ Done id → wants ≡ Some (Done id)
command_wanted f None t id same i is = absurd i
command_wanted f (Some c) t id same i is = elim i [
  | inl e ↦ ap Some (sym (same c) ∙ (ap (λ (x : Attempt). x.command) (sym e) ∙ is))
  | inr none ↦ absurd none
]

raise_only : (u t : Attempt) (id : ℕ) → u.command ≡ Raise → IsAmong t (u ∷ []) → t.command ≡ Done id → ⊥
raise_only u t id raise i is = elim i [
  | inl e ↦ (let both : Raise ≡ Done id = sym raise ∙ (ap (λ (x : Attempt). x.command) (sym e) ∙ is) in absurd cc)
  | inr none ↦ absurd none
]

who_tries : (n nodes : ℕ) (s : NodeState) (what : HistoryEvent) (t : Attempt) (id : ℕ) → IsAmong t (tries n nodes s what)
    → t.command ≡ Done id → Tries n s what t id
who_tries n nodes s (Did event) t id i is = record {
  event = event;
  acts = refl;
  of = refl;
  wants = λ _. command_wanted (λ (c : Command). record { command = c; acked = Some (answer_of s.durable c) })
      (wants_at n nodes s event) t id (λ c. refl) i is;
}
who_tries n nodes s (Faulted event) t id i is = record {
  event = event;
  acts = refl;
  of = refl;
  wants = λ _. command_wanted (λ (c : Command). record { command = c; acked = None }) (wants_at n nodes s event) t id (λ c. refl) i is;
}
who_tries n nodes s (Recovered kept) t id i is = absurd (raise_only (record {
  command = Raise;
  acked = Some ((settled kept s).counter + 1);
}) t id refl i is)
who_tries n nodes s (RaiseFailed kept) t id i is = absurd (raise_only (record { command = Raise; acked = None }) t id refl i is)
who_tries n nodes s _ t id i is = absurd i

-- one of the commands of one node
record OfNode (n : ℕ) (ts : List Attempt) (t : AttemptAt) : Type 0 where
  node : t.node ≡ n
  among : IsAmong t.tried ts

of_node : (n : ℕ) (ts : List Attempt) (t : AttemptAt) → IsAmong t (map (λ (x : Attempt). record { node = n; tried = x }) ts) → OfNode n ts t
of_node n [] t i = absurd i
of_node n (x ∷ ts) t i = elim i [
  | inl e ↦ record { node = ap (λ (y : AttemptAt). y.node) e; among = inl (ap (λ (y : AttemptAt). y.tried) e) }
  | inr j ↦ (let it = of_node n ts t j in record { node = it.node; among = inr it.among })
]

-- the first step tries it
step_ended : (F : ℕ → ℕ → Type 0) (slots nodes : ℕ) (w : World) (a : Act) (step : Step) (acts : List Act) (steps : List Step)
    (t : AttemptAt) (id : ℕ) → IsStepOf nodes w a step → IsLawful slots nodes w step
    → AllStates OwnedAt w → Underway F w.net.sent → IsAmong t (commands_at nodes w step) → t.tried.command ≡ Done id
    → Ended F nodes w (a ∷ acts) (step ∷ steps) t.node id
step_ended F slots nodes w a (Takes n number what) acts steps t id of may owned h i is =
    let mine = of_node n (tries n nodes (node_in w.states n) what) t i in
    let was : node_in w.states n ≡ may.0 = node_there w.states n may.0 may.1 in
    let it = who_tries n nodes may.0 what t.tried id (subst (λ (x : NodeState). IsAmong t.tried (tries n nodes x what)) was mine.among) is
    in
    let allowed : IsAllowed nodes w (Takes n number what) = allowed_of slots nodes w a (Takes n number what) of may in
    subst (λ (o : ℕ). Ended F nodes w (a ∷ acts) (Takes n number what ∷ steps) o id) (sym mine.node)
    (elim (causes n may.0.durable.pending it.event may.0.state id (it.wants nodes)) [
      | inl own ↦ inr (
        n,
        0,
        finishes_now slots nodes w a n number what acts steps n id of may owned (rw it.acts (inl (sym own))),
        omega arith,
        (λ ne. absurd (ne refl)),
      )
      | inr told ↦ inl (delivered told.0 (it.of ∙ ap Some told.1) told.2 allowed, omega arith)
    ])
  where
    delivered : (m : Envelope) → event_of what ≡ Some (on.Deliver m) → m.body ≡ DoneMessage id → IsAllowed nodes w (Takes n number what)
        → F n id
    delivered m is_event body allowed =
        let here : brought (event_of what) ≡ m ∷ [] = ap brought is_event in
        let sent : IsAmong m w.net.sent = brought_sent w number (brought (event_of what)) m allowed.3 (rw here (inl refl)) in
        let to : AreAddressed n (m ∷ []) = subst (λ (ms : List Envelope). AreAddressed n ms) here allowed.4 in
        subst (λ (o : ℕ). F o id) to.0 (h m id sent body)
step_ended F slots nodes w a _ acts steps t id of may owned h i is = absurd i

pub done_ended : (F : ℕ → ℕ → Type 0) (slots nodes : ℕ) (acts : List Act) (steps : List Step) (w : World) (r : Report)
    → IsRunOf nodes slots w acts steps → AllStates OwnedAt w → Underway F w.net.sent
    → (t : AttemptAt) (id : ℕ) → IsAmong t (report_from nodes w r acts steps).commands → t.tried.command ≡ Done id
    → IsAmong t r.commands ⊎ Ended F nodes w acts steps t.node id
done_ended F slots nodes [] [] w r run owned h t id i is = inl i
done_ended F slots nodes (a ∷ acts) (step ∷ steps) w r run owned h t id i is =
    elim (done_ended (λ o j. F o j ⊎ Now nodes w (a ∷ acts) (step ∷ steps) o j) slots nodes acts steps (world_after nodes w step)
    (grown nodes w a step r) run.2
    (lawful_keeps OwnedAt OwnedAt nodes slots (λ n s h. h) (λ n s what may fits h. owned_after n nodes s what may h) w step run.1 owned)
    (step_underway F slots nodes w a step acts steps run.0 run.1 owned h) t id i is) [
      | inl among ↦ elim (among_either t r.commands (commands_at nodes w step) among) [
        | inl old ↦ inl old
        | inr new ↦ inr (step_ended F slots nodes w a step acts steps t id run.0 run.1 owned h new is)
      ]
      | inr ended ↦ elim ended [
        | inl before ↦ elim before.0 [
          | inl f ↦ inr (inl (f, omega arith))
          | inr now ↦ inr (inr (now.0, 0, now.1, omega arith, (λ ne. omega (arith, before.1))))
        ]
        | inr it ↦ inr (inr (
          it.0,
          suc it.1,
          finishes_later nodes w a step acts steps it.0 t.node id it.1 it.2,
          omega (arith, it.3),
          (λ ne. omega (arith, it.4 ne)),
        ))
      ]
    ]
done_ended F slots nodes _ _ w r run owned h t id i is = absurd run
