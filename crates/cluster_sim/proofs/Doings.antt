-- What a cluster makes of an act, by the kind of the act.
use Rattle.std.proofs.Common.{◌≡◌, ◌≤◌, ℕ, Bool, true, false, List, [], length, nat_lt, slice_get, refl, sym, ◌∙◌, ap, subst, Option, Some}
use Rattle.std.proofs.Common.{None, Result, Ok, Err, ◌&&◌, if◌then◌else◌, IfSome, IfOk, OnErr}
use Rattle.std.proofs.lemmas.Option.{slice_get_past}
use Rattle.wire_msg.specs.Envelope.{Envelope}
use Rattle.sim_net.specs.declared.fault.NetFault.{NetFault}
use Rattle.sim_net.specs.Network.{Network, message_at, delivery, after_lost}
use Rattle.node_core.specs.declared.event.Event.{Event}
use Rattle.node_core.specs.declared.event.Event.TheVariants as on
use Rattle.histories.specs.declared.history_event.HistoryEvent.{HistoryEvent}
use Rattle.histories.specs.declared.history_event.HistoryEvent.TheVariants.{NoOp, Crashed}
use Rattle.histories.specs.HistoryEvent.{event_of, brought, AreAddressed, IsOf}
use Rattle.schedule.specs.declared.act.Act.{Act}
use Rattle.schedule.specs.declared.act.Act.TheVariants as act
use Rattle.runs.specs.declared.outcome.Outcome.{Outcome}
use Rattle.runs.specs.declared.outcome.Outcome.TheVariants as outcome
use Rattle.runs.specs.declared.outcome.ActRefusal.TheVariants as refusal
use Rattle.histories.specs.NodeState.{NodeState}
use Rattle.runs.specs.World.{World, node_in}
use Rattle.runs.specs.declared.outcome.ActRefusal.{ActRefusal}
use Rattle.runs.specs.Step.{Step, Changes, Denies}
use Rattle.runs.specs.Run.{IsBrought}
use Rattle.runs.specs.Acts.{At, IsStepOf, IsCompaction}
use Rattle.runs.specs.Events.{event_at}
use Rattle.sector_disk.specs.Memory.{Memory}
use Rattle.durable_node.specs.Arming.{armed_disk}
use Rattle.durable_node.specs.Node.{Node}
use Rattle.durable_node.proofs.PublicLaws.{is_some}
use Rattle.cluster_sim.specs.World.{FaultsAt, IsUntouched, WorldView, StandsFor, Performed, Makes, armed_by, as_before, bare, disk_of}
use Rattle.cluster_sim.specs.World.{linked, link_act}
use Rattle.cluster_sim.specs.Operated.{Operates, IsCompacted, OperatedAs, OperatesNode, operated_at}
use Rattle.cluster_sim.specs.Names.{node_named, node_or_first}
use Rattle.cluster_sim.specs.declared.act_report.ActReport.{ActReport}

-- ---- what comes of an event

pub brought_came : (w : World) (n number : ℕ) (event : Event) → IsBrought w number (brought (Some event))
    → AreAddressed n (brought (Some event))
    → (what : HistoryEvent) → IsOf event what → IsBrought w number (brought (event_of what)) × AreAddressed n (brought (event_of what))
brought_came w n number event brings goes what is = rw is (brings, goes)

-- ---- an act that is an event

pub record IsTakenAs (a : Act) (e : ℕ × Event) : Type 0 where
  pub quiet : brought (Some e.1) ≡ []
  pub named : (nodes : ℕ) (sent : List Envelope) → node_named nodes sent a ≡ node_or_first nodes e.0
  pub arms : armed_by a ≡ as_before
  pub is_step : (nodes : ℕ) (w : World) (step : Step) → At (nat_lt e.0 nodes) e.0 0 (IsOf e.1) step → IsStepOf nodes w a step

taken : (a : Act) → IfSome (event_at a) (IsTakenAs a)
taken (act.Recover n) = record { quiet = refl; named = λ nodes sent. refl; is_step = λ nodes w step at. at; arms = refl }
taken (act.Timer n timer) = record { quiet = refl; named = λ nodes sent. refl; is_step = λ nodes w step at. at; arms = refl }
taken (act.Submit n work) = record { quiet = refl; named = λ nodes sent. refl; is_step = λ nodes w step at. at; arms = refl }
taken (act.Finish n origin id) = record { quiet = refl; named = λ nodes sent. refl; is_step = λ nodes w step at. at; arms = refl }
taken _ = tt

-- ---- a step of an act

pub performed : {E : Type 0} (Q : Step → Type 0) (w : World) (a : Act) (result : Result ActReport E) (new : WorldView)
    → ((step : Step) → Q step → IsStepOf (length w.states) w a step) → IfOk result (λ (d : ActReport). Makes a Q w d new)
    → IfOk result (λ (d : ActReport). Performed w a d new)
performed Q w a (Ok d) new is_step makes = record {
  acted = record {
    step = makes.step;
    next = record { of_act = is_step makes.step makes.is; allowed = makes.allowed; of_slots = makes.of_slots };
    outcome_is = makes.outcome_is;
    shows = makes.shows;
    stands = makes.stands;
  };
  reports = makes.reports;
}
performed Q w a (Err e) new is_step makes = tt

pub taken_as : (a : Act) (n : ℕ) (event : Event) → event_at a ≡ Some (n, event) → IsTakenAs a (n, event)
taken_as a n event at = subst (λ (x : Option (ℕ × Event)). IfSome x (IsTakenAs a)) at (taken a)

pub event_acted : {E : Type 0} (w : World) (a : Act) (n : ℕ) (event : Event) (result : Result ActReport E) (new : WorldView)
    → event_at a ≡ Some (n, event)
    → ((number : ℕ) → IsBrought w number (brought (Some event)) → AreAddressed n (brought (Some event))
    → IfOk result (λ (d : ActReport). Makes a (λ step. At (nat_lt n (length w.states)) n number (IsOf event) step) w d new))
    → IfOk result (λ (d : ActReport). Performed w a d new)
event_acted w a n event result new at makes =
    let is = taken_as a n event at in
    performed (λ step. At (nat_lt n (length w.states)) n 0 (IsOf event) step) w a result new (is.is_step (length w.states) w)
    (makes 0 (rw is.quiet tt) (rw is.quiet tt))

pub faults_named : {E : Type 0} (a : Act) (n : ℕ) (event : Event) (was now new : WorldView) (result : Result ActReport E) → was ≡ now
    → event_at a ≡ Some (n, event)
    → IfOk result (λ (d : ActReport). FaultsAt as_before (node_or_first (length was.nodes) n) was new d.outcome)
    → IfOk result (λ (d : ActReport). FaultsAt (armed_by a) (node_named (length now.nodes) now.net.sent a) now new d.outcome)
faults_named a n event was now new result viewed is faults =
    rw (← viewed, (taken_as a n event is).named (length was.nodes) was.net.sent, (taken_as a n event is).arms) faults

pub untouched_named : {E : Type 0} (a : Act) (n : ℕ) (event : Event) (was now new : WorldView) (result : Result ActReport E) → was ≡ now
    → event_at a ≡ Some (n, event)
    → OnErr result (IsUntouched (node_or_first (length was.nodes) n) was new)
    → OnErr result (IsUntouched (node_named (length now.nodes) now.net.sent a) now new)
untouched_named a n event was now new result viewed is same =
    rw (← viewed, (taken_as a n event is).named (length was.nodes) was.net.sent) same

-- ---- the network's acts

pub delivered : {E : Type 0} (w : World) (k : ℕ) (m : Envelope) (result : Result ActReport E) (new : WorldView) → delivery w.net k ≡ Ok m
    → (IsBrought w k (brought (Some (on.Deliver m))) → AreAddressed m.receiver (brought (Some (on.Deliver m)))
    → IfOk result (λ (d : ActReport). Makes (act.Deliver k) (λ step.
    At (nat_lt m.receiver (length w.states)) m.receiver k (IsOf (on.Deliver m)) step) w d new))
    → IfOk result (λ (d : ActReport). Performed w (act.Deliver k) d new)
delivered w k m result new comes makes = performed (λ step.
    At (nat_lt m.receiver (length w.states)) m.receiver k (IsOf (on.Deliver m)) step) w (act.Deliver k) result new
    (λ step at. rw comes at) (makes (comes, tt) (refl, tt))

no_err : {A E : Type 0} (r : Result A E) → ((e : E) → r ≡ Err e → ⊥) → (a : A) × (r ≡ Ok a)
no_err (Ok a) none = (a, refl)
no_err (Err e) none = absurd (none e refl)

-- nothing is done, for this reason
pub denied : (w : World) (a : Act) (n : ℕ) (why : ActRefusal) (Q : Step → Type 0) (view : WorldView) → StandsFor view w → Q (Denies n why)
    → Makes a Q w (bare (outcome.Refused why)) view
denied w a n why Q view stands is = record {
  step = Denies n why;
  is = is;
  allowed = tt;
  of_slots = tt;
  outcome_is = refl;
  shows = tt;
  reports = (refl, refl, refl);
  stands = stands;
}

pub denies : (w : World) (a : Act) (n : ℕ) (why : ActRefusal) (view : WorldView) → StandsFor view w
    → IsStepOf (length w.states) w a (Denies n why) → Performed w a (bare (outcome.Refused why)) view
denies w a n why view stands of = performed {E = ℕ} (IsStepOf (length w.states) w a) w a (Ok _) view (λ step at. at)
    (denied w a n why _ view stands of)

-- the nodes stay, nothing is sent, and the network is what the step makes of it
wired : (w : World) (a : Act) (view now : WorldView) (net net' : Network) (o : Outcome) → view ≡ now → StandsFor now w
    → net.sent ≡ view.net.sent → o ≡ outcome.Done None (length net.sent) 0
    → (StandsFor view w → IsStepOf (length w.states) w a (Changes net') × (net ≡ net')) → Performed w a (bare o) (record view { net = net })
wired w a view now net net' o viewed stood same_sent is next =
    let stands = subst (λ (m : WorldView). StandsFor m w) (sym viewed) stood in
    let sent : net.sent ≡ w.net.sent = same_sent ∙ (λ i. (stands.net i).sent) in
    performed {E = ℕ} (IsStepOf (length w.states) w a) w a (Ok _) _ (λ step at. at) (record {
      step = Changes net';
      is = (next stands).0;
      allowed = ap (λ (n : Network). n.sent) (sym (next stands).1) ∙ sent;
      of_slots = tt;
      outcome_is = is ∙ (λ i. outcome.Done None (length (sent i)) 0);
      shows = tt;
      reports = (refl, refl, refl);
      stands = record { count = stands.count; net = (next stands).1; each = stands.each };
    })

pub lost_by : (w : World) (k : ℕ) (view now : WorldView) (net' : Network) (o : Outcome) → view ≡ now → StandsFor now w
    → ((fault : NetFault) → message_at view.net k ≡ Err fault → ⊥)
    → net' ≡ after_lost view.net k → o ≡ outcome.Done None (length net'.sent) 0
    → Performed w (act.Lose k) (bare o) (record view { net = net' })
lost_by w k view now net' o viewed stands none same is =
    wired w (act.Lose k) view now net' (after_lost w.net k) o viewed stands (ap (λ (n : Network). n.sent) same) is (λ before.
    (let there = no_err (message_at view.net k) none in
    let at : message_at w.net k ≡ Ok there.0 = ap (λ (n : Network). message_at n k) (sym before.net) ∙ there.1 in
    (rw at refl, same ∙ ap (λ (n : Network). after_lost n k) before.net)))

pub not_lost_by : (w : World) (k : ℕ) (fault : NetFault) (view now : WorldView) (net' : Network) (o : Outcome) → view ≡ now
    → StandsFor now w → message_at view.net k ≡ Err fault
    → net' ≡ view.net → o ≡ outcome.Refused (refusal.Net fault) → Performed w (act.Lose k) (bare o) (record view { net = net' })
not_lost_by w k fault view now net' o viewed stood at same is =
    let stands = subst (λ (m : WorldView). StandsFor m w) (sym viewed) stood in
    let there : message_at w.net k ≡ Err fault = ap (λ (n : Network). message_at n k) (sym stands.net) ∙ at in
    rw (same, is) (denies w (act.Lose k) 0 (refusal.Net fault) view stands (rw there refl))

-- whether both nodes are known
pub known_step : (w : World) (a b : ℕ) (view : WorldView) (net : Network) (known : Bool) → StandsFor view w
    → (nat_lt a (length view.nodes) && nat_lt b (length view.nodes)) ≡ known
    → (if known then Changes net else Denies 0 refusal.Stranger)
    ≡ (if nat_lt a (length w.states) && nat_lt b (length w.states) then Changes net else Denies 0 refusal.Stranger)
known_step w a b view net known stands is =
    sym (ap (λ (x : Bool). if x then Changes net else Denies 0 refusal.Stranger)
    (ap (λ (c : ℕ). nat_lt a c && nat_lt b c) (sym stands.count) ∙ is))

pub is_link : (joined : Bool) (nodes : ℕ) (w : World) (a b : ℕ) (step : Step)
    → step ≡ (if nat_lt a nodes && nat_lt b nodes then Changes (linked joined w.net a b) else Denies 0 refusal.Stranger)
    → IsStepOf nodes w (link_act joined a b) step
is_link true nodes w a b step is = is
is_link false nodes w a b step is = is

pub linked_by : (w : World) (joined : Bool) (a b : ℕ) (view now : WorldView) (net' : Network) (o : Outcome)
    → view ≡ now → StandsFor now w → (nat_lt a (length now.nodes) && nat_lt b (length now.nodes)) ≡ true → net' ≡ linked joined view.net a b
    → o ≡ outcome.Done None (length net'.sent) 0 → Performed w (link_act joined a b) (bare o) (record view { net = net' })
linked_by w joined a b view now net' o viewed stands known same is =
    wired w (link_act joined a b) view now net' (linked joined w.net a b) o viewed stands (ap (λ (n : Network). n.sent) same) is
    (λ before. (
      is_link joined _ w a b _ (known_step w a b now (linked joined w.net a b) true stands known),
      same ∙ ap (λ (n : Network). linked joined n a b) before.net,
    ))

-- ---- an act of the operator

-- an act of the operator at node n is what comes there, brings no message, and does what it does to that node, if there is one
pub record OperatesAt (a : Act) (n : ℕ) : Type 0 where
  pub is_step : (nodes : ℕ) (w : World) (step : Step) → At (nat_lt n nodes) n 0 (OperatedAs a (node_in w.states n)) step
      → IsStepOf nodes w a step
  pub brings : (s : NodeState) (what : HistoryEvent) → OperatedAs a s what → brought (event_of what) ≡ []
  pub named : (nodes : ℕ) (sent : List Envelope) → node_named nodes sent a ≡ node_or_first nodes n
  pub there : (old new : WorldView) (was now : Node Memory) (o : Outcome) → slice_get old.nodes n ≡ Some was
      → slice_get new.nodes n ≡ Some now → OperatesNode a was now o → Operates a old new o
  pub nowhere : (view : WorldView) (o : Outcome) → length view.nodes ≤ n → Operates a view view o

compaction_brings : (s : NodeState) (what : HistoryEvent) → IsCompaction s what → brought (event_of what) ≡ []
compaction_brings s (NoOp rest) is = refl
compaction_brings s Crashed is = refl
compaction_brings s _ is = absurd is

operates_at : (a : Act) → IfSome (operated_at a) (OperatesAt a)
operates_at (act.Arm n calls) = record {
  is_step = λ nodes w step at. at;
  brings = λ s what is. ap (λ (x : HistoryEvent). brought (event_of x)) is;
  named = λ nodes sent. refl;
  there = λ old new was now o at_was at_now is. ap disk_of at_now ∙ is
      ∙ ap (λ (x : Option (Node Memory)). armed_disk calls (disk_of x)) (sym at_was);
  nowhere = λ view o past. rw (slice_get_past view.nodes n past) refl;
}
operates_at (act.Crash n fill) = record {
  is_step = λ nodes w step at. at;
  brings = λ s what is. ap (λ (x : HistoryEvent). brought (event_of x)) is;
  named = λ nodes sent. refl;
  there = λ old new was now o at_was at_now is x y at_x at_y. is x y (ap disk_of (sym at_was) ∙ at_x) (ap disk_of (sym at_now) ∙ at_y);
  nowhere = λ view o past x y at_x at_y. absurd (let none : None ≡ Some x = ap disk_of (sym (slice_get_past view.nodes n past)) ∙ at_x in
      cc);
}
operates_at (act.Compact n) = record {
  is_step = λ nodes w step at. at;
  brings = compaction_brings;
  named = λ nodes sent. refl;
  there = λ old new was now o at_was at_now is x y at_x at_y.
      subst (λ (z : Node Memory). IsCompacted z y o) (is_some was x (sym at_was ∙ at_x))
      (subst (λ (z : Node Memory). IsCompacted was z o) (is_some now y (sym at_now ∙ at_y)) is);
  nowhere = λ view o past x y at_x at_y. absurd (let none : None ≡ Some x = sym (slice_get_past view.nodes n past) ∙ at_x in cc);
}
operates_at _ = tt

pub operates : (a : Act) (n : ℕ) → operated_at a ≡ Some n → OperatesAt a n
operates a n at = subst (λ (x : Option ℕ). IfSome x (OperatesAt a)) at (operates_at a)

pub quietly : (w : World) (n : ℕ) (ms : List Envelope) → ms ≡ [] → IsBrought w 0 ms × AreAddressed n ms
quietly w n ms none = rw none (tt, tt)
