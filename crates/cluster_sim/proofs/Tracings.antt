-- What was told of an act that came to a node is what came of it, and the trace so far goes on by it.
use Rattle.std.proofs.Common.{◌≡◌, ◌≢◌, ℕ, Bool, true, false, [], ◌∷◌, slice_get, Option, Some, None, Result, Ok, Err, refl, sym, subst}
use Rattle.std.proofs.Common.{ne_eqb, eq-eqb, arith, ◌∙◌, ◌≤◌, zero, suc, ◌+◌, List, ◌++◌, map, length, slice_set, drop, replicate, ap}
use Rattle.std.proofs.Common.{append_assoc}
use Rattle.std.specs.Prelude.{nat_lt, if◌then◌else◌, option_and_then, OnOk}
use Rattle.std.proofs.lemmas.List.{append-nil, drop_all, drop_more, map-append, replicate-append-replicate, length-map}
use Rattle.std.proofs.lemmas.Option.{get_or_from_slice_get, slice_get_within}
use Rattle.std.proofs.Math.Seq.{drop-append_seam}
use Rattle.wire_msg.specs.Envelope.{Envelope}
use Rattle.histories.specs.declared.history_event.HistoryEvent.{HistoryEvent}
use Rattle.schedule.specs.declared.act.Act.{Act}
use Rattle.sim_net.specs.declared.fault.NetFault.{NetFault}
use Rattle.sim_net.specs.Network.{delivery, Network}
use Rattle.runs.specs.World.{World, node_in, start}
use Rattle.runs.specs.Step.{Step, Takes, world_after}
use Rattle.runs.specs.Run.{entry_at, history_in, histories_from, world_at, histories_of}
use Rattle.runs.specs.Acts.{At, IsCompaction, IsStepOf, what_outcome, act_outcome}
use Rattle.cluster_sim.specs.declared.bringing.Brought.{Brought}
use Rattle.cluster_sim.specs.declared.bringing.Brought.TheVariants.{Event, Arming, Crash, Compaction}
use Rattle.cluster_sim.specs.Bringing.{delivered, brought_by, number_of, CameOf}
use Rattle.histories.specs.NodeState.{NodeState}
use Rattle.histories.specs.declared.history_event.HistoryEvent.TheVariants.{Did, Faulted, NoOp, Crashed}
use Rattle.histories.specs.declared.history_event.NoOpKind.TheVariants as resting
use Rattle.histories.specs.HistoryEvent.{event_of, Entry}
use Rattle.histories.specs.After.{sent_at}
use Rattle.cluster_sim.specs.Actions.{ActedAs, action_by, IsNoted, IsStepped}
use Rattle.cluster_sim.specs.Traced.{AreActed, AreTurns, action_of, claim_of, trace_in, nodes_in, messages_in, message_if}
use Rattle.cluster_sim.specs.Traced.{IsNext as IsNextTurn, IsRecordOf, IsSoFar, HasWorld}
use Rattle.runs.specs.Growth.{IsNext}
use Rattle.trace_check.specs.declared.order.Order.{Order}
use Rattle.trace_check.specs.declared.trace.TraceAction.{TraceAction}
use Rattle.trace_check.specs.Claims.{Claim, brought_by as action_brought}
use Rattle.runs.proofs.PublicLaws.{Brings, acts_go_on, step_length, length_openings, at_place, how_many}
use Rattle.runs.specs.declared.outcome.Outcome.{Outcome}
use Rattle.durable_node.proofs.PublicLaws.{is_some}
use Rattle.cluster_sim.specs.Acting.{IsActed}
use Rattle.cluster_sim.specs.Names.{node_named}
use Rattle.cluster_sim.specs.Operated.{Operates}
use Rattle.cluster_sim.specs.World.{AreUnarmed, FaultsAt, ReportsAction, WorldView, StandsFor, armed_by, fate_in}
use Rattle.cluster_sim.specs.declared.act_report.ActReport.{ActReport as Told}
use Rattle.histories.specs.declared.event_outcome.EventOutcome.{EventOutcome}
use Rattle.node_core.specs.declared.event.Event.{Event as CoreEvent}
use Rattle.trace_check.specs.Traces.{claim}
use Rattle.node_core.specs.declared.event.Event.TheVariants as on
use Rattle.schedule.specs.declared.act.Act.TheVariants as act

-- an act that brings such a thing
abbrev pub bringing : Brought → Act
bringing Compaction = act.Compact 0
bringing b = act.Recover 0

-- what came has one outcome of any compaction, and alike of all other acts
compaction_same : (self nodes first : ℕ) (s : NodeState) (n m : ℕ) (what : HistoryEvent)
    → what_outcome self nodes first s what (act.Compact n) ≡ what_outcome self nodes first s what (act.Compact m)
compaction_same self nodes first s n m (NoOp resting.Nothing) = refl
compaction_same self nodes first s n m _ = refl

other_same : (self nodes first : ℕ) (s : NodeState) (a : Act) (what : HistoryEvent) → ((n : ℕ) → a ≡ act.Compact n → ⊥)
    → what_outcome self nodes first s what a ≡ what_outcome self nodes first s what (act.Recover 0)
other_same self nodes first s (act.Compact n) Crashed none = absurd (none n refl)
other_same self nodes first s _ Crashed none = refl
other_same self nodes first s a (NoOp resting.Nothing) none = refl
other_same self nodes first s a _ none = refl

-- the step is one of this node, in this state, to which this was brought
pub record IsStepAt (now : NodeState) (a : Act) (n : ℕ) (b : Brought) (step : Step) : Type 0 where
  pub number : ℕ
  pub numbered : number ≡ number_of a
  pub what : HistoryEvent
  pub is : step ≡ Takes n number what
  pub came : CameOf now b what
  pub same_outcome : (self nodes first : ℕ) (s : NodeState)
      → what_outcome self nodes first s what a ≡ what_outcome self nodes first s what (bringing b)

-- what comes to a node, if it is one of the cluster
abbrev if_there : Bool → ℕ × Brought → Option (ℕ × Brought)
if_there t comes = if t then Some comes else None

comes_at : (now : ℕ → NodeState) (a : Act) (t : Bool) (m number : ℕ) (b : Brought) (n : ℕ) (c : Brought) (step : Step)
    → number ≡ number_of a → ((what : HistoryEvent) (self nodes first : ℕ) (s : NodeState)
    → what_outcome self nodes first s what a ≡ what_outcome self nodes first s what (bringing b))
    → if_there t (m, b) ≡ Some (n, c) → At t m number (CameOf (now m) b) step → IsStepAt (now n) a n c step
comes_at now a true m number b n c step numbered same_outcome is at =
    let x : ℕ × Brought = (m, b) in
    let y : ℕ × Brought = (n, c) in
    let same : x ≡ y = is_some x y is in
    subst (λ (p : ℕ × Brought). IsStepAt (now p.0) a p.0 p.1 step) same
    (record { number = number; numbered = numbered; what = at.0; is = at.1; came = at.2; same_outcome = same_outcome at.0 })
comes_at now a false m number b n c step numbered same_outcome is at = absurd cc

delivers_at : (now : ℕ → NodeState) (nodes : ℕ) (net : Network) (k : ℕ) (r : Result Envelope NetFault) (n : ℕ) (c : Brought) (step : Step)
    → option_and_then (λ (comes : ℕ × Brought). if nat_lt comes.0 nodes then Some comes else None) (delivered r) ≡ Some (n, c)
    → Brings nodes net k r step → IsStepAt (now n) (act.Deliver k) n c step
delivers_at now nodes net k (Ok m) n c step is brings = comes_at now (act.Deliver k)
    (nat_lt m.receiver nodes) m.receiver k (Event (on.Deliver m)) n c step refl (λ what self size first s.
    other_same self size first s _ what (λ k e. cc)) is brings
delivers_at now nodes net k (Err why) n c step is brings = absurd cc

pub step_at : (nodes : ℕ) (w : World) (a : Act) (n : ℕ) (b : Brought) (step : Step) → brought_by nodes w.net a ≡ Some (n, b)
    → IsStepOf nodes w a step → IsStepAt (node_in w.states n) a n b step
step_at nodes w (act.Deliver k) n b step is of = delivers_at (node_in w.states) nodes w.net k (delivery w.net k) n b step is of
step_at nodes w (act.Lose k) n b step is of = absurd cc
step_at nodes w (act.Cut x y) n b step is of = absurd cc
step_at nodes w (act.Mend x y) n b step is of = absurd cc
step_at nodes w (act.Compact m) n b step is of = comes_at (node_in w.states) (act.Compact m) (nat_lt m nodes) m 0 Compaction n b step refl
    (λ what self size first s. compaction_same self size first s m 0 what) is of
step_at nodes w _ n b step is of = comes_at (node_in w.states) _ _ _ 0 _ n b step refl
    (λ what self size first s. other_same self size first s _ what (λ k e. cc)) is of

-- ---- an act that comes to no node adds no entry

abbrev pub IsQuiet : ℕ → World → Step → Type 0
IsQuiet nodes w step = (k : ℕ) → entry_at k nodes w step ≡ []

pub none_comes : (nodes : ℕ) (w : World) (a : Act) (step : Step) → brought_by nodes w.net a ≡ None → IsStepOf nodes w a step
    → IsQuiet nodes w step
none_comes nodes w a step none of k = grind arith

-- ---- one that does adds its entry to the history of its node, and to no other

pub entry_here : (n nodes : ℕ) (w : World) (number : ℕ) (what : HistoryEvent)
    → entry_at n nodes w (Takes n number what) ≡ record { what = what; sent = sent_at n nodes (node_in w.states n) what } ∷ []
entry_here n nodes w number what = rw (eq-eqb n n refl) refl

pub entry_elsewhere : (n m nodes : ℕ) (w : World) (number : ℕ) (what : HistoryEvent) → m ≢ n → entry_at m nodes w (Takes n number what) ≡ []
entry_elsewhere n m nodes w number what other = rw (ne_eqb n m (λ is. other (sym is))) refl

-- what was told stands in the trace as what came
told_event : (event : CoreEvent) (what : HistoryEvent) (f : Option EventOutcome) (o : Outcome) → event_of what ≡ Some event
    → f ≡ fate_in what → action_of what ≡ action_by f (Event event) o
told_event event (Did e) f o of is = rw (is, is_some e event of) refl
told_event event (Faulted e) f o of is = rw (is, is_some e event of) refl
told_event event (NoOp rest) f o of is = absurd cc
told_event event Crashed f o of is = absurd cc
told_event event _ f o of is = rw is refl

told_compaction : (what : HistoryEvent) (f : Option EventOutcome) (self nodes first : ℕ) (s now : NodeState) → IsCompaction now what
    → f ≡ fate_in what → action_of what ≡ action_by f Compaction (what_outcome self nodes first s what (act.Compact 0))
told_compaction (NoOp resting.Nothing) f self nodes first s now came is = rw is refl
told_compaction (NoOp _) f self nodes first s now came is = rw is refl
told_compaction Crashed f self nodes first s now came is = rw is refl
told_compaction what f self nodes first s now came is = absurd came

told_so : (b : Brought) (what : HistoryEvent) (f : Option EventOutcome) (o : Outcome) (self nodes first : ℕ) (s : NodeState)
    → CameOf s b what → f ≡ fate_in what → o ≡ what_outcome self nodes first s what (bringing b) → action_of what ≡ action_by f b o
told_so (Event event) what f o self nodes first s came is ended = told_event event what f o came is
told_so Arming what f o self nodes first s came is ended = rw (is, came) refl
told_so Crash what f o self nodes first s came is ended = rw (is, came) refl
told_so Compaction what f o self nodes first s came is ended = rw ended (told_compaction what f self nodes first s s came is)

world_goes_on : (nodes : ℕ) (steps : List Step) (step : Step) (w : World)
    → world_at nodes w (steps ++ step ∷ []) ≡ world_after nodes (world_at nodes w steps) step
world_goes_on nodes [] step w = refl
world_goes_on nodes (x ∷ steps) step w = world_goes_on nodes steps step (world_after nodes w x)

history_goes_on : (n nodes : ℕ) (steps : List Step) (step : Step) (w : World)
    → history_in n nodes w (steps ++ step ∷ []) ≡ history_in n nodes w steps ++ entry_at n nodes (world_at nodes w steps) step
history_goes_on n nodes [] step w = append-nil (entry_at n nodes w step)
history_goes_on n nodes (x ∷ steps) step w =
    ap (λ (es : List Entry). entry_at n nodes w x ++ es) (history_goes_on n nodes steps step (world_after nodes w x))
    ∙ sym (append_assoc (entry_at n nodes w x) (history_in n nodes (world_after nodes w x) steps)
    (entry_at n nodes (world_at nodes (world_after nodes w x) steps) step))

-- ---- histories to which the step adds nothing, and one to which it adds an entry

history_stays : (n nodes : ℕ) (steps : List Step) (step : Step) (w : World) → entry_at n nodes (world_at nodes w steps) step ≡ []
    → history_in n nodes w (steps ++ step ∷ []) ≡ history_in n nodes w steps
history_stays n nodes steps step w none =
    history_goes_on n nodes steps step w ∙ ap (λ (es : List Entry). history_in n nodes w steps ++ es) none
    ∙ append-nil (history_in n nodes w steps)

histories_stay : (i k nodes : ℕ) (steps : List Step) (step : Step)
    → ((m : ℕ) → i ≤ m → entry_at m nodes (world_at nodes (start nodes) steps) step ≡ [])
    → histories_from i k nodes (steps ++ step ∷ []) ≡ histories_from i k nodes steps
histories_stay i zero nodes steps step none = refl
histories_stay i (suc k) nodes steps step none =
    let first = history_stays i nodes steps step (start nodes) (none i (omega arith)) in
    let rest = histories_stay (i + 1) k nodes steps step (λ m more. none m (omega (arith, more))) in cc

histories_grow : (i k j n nodes : ℕ) (steps : List Step) (step : Step) (e : Entry) (h : List Claim) → n ≡ i + j
    → ((m : ℕ) → m ≢ n → entry_at m nodes (world_at nodes (start nodes) steps) step ≡ [])
    → entry_at n nodes (world_at nodes (start nodes) steps) step ≡ e ∷ []
    → slice_get (trace_in (histories_from i k nodes steps)) j ≡ Some h
    → trace_in (histories_from i k nodes (steps ++ step ∷ []))
    ≡ slice_set (trace_in (histories_from i k nodes steps)) j (h ++ claim_of e ∷ [])
histories_grow i zero j n nodes steps step e h place none here there = absurd cc
histories_grow i (suc k) zero n nodes steps step e h place none here there =
    let same : i ≡ n = omega (arith, place) in
    let grown = ap (map claim_of) (history_goes_on i nodes steps step (start nodes)
    ∙ ap (λ (es : List Entry). history_in i nodes (start nodes) steps ++ es)
    (ap (λ (m : ℕ). entry_at m nodes (world_at nodes (start nodes) steps) step) same ∙ here)) in
    let first = grown ∙ map-append claim_of (history_in i nodes (start nodes) steps) (e ∷ []) in
    let rest = histories_stay (i + 1) k nodes steps step (λ m more. none m (λ at. omega (arith, more, at, same))) in cc
histories_grow i (suc k) (suc j) n nodes steps step e h place none here there =
    let first = history_stays i nodes steps step (start nodes) (none i (λ at. omega (arith, place, at))) in
    let rest = histories_grow (i + 1) k j n nodes steps step e h (omega (arith, place)) none here there in cc

-- ---- lists that are made one after another

begun : (i k nodes : ℕ) → trace_in (histories_from i k nodes []) ≡ replicate k []
begun i zero nodes = refl
begun i (suc k) nodes = ap (λ (hs : List (List Claim)). [] ∷ hs) (begun (i + 1) k nodes)

pub one_more : (hs : List (List Claim)) (n : ℕ) (h : List Claim) → hs ≡ replicate n [] → h ≡ [] → hs ++ h ∷ [] ≡ replicate (n + 1) []
one_more hs n h is none = rw (is, none) (replicate-append-replicate n 1 [])

pub sent_more : (out xs : List Envelope) (i : ℕ) (x : Envelope) → slice_get xs i ≡ Some x
    → (out ++ x ∷ []) ++ drop (i + 1) xs ≡ out ++ drop i xs
sent_more out xs i x is = let more = drop_more xs i x (slice_get_within xs i x is) in let got = get_or_from_slice_get xs i x x is in
    let joined = append_assoc out (x ∷ []) (drop (i + 1) xs) in cc

pub sent_all : (out xs all : List Envelope) (i : ℕ) → length xs ≤ i → out ++ drop i xs ≡ all → out ≡ all
sent_all out xs all i past is = let none = drop_all i xs past in let alone = append-nil out in cc

-- ---- the trace

acted_on : (nodes : ℕ) (acts : List Act) (steps : List Step) (view : WorldView) (w : World) (a : Act) (step : Step) (end new : WorldView)
    → AreActed nodes view w acts steps end → IsActed nodes end new (world_at nodes w steps) a step
    → AreActed nodes view w (acts ++ a ∷ []) (steps ++ step ∷ []) new
acted_on nodes [] [] view w a step end new acted one = (new, subst (λ (v : WorldView). IsActed nodes v new w a step) acted one, refl)
acted_on nodes [] (x ∷ steps) view w a step end new acted one = absurd acted
acted_on nodes (b ∷ acts) [] view w a step end new acted one = absurd acted
acted_on nodes (b ∷ acts) (x ∷ steps) view w a step end new acted one =
    (acted.0, acted.1, acted_on nodes acts steps acted.0 (world_after nodes w x) a step end new acted.2 one)

nodes_go_on : (steps : List Step) (step : Step) → nodes_in (steps ++ step ∷ []) ≡ nodes_in steps ++ nodes_in (step ∷ [])
nodes_go_on [] step = refl
nodes_go_on (Takes n number what ∷ steps) step = ap (λ (ns : List ℕ). n ∷ ns) (nodes_go_on steps step)
nodes_go_on (_ ∷ steps) step = nodes_go_on steps step

messages_go_on : (steps : List Step) (step : Step) → messages_in (steps ++ step ∷ []) ≡ messages_in steps ++ messages_in (step ∷ [])
messages_go_on [] step = refl
messages_go_on (Takes n number what ∷ steps) step = ap (λ (ms : List (Option ℕ)). message_if (action_brought (action_of what)) number ∷ ms)
    (messages_go_on steps step)
messages_go_on (_ ∷ steps) step = messages_go_on steps step

-- the order has the turn of this step, if it is one
pub record IsTurned (step : Step) (old new : Order) : Type 0 where
  pub nodes : new.nodes.items ≡ old.nodes.items ++ nodes_in (step ∷ [])
  pub messages : new.messages.items ≡ old.messages.items ++ messages_in (step ∷ [])

turns_go_on : (steps : List Step) (step : Step) (old new : Order) → AreTurns steps old → IsTurned step old new
    → AreTurns (steps ++ step ∷ []) new
turns_go_on steps step old new are turned = record {
  nodes = turned.nodes ∙ ap (λ (ns : List ℕ). ns ++ nodes_in (step ∷ [])) are.nodes ∙ sym (nodes_go_on steps step);
  messages = turned.messages ∙ ap (λ (ms : List (Option ℕ)). ms ++ messages_in (step ∷ [])) are.messages ∙ sym (messages_go_on steps step);
}

-- the run so far goes on by this step, and the trace has it
goes_on : (nodes slots : ℕ) (before : List Act) (a : Act) (old new : WorldView) (trace trace' : List (List Claim)) (order order' : Order)
    (so : IsSoFar nodes slots old before trace order) (step : Step)
    → IsTurned step order order' → new.slots ≡ old.slots
    → let w = world_at nodes (start nodes) so.run.steps in IsNext (length w.states) new.slots w a step
    → trace' ≡ trace_in (histories_of nodes (so.run.steps ++ step ∷ []))
    → IsActed (length w.states) old new w a step → IsSoFar nodes slots new (before ++ a ∷ []) trace' order'
goes_on nodes slots before a old new trace trace' order order' so step turned same next of_histories acted =
    let w = world_at nodes (start nodes) so.run.steps in
    let next_there : IsNext nodes slots w a step = subst (λ (k : ℕ). IsNext nodes k w a step) (same ∙ so.slots_are)
    (subst (λ (k : ℕ). IsNext k new.slots w a step) so.count next) in
    let acted_there : IsActed nodes old new w a step = subst (λ (k : ℕ). IsActed k old new w a step) so.count acted in
    let world : world_at nodes (start nodes) (so.run.steps ++ step ∷ []) ≡ world_after nodes w step =
    world_goes_on nodes so.run.steps step (start nodes) in
    record {
      run = record {
        steps = so.run.steps ++ step ∷ [];
        is_run = acts_go_on nodes slots before so.run.steps (start nodes) a step so.run.is_run next_there;
        of_histories = of_histories;
        first = so.run.first;
        last = new;
        opened = so.run.opened;
        unarmed = so.run.unarmed;
        acted = acted_on nodes before so.run.steps so.run.first (start nodes) a step so.run.last new so.run.acted
            (subst (λ (v : WorldView). IsActed nodes v new w a step) (sym so.last_is) acted_there);
      };
      turns = turns_go_on so.run.steps step order order' so.turns turned;
      last_is = refl;
      slots_are = same ∙ so.slots_are;
      count = ap (λ (x : World). length x.states) world ∙ step_length nodes w step ∙ so.count;
      stands = subst (λ (x : World). StandsFor new x) (sym world) acted_there.stands;
    }

-- an act that comes to a node: its entry is what came of it
pub traced : (nodes slots : ℕ) (before : List Act) (a : Act) (n : ℕ) (b : Brought) (d : TraceAction) (old new : WorldView) (place : ℕ)
    (sent : List Envelope) (trace trace' : List (List Claim)) (order order' : Order)
    → IsSoFar nodes slots old before trace order → new.slots ≡ old.slots → ((w : World) → StandsFor old w → ActedAs old w a b d new)
    → brought_by (length old.nodes) old.net a ≡ Some (n, b)
    → place ≡ length old.net.sent → sent ≡ drop place new.net.sent
    → IsNoted n (claim d sent) trace trace' → IsNextTurn n (message_if (action_brought d) (number_of a)) order order'
    → IsSoFar nodes slots new (before ++ a ∷ []) trace' order'
traced nodes slots before a n b d old new place sent trace trace' order order' so same acts brings place_is sent_is noted next_turn =
    let w = world_at nodes (start nodes) so.run.steps in
    let size = length w.states in
    let did = acts w so.stands in
    let told : Told = did.0 in
    let acted = did.1.acted in
    let brings_w : brought_by size w.net a ≡ Some (n, b) = ap (λ (k : ℕ). brought_by k w.net a) (sym so.stands.count)
    ∙ ap (λ (net : Network). brought_by (length old.nodes) net a) (sym so.stands.net) ∙ brings in
    let at = step_at size w a n b acted.step brings_w acted.next.of_act in
    let step = Takes n at.number at.what in
    let next : IsNext size new.slots w a step = subst (λ (x : Step). IsNext size new.slots w a x) at.is acted.next in
    let s = next.allowed.0 in
    let there : slice_get w.states n ≡ Some s = next.allowed.1 in
    let told_of = (subst (λ (x : Step). ReportsAction w x told) at.is did.1.reports) s there in
    let outcome_is : told.outcome ≡ act_outcome size w a step = acted.outcome_is ∙ ap (λ (x : Step). act_outcome size w a x) at.is in
    let action_is : action_of at.what ≡ d =
    told_so b at.what told.event_outcome told.outcome n size (length w.net.sent)
    (node_in w.states n) at.came told_of.event_outcome (outcome_is ∙ at.same_outcome n size (length w.net.sent) (node_in w.states n))
    ∙ sym did.2 in
    let stands : StandsFor new (world_after size w step) = subst (λ (x : Step). StandsFor new (world_after size w x)) at.is acted.stands in
    let sent_are : sent_at n size (node_in w.states n) at.what ≡ sent =
    sym (drop-append_seam w.net.sent (sent_at n size (node_in w.states n) at.what))
    ∙ ap (λ (net : Network). drop (length w.net.sent) net.sent) (sym stands.net)
    ∙ ap (λ (net : Network). drop (length net.sent) new.net.sent) (sym so.stands.net) ∙ ap (λ (k : ℕ). drop k new.net.sent) (sym place_is)
    ∙ sym sent_is in
    let entry : Entry = record { what = at.what; sent = sent_at n nodes (node_in w.states n) at.what } in
    let sent_there : entry.sent ≡ sent = subst (λ (k : ℕ). sent_at n k (node_in w.states n) at.what ≡ sent) so.count sent_are in
    let claim_is : claim_of entry ≡ claim d sent = λ i. record { action = action_is i; sent = sent_there i } in
    let hs = trace_in (histories_of nodes so.run.steps) in
    let many = length-map (histories_of nodes so.run.steps) (λ (h : List Entry). map claim_of h) ∙ how_many nodes 0 nodes so.run.steps in
    let h = at_place hs n (let within = slice_get_within w.states n s there in let count = so.count in
    omega (arith, within, count, many)) in
    let grown = histories_grow 0 nodes n n nodes so.run.steps step entry h.0 (omega arith)
    (λ m other. entry_elsewhere n m nodes w at.number at.what other) (entry_here n nodes w at.number at.what) h.1 in
    let of_histories : trace' ≡ trace_in (histories_of nodes (so.run.steps ++ step ∷ [])) =
    noted h.0 (ap (λ (xs : List (List Claim)). slice_get xs n) so.run.of_histories ∙ h.1)
    ∙ ap (λ (xs : List (List Claim)). slice_set xs n (h.0 ++ claim d sent ∷ [])) so.run.of_histories
    ∙ ap (λ (c : Claim). slice_set hs n (h.0 ++ c ∷ [])) (sym claim_is) ∙ sym grown in
    let message : message_if (action_brought d) (number_of a) ≡ message_if (action_brought (action_of at.what)) at.number =
    λ i. message_if (action_brought (sym action_is i)) (sym at.numbered i) in
    let turned : IsTurned step order order' = record {
      nodes = next_turn.nodes;
      messages = next_turn.messages
          ∙ ap (λ (k : Option ℕ). order.messages.items ++ k ∷ []) message;
    } in
    goes_on nodes slots before a old new trace trace' order order' so step turned same next of_histories (record {
      stands = stands;
      operates = subst (λ (o : Outcome). Operates a old new o) outcome_is did.3;
      faults = subst (λ (o : Outcome). FaultsAt (armed_by a) (node_named (length old.nodes) old.net.sent a) old new o) outcome_is did.4;
    })

-- and no turn
quiet_turn : (order : Order) (nodes : ℕ) (w : World) (step : Step) → IsQuiet nodes w step → IsTurned step order order
quiet_turn order nodes w (Takes n number what) quiet = absurd (let here = sym (quiet n) ∙ entry_here n nodes w number what in cc)
quiet_turn order nodes w _ quiet =
    record { nodes = sym (append-nil order.nodes.items); messages = sym (append-nil order.messages.items) }

-- one that comes to no node leaves the trace as it is
pub none_noted : (nodes slots : ℕ) (before : List Act) (a : Act) (old new : WorldView) (trace : List (List Claim)) (order : Order)
    → IsSoFar nodes slots old before trace order
    → new.slots ≡ old.slots → ((w : World) → StandsFor old w → IsStepped old w a new) → brought_by (length old.nodes) old.net a ≡ None
    → IsSoFar nodes slots new (before ++ a ∷ []) trace order
none_noted nodes slots before a old new trace order so same acts none =
    let w = world_at nodes (start nodes) so.run.steps in
    let did = acts w so.stands in
    let acted = did.1.acted in
    let size = length w.states in
    let none_w : brought_by (length w.states) w.net a ≡ None = ap (λ (k : ℕ). brought_by k w.net a) (sym so.stands.count)
    ∙ ap (λ (net : Network). brought_by (length old.nodes) net a) (sym so.stands.net) ∙ none in
    let quiet = subst (λ (k : ℕ). IsQuiet k w acted.step) so.count (none_comes (length w.states) w a acted.step none_w acted.next.of_act) in
    goes_on nodes slots before a old new trace trace order order so acted.step
    (quiet_turn order size w acted.step (none_comes size w a acted.step none_w acted.next.of_act)) same acted.next (so.run.of_histories
    ∙ ap trace_in (sym (histories_stay 0 nodes nodes so.run.steps acted.step (λ m more. quiet m)))) (record {
      stands = acted.stands;
      operates = subst (λ (o : Outcome). Operates a old new o) acted.outcome_is did.2;
      faults = subst (λ (o : Outcome). FaultsAt (armed_by a) (node_named (length old.nodes) old.net.sent a) old new o) acted.outcome_is
          did.3;
    })

pub recorded_so : (nodes slots : ℕ) (view : WorldView) (acts : List Act) (trace : List (List Claim)) (order : Order)
    → IsSoFar nodes slots view acts trace order → IsRecordOf nodes slots acts trace order
recorded_so nodes slots view acts trace order so = record { run = so.run; turns = so.turns }

-- ---- the beginning, and what a cluster stays

pub begins : (nodes slots : ℕ) (view : WorldView) (trace : List (List Claim)) (order : Order) → order.nodes.items ≡ []
    → order.messages.items ≡ [] → view.slots ≡ slots → StandsFor view (start nodes) → AreUnarmed view.nodes → trace ≡ replicate nodes []
    → IsSoFar nodes slots view [] trace order
begins nodes slots view trace order no_node no_message same stands unarmed none =
    record {
      turns = record { nodes = no_node; messages = no_message };
      run =
          record {
            steps = [];
            is_run = tt;
            of_histories = none ∙ sym (begun 0 nodes nodes);
            first = view;
            last = view;
            opened = stands;
            unarmed = unarmed;
            acted = refl;
          };
      last_is = refl;
      slots_are = same;
      count = length_openings 0 nodes;
      stands = stands;
    }

pub on_ok_each : {A E : Type 0} (r : Result A E) (S X : World → Type 0) (P : Type 0) → ((w : World) → S w → OnOk r (X w))
    → (((w : World) → S w → X w) → P) → OnOk r P
on_ok_each (Ok a) S X P h so = so h
on_ok_each (Err e) S X P h so = tt

pub world_stays : (a : Act) (b : Brought) (d : TraceAction) (old new : WorldView) → HasWorld old
    → ((w : World) → StandsFor old w → ActedAs old w a b d new) → HasWorld new
world_stays a b d old new has acts = let acted = (acts has.0 has.1).1.acted in
    (world_after (length has.0.states) has.0 acted.step, acted.stands)
