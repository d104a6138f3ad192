-- A run printed one act further.
use Rattle.std.proofs.Common.{◌≡◌, ◌≢◌, ◌^◌, ℕ, zero, suc, ◌+◌, Bool, List, [], ◌∷◌, ◌++◌, ◌<◌, length, map, drop, Some, codes, decimal}
use Rattle.std.proofs.Common.{slice_get, refl, sym, ap, subst, ◌∙◌, append_assoc, add-one, arith}
use Rattle.std.proofs.lemmas.List.{length-append, map-append, length-map}
use Rattle.std.proofs.Math.Seq.{drop-append_seam}
use Rattle.wire_msg.specs.Envelope.{Envelope}
use Rattle.sim_net.specs.Network.{Network}
use Rattle.sector_disk.specs.Memory.{Memory, state_of}
use Rattle.durable_node.specs.Node.{Node, Stands}
use Rattle.histories.specs.NodeState.{NodeState}
use Rattle.schedule.specs.declared.act.Act.{Act}
use Rattle.runs.specs.declared.outcome.Outcome.{Outcome}
use Rattle.runs.specs.declared.outcome.Outcome.TheVariants as outcome
use Rattle.runs.specs.declared.outcome.Outcome.TheVariants.{Done}
use Rattle.runs.specs.World.{World, start}
use Rattle.node_core.specs.declared.fault.Refusal.TheVariants.{AreaExhausted}
use Rattle.runs.specs.declared.outcome.Outcome.TheVariants.{Refused}
use Rattle.runs.specs.declared.outcome.ActRefusal.TheVariants.{Node as OfNode}
use Rattle.runs.proofs.PublicLaws.{IsSaid, step_adds, step_length, step_said, length_openings}
use Rattle.runs.specs.Step.{Step, step_sent, world_after}
use Rattle.runs.specs.Acts.{act_outcome}
use Rattle.runs.specs.Run.{IsAllowed}
use Rattle.runs.specs.Reporting.{Moment, grown, moment_of, report_of}
use Rattle.runs.specs.Growth.{IsNext, RunsGrow, RunsOpen}
use Rattle.cluster_sim.specs.Names.{node_named}
use Rattle.cluster_sim.specs.Operated.{Operates}
use Rattle.cluster_sim.specs.World.{AreasRise, AreasWithin, AreUnarmed, FaultsAt, WorldView, Acted, StandsFor, armed_by}
use Rattle.invite_console.specs.declared.details.Details.{Details}
use Rattle.invite_console.specs.Acts.{act_line, answer_text, moment_line, sent_text}
use Rattle.invite_console.specs.Kept.{act_head}
use Rattle.invite_console.specs.Sim.{AddsNodes, AddsRow, AddsRows, IsSoFar, nothing, one_more, PrintsRun}

-- ---- what was sent

-- the messages in the line of an act, where it was done
abbrev pub messages_part : Bool → Outcome → List Envelope → List ℕ
messages_part names (Done answer first many) sent = sent_text names first sent
messages_part names (outcome.Refused why) sent = []
messages_part names outcome.Faulted sent = []

part_said : (names : Bool) (first : ℕ) (sent : List Envelope) (o : Outcome) → IsSaid first sent o
    → messages_part names o sent ≡ sent_text names first sent
part_said names first sent (Done answer k many) is = ap (λ (o : Outcome). messages_part names o sent) is
part_said names first sent _ is = sym (ap (λ (ms : List Envelope). sent_text names first ms) is)

-- the messages of a step are the last ones
pub last_sent : (nodes : ℕ) (w : World) (step : Step) → IsAllowed nodes w step
    → drop (length w.net.sent) (world_after nodes w step).net.sent ≡ step_sent nodes w step
last_sent nodes w step allowed =
    ap (λ (sent : List Envelope). drop (length w.net.sent) sent) (step_adds nodes w step allowed)
    ∙ drop-append_seam w.net.sent (step_sent nodes w step)

-- ---- one act further

-- the line of the act, as its moment has it
outcome_line : (names : Bool) (nodes k : ℕ) (w : World) (a : Act) (step : Step) (new : WorldView) (outcome : Outcome)
    → IsAllowed nodes w step → outcome ≡ act_outcome nodes w a step → StandsFor new (world_after nodes w step)
    → act_line names k a outcome (drop (length w.net.sent) new.net.sent) ≡ moment_line names k (moment_of nodes w a step)
outcome_line names nodes k w a step new outcome allowed outcome_is stands =
    ap (λ (o : Outcome). act_line names k a o (drop (length w.net.sent) new.net.sent)) outcome_is
    ∙ ap (λ (sent : List Envelope). act_line names k a (act_outcome nodes w a step) sent)
    (ap (λ (net : Network). drop (length w.net.sent) net.sent) stands.net ∙ last_sent nodes w step allowed)

numbered : (acts : List Act) (ms : List Moment) → map (λ (m : Moment). m.act) ms ≡ acts → length acts ≡ length ms
numbered acts ms same = ap length (sym same) ∙ length-map ms (λ (m : Moment). m.act)

-- the line that was added is that of one moment more
line_further : (names : Bool) (nodes : ℕ) (w : World) (ms : List Moment) (old new : WorldView) (acts : List Act) (a : Act)
    (outcome : Outcome) (step : Step) (headed behind : List ℕ)
    → IsAllowed nodes w step → map (λ (m : Moment). m.act) ms ≡ acts → old.net ≡ w.net
    → outcome ≡ act_outcome nodes w a step → StandsFor new (world_after nodes w step)
    → behind ≡ headed ++ act_line names (length acts) a outcome (drop (length old.net.sent) new.net.sent)
    → behind ≡ headed ++ moment_line names (length ms) (moment_of nodes w a step)
line_further names nodes w ms old new acts a outcome step headed behind allowed acts_are net outcome_is stands added =
    added ∙ (ap (λ (net : Network). headed ++ act_line names (length acts) a outcome (drop (length net.sent) new.net.sent)) net
    ∙ (ap (λ (l : List ℕ). headed ++ l) (outcome_line names nodes (length acts) w a step new outcome allowed outcome_is stands)
    ∙ ap (λ (k : ℕ). headed ++ moment_line names k (moment_of nodes w a step)) (numbered acts ms acts_are)))

-- the acts so far, one act further
pub further : RunsGrow → (details : Details) (nodes slots : ℕ) (old new : WorldView) (acts : List Act) (a : Act) (outcome : Outcome)
    (text headed behind : List ℕ)
    → IsSoFar details nodes slots old acts text → ((w : World) → StandsFor old w → Acted w a outcome new) → Operates a old new outcome
    → FaultsAt (armed_by a) (node_named (length old.nodes) old.net.sent a) old new outcome
    → ((w : World) → StandsFor old w → AreasRise old new outcome) → length acts + 3 < 2 ^ 64 → new.slots ≡ old.slots
    → ((w : World) → StandsFor old w → AddsNodes details.nodes w.states text headed)
    → behind ≡ headed ++ act_line details.names (length acts) a outcome (drop (length old.net.sent) new.net.sent)
    → IsSoFar details nodes slots new (acts ++ a ∷ []) behind
further grow details nodes slots old new acts a outcome text headed behind so acted operates faults rises short same rows added =
    let w = so.world in
    let act = acted w so.stands in
    let next : IsNext nodes slots w a act.step =
    subst (λ (n : ℕ). IsNext n slots w a act.step) so.count (subst (λ (k : ℕ). IsNext (length w.states) k w a act.step) (same
    ∙ so.slots_are) act.next) in
    let stands : StandsFor new (world_after nodes w act.step) =
    subst (λ (n : ℕ). StandsFor new (world_after n w act.step)) so.count act.stands in
    let outcome_is : outcome ≡ act_outcome nodes w a act.step = act.outcome_is ∙ ap (λ (n : ℕ). act_outcome n w a act.step) so.count in
    let ms = so.report.moments in
    let risen = rises w so.stands (length ms + 2) so.areas in
    let other : act_outcome nodes w a act.step ≢ Refused (OfNode AreaExhausted) =
    subst (λ (o : Outcome). o ≢ Refused (OfNode AreaExhausted)) outcome_is (risen.1 (omega (arith, short, numbered acts ms so.acts_are))) in
    let grew = grow nodes slots w so.report a act.step so.left next (omega (arith, short, numbered acts ms so.acts_are)) other in
    record {
      world = world_after nodes w act.step;
      report = grown nodes w a act.step so.report;
      left = grew.1;
      count = step_length nodes w act.step ∙ so.count;
      slots_are = same ∙ so.slots_are;
      stands = stands;
      areas = subst (λ (k : ℕ). AreasWithin k new.nodes) (omega (arith, length-append ms (moment_of nodes w a act.step ∷ []))) risen.0;
      acts_are = map-append (λ (m : Moment). m.act) so.report.moments (moment_of nodes w a act.step ∷ [])
          ∙ ap (λ (xs : List Act). xs ++ a ∷ []) so.acts_are;
      printed = one_more old new w so.report a act.step text headed behind so.printed grew.0
          (record {
            stands = stands;
            operates = subst (λ (o : Outcome). Operates a old new o) outcome_is operates;
            faults = subst (λ (o : Outcome). FaultsAt (armed_by a) (node_named (length old.nodes) old.net.sent a) old new o) outcome_is
                faults;
          })
          (rows w so.stands)
          (line_further details.names nodes w so.report.moments old new acts a outcome act.step headed behind next.allowed so.acts_are
          so.stands.net outcome_is stands added);
    }

-- ---- what the line of an act says

said_of : (names : Bool) (old new : WorldView) (w : World) (a : Act) (outcome : Outcome) → StandsFor old w → Acted w a outcome new
    → messages_part names outcome (drop (length old.net.sent) new.net.sent) ≡ sent_text names (length old.net.sent)
    (drop (length old.net.sent) new.net.sent)
said_of names old new w a outcome stands acted =
    let n = length w.states in
    let step = acted.step in
    let sent : drop (length w.net.sent) new.net.sent ≡ step_sent n w step =
    ap (λ (net : Network). drop (length w.net.sent) net.sent) acted.stands.net ∙ last_sent n w step acted.next.allowed in
    subst (λ (k : ℕ). messages_part names outcome (drop k new.net.sent) ≡ sent_text names k (drop k new.net.sent))
    (ap (λ (net : Network). length net.sent) (sym stands.net))
    (subst (λ (ms : List Envelope). messages_part names outcome ms ≡ sent_text names (length w.net.sent) ms) (sym sent)
    (subst (λ (o : Outcome). messages_part names o (step_sent n w step)
    ≡ sent_text names (length w.net.sent) (step_sent n w step)) (sym acted.outcome_is)
    (part_said names _ _ _ (step_said n w a step))))

line_parts : (names : Bool) (number : ℕ) (a : Act) (outcome : Outcome) (sent : List Envelope)
    → act_head number a outcome ++ (messages_part names outcome sent ++ codes "\n") ≡ act_line names number a outcome sent
line_parts names number a (Done answer first many) sent =
    sym (append_assoc (act_head number a (Done answer first many)) (sent_text names first sent) (codes "\n"))
    ∙ ap (λ (l : List ℕ). l ++ codes "\n") (append_assoc (decimal number ++ codes " ") (codes "ok"
    ++ answer_text a answer) (sent_text names first sent))
line_parts names number a (outcome.Refused why) sent = refl
line_parts names number a outcome.Faulted sent = refl

-- its front, its messages, and a line feed
pub line_is : (names : Bool) (number : ℕ) (old new : WorldView) (w : World) (a : Act) (outcome : Outcome) → StandsFor old w
    → Acted w a outcome new
    → act_head number a outcome ++ (sent_text names (length old.net.sent) (drop (length old.net.sent) new.net.sent) ++ codes "\n")
    ≡ act_line names number a outcome (drop (length old.net.sent) new.net.sent)
line_is names number old new w a outcome stands acted =
    ap (λ (l : List ℕ). act_head number a outcome ++ (l ++ codes "\n")) (sym (said_of names old new w a outcome stands acted))
    ∙ line_parts names number a outcome (drop (length old.net.sent) new.net.sent)

-- ---- the beginning, and the end

-- of a cluster that was opened nothing is printed
pub begins : RunsOpen → (details : Details) (nodes slots : ℕ) (view : WorldView) → view.slots ≡ slots → StandsFor view (start nodes)
    → AreUnarmed view.nodes → AreasWithin 2 view.nodes → IsSoFar details nodes slots view [] []
begins opens details nodes slots view same stands unarmed areas = record {
  world = start nodes;
  report = report_of nodes [] [];
  left = opens nodes slots;
  count = length_openings 0 nodes;
  slots_are = same;
  stands = stands;
  areas = areas;
  acts_are = refl;
  printed = nothing view stands unarmed;
}

-- all acts were printed, and then the nodes
pub ends : (details : Details) (nodes slots : ℕ) (view : WorldView) (acts : List Act) (text all : List ℕ)
    → IsSoFar details nodes slots view acts text
    → ((w : World) → StandsFor view w → AddsRows 0 w.states text all) → PrintsRun details nodes slots acts all
ends details nodes slots view acts text all so rows = record {
  view = view;
  world = so.world;
  report = so.report;
  left = so.left;
  acts_are = so.acts_are;
  front = text;
  printed = so.printed;
  ended = rows so.world so.stands;
}

-- ---- the table

one_there : (xs : List NodeState) (k : ℕ) → k < length xs → (s : NodeState) × (slice_get xs k ≡ Some s) × (drop k xs ≡ s ∷ drop (suc k) xs)
one_there [] k within = absurd (omega arith)
one_there (x ∷ xs) zero within = (x, refl, refl)
one_there (x ∷ xs) (suc k) within = let rest = one_there xs k (omega arith) in (rest.0, rest.1, rest.2)

-- one line more
pub row_more : (w : World) (view : WorldView) (k : ℕ) (node : Node Memory) (first text behind end : List ℕ) → StandsFor view w
    → k < length view.nodes → slice_get view.nodes k ≡ Some node
    → ((s : NodeState) → Stands state_of node s → AddsRow k s text behind)
    → ((e : List ℕ) → AddsRows k (drop k w.states) text e → AddsRows 0 w.states first e)
    → AddsRows (k + 1) (drop (k + 1) w.states) behind end → AddsRows 0 w.states first end
row_more w view k node first text behind end stands within headed row before rest =
    let here = one_there w.states k (omega (arith, stands.count)) in
    let left : drop k w.states ≡ here.0 ∷ drop (k + 1) w.states = here.2 ∙ ap (λ (m : ℕ). here.0 ∷ drop m w.states) (sym (add-one k)) in
    before end (subst (λ (states : List NodeState). AddsRows k states text end) (sym left) (
      behind,
      row here.0 (stands.each k node here.0 headed here.1),
      rest,
    ))
