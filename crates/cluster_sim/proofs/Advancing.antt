-- An act that is reported: the room for it, and the report after it.
use Rattle.std.proofs.Common.{◌≡◌, ◌≢◌, ◌^◌, ◌⊎◌, inl, inr, ⊎_elim, ℕ, suc, ◌+◌, ◌<◌, ◌≤◌, Bool, true, false, List, [], ◌∷◌, ◌++◌, length}
use Rattle.std.proofs.Common.{map, slice_get, refl, sym, ◌∙◌, ap, subst, arith, Option, Some, None, option_map}
use Rattle.std.specs.Prelude.{slice_set, is_some as is_some_option}
use Rattle.std.proofs.lemmas.List.{append-nil, length-append, length-set}
use Rattle.std.proofs.lemmas.Option.{slice_get_within}
use Rattle.job_model.specs.Durable.{Durable}
use Rattle.wire_msg.specs.Envelope.{Envelope}
use Rattle.sector_disk.specs.Memory.{Memory, state_of}
use Rattle.sim_net.specs.Network.{Network}
use Rattle.node_core.specs.State.{State, is_down}
use Rattle.durable_node.specs.Node.{Node, Stands}
use Rattle.histories.specs.NodeState.{NodeState}
use Rattle.histories.specs.declared.history_event.HistoryEvent.{HistoryEvent}
use Rattle.histories.specs.After.{mounted_at}
use Rattle.durable_node.proofs.PublicLaws.{is_some}
use Rattle.schedule.specs.declared.act.Act.{Act}
use Rattle.runs.specs.World.{World, node_in}
use Rattle.runs.specs.Step.{Step, Takes, step_sent, world_after}
use Rattle.node_core.specs.declared.fault.Refusal.TheVariants.{AreaExhausted}
use Rattle.runs.specs.declared.outcome.Outcome.{Outcome}
use Rattle.runs.specs.declared.outcome.Outcome.TheVariants.{Refused}
use Rattle.runs.specs.declared.outcome.ActRefusal.TheVariants.{Node as OfNode}
use Rattle.runs.specs.Acts.{IsStepOf}
use Rattle.runs.specs.Reporting.{Moment, Report, own_commands, node_of, moment_of, grown}
use Rattle.runs.specs.declared.attempt_at.AttemptAt.{AttemptAt}
use Rattle.cluster_sim.specs.Names.{node_named}
use Rattle.cluster_sim.proofs.Answering.{untouched_areas}
use Rattle.cluster_sim.proofs.Names.{step_named}
use Rattle.runs.specs.Growth.{IsLeft}
use Rattle.cluster_sim.specs.World.{AreasRise, AreasWithin, IsUntouched, WorldView, ActionOf, Performed, StandsFor, Shows, ReportsAction}
use Rattle.cluster_sim.specs.Cluster.{AreCounted, IsCluster, Reports, GoesOn, command_in, pending_room, cluster_with, report_in, moment_in}
use Rattle.cluster_sim.specs.Cluster.{tried_as, tried_at, mounting_at, mounted_now, listed, with_action}
use Rattle.runs.specs.Numbered.{sent_under}
use Rattle.cluster_sim.specs.declared.report.Moment.{Moment as KeptMoment}
use Rattle.cluster_sim.specs.declared.report.Report.{Report as KeptReport}
use Rattle.cluster_sim.specs.declared.act_report.ActReport.{ActReport}
use Rattle.job_model.specs.declared.node_command.NodeCommand.{NodeCommand as Command}
use Rattle.histories.specs.declared.command_kind.CommandKind.{CommandKind}
use Rattle.histories.specs.EventOutcomes.{attempt_of}
use Rattle.histories.specs.Possible.{IsPossible}
use Rattle.runs.specs.Run.{IsAllowed}
use Rattle.runs.proofs.PublicLaws.{runs_grow, step_length, counts_more, hands_grow, mounted_few, left_few, left_numbered, step_adds}
use Rattle.runs.proofs.PublicLaws.{step_numbered, at_place, node_there}
use Rattle.cluster_sim.proofs.Reporting.{AddsNothing, StepReported, quiet_reported, takes_reported}

-- the room for pending jobs is enough
enough : (slots : ℕ) (d : Durable) (down : Bool) (kept : Option Durable) → (down ≡ false → kept ≡ Some d) → length d.pending ≤ slots
    → length d.pending ≤ pending_room slots down kept
enough slots d true kept up few = few
enough slots d false kept up few = rw (up refl) (omega arith)

-- where a command was tried, and only there, one more is counted
counted_on : (nodes n before : ℕ) (commands : List AttemptAt) (counts counts' : List ℕ) (tried : Option CommandKind) (acked : Option ℕ)
    (command : Option Command) → tried ≡ option_map attempt_of command
    → AreCounted nodes commands counts → slice_get counts n ≡ Some before
    → ((is_some_option tried ≡ true) × (counts' ≡ slice_set counts n (before + 1)))
    ⊎ ((is_some_option tried ≡ false) × (counts' ≡ counts))
    → AreCounted nodes (commands ++ listed (tried_at n (tried_as command acked))) counts'
counted_on nodes n before commands counts counts' tried acked None which counted at (inl some) =
    absurd (let bad : false ≡ true = ap (λ (t : Option CommandKind). is_some_option t) (sym which) ∙ some.0 in cc)
counted_on nodes n before commands counts counts' tried acked None which counted at (inr none) = rw (none.1, append-nil commands) counted
counted_on nodes n before commands counts counts' tried acked (Some c) which counted at (inl some) =
    rw some.1 (record {
      as_many = length-set counts n (before + 1) ∙ counted.as_many;
      each = counts_more n before commands counts _ counted.each at refl;
    })
counted_on nodes n before commands counts counts' tried acked (Some c) which counted at (inr none) =
    absurd (let bad : true ≡ false = ap (λ (t : Option CommandKind). is_some_option t) (sym which) ∙ none.0 in cc)

-- moments that are kept have the same messages once more are sent
same_sent : (ms : List KeptMoment) (sent sent' : List Envelope)
    → ((k : ℕ) (m : Moment) → slice_get (map (moment_in sent) ms) k ≡ Some m → m.sent ≡ sent_under sent' m.outcome)
    → map (moment_in sent) ms ≡ map (moment_in sent') ms
same_sent [] sent sent' numbered = refl
same_sent (x ∷ ms) sent sent' numbered = λ i. record (moment_in sent x) {
  sent = numbered 0 (moment_in sent x) refl i;
} ∷ same_sent ms sent sent' (λ k m at. numbered (suc k) m at) i

-- and so has a report
same_report : (kept : KeptReport) (nodes slots : ℕ) (w : World) (more : List Envelope) → IsLeft nodes slots w (report_in kept w.net.sent)
    → report_in kept w.net.sent ≡ report_in kept (w.net.sent ++ more)
same_report kept nodes slots w more left =
    let same = same_sent kept.moments.items w.net.sent (w.net.sent ++ more)
    (left_numbered nodes slots w (report_in kept w.net.sent) more left) in
    λ i. record (report_in kept w.net.sent) { moments = same i }

-- ---- one act, at the node that it names

-- the state of a node before the act and after it
record Moved (w w' : World) (n : ℕ) (was node : Node Memory) : Type 0 where
  s : NodeState
  s' : NodeState
  at_s : slice_get w.states n ≡ Some s
  now : slice_get w'.states n ≡ Some s'
  stood : Stands state_of was s
  stands : Stands state_of node s'

record Taken (w : World) (step : Step) (n : ℕ) (action : ActReport) (node : Node Memory) (s : NodeState) : Type 0 where
  number : ℕ
  what : HistoryEvent
  is : step ≡ Takes n number what
  possible : IsPossible n (length w.states) s what
  reports : ActionOf n (length w.states) s what action
  mounted : node.mounted ≡ mounted_at s what

-- no node takes the step, and nothing is reported
record Quiet (w : World) (step : Step) (action : ActReport) : Type 0 where
  tried : action.tried ≡ None
  mounted : action.mounted ≡ false
  adds : (nodes : ℕ) → AddsNothing nodes w step

-- the node that code names
pub named_in : (old : WorldView) (w : World) (a : Act) (n count : ℕ) (net : Network) → StandsFor old w → count ≡ length old.nodes
    → net ≡ old.net → n ≡ node_named count net.sent a → n ≡ node_named (length w.states) w.net.sent a
named_in old w a n count net stands many same named = named ∙ (λ i. node_named ((many ∙ stands.count) i) ((same ∙ stands.net) i).sent a)

module _ (old new : WorldView) (w : World) (a : Act) (action : ActReport) (n : ℕ) (was node : Node Memory) (stands : StandsFor old w)
    (p : Performed w a action new) (named : n ≡ node_named (length w.states) w.net.sent a)
    (at_was : slice_get old.nodes n ≡ Some was) (at : slice_get new.nodes n ≡ Some node) where
  moved : Moved w (world_after (length w.states) w p.acted.step) n was node
  moved =
      let many = step_length (length w.states) w p.acted.step in
      let within : n < length w.states = subst (λ (k : ℕ). n < k) stands.count (slice_get_within old.nodes n was at_was) in
      let s = at_place w.states n within in
      let s' = at_place (world_after (length w.states) w p.acted.step).states n (omega (arith, within, many)) in
      record {
        s = s.0;
        s' = s'.0;
        at_s = s.1;
        now = s'.1;
        stood = stands.each n was s.0 at_was s.1;
        stands = p.acted.stands.each n node s'.0 at s'.1;
      }

  -- it took the step, or nothing is reported
  taken : Taken w p.acted.step n action node moved.s ⊎ Quiet w p.acted.step action
  taken = by_step p.acted.step p.acted.next.of_act p.acted.next.allowed p.acted.shows p.reports
    where
      by_step : (step : Step) → IsStepOf (length w.states) w a step → IsAllowed (length w.states) w step → Shows w step new
          → ReportsAction w step action → Taken w step n action node moved.s ⊎ Quiet w step action
      by_step (Takes m number what) of may shows reports =
          let same : m ≡ n = step_named (length w.states) w a (Takes m number what) of ∙ sym named in
          let at_s : slice_get w.states m ≡ Some moved.s = subst (λ (k : ℕ). slice_get w.states k ≡ Some moved.s) (sym same) moved.at_s in
          inl (subst (λ (k : ℕ). Taken w (Takes m number what) k action node moved.s) same (record {
            number = number;
            what = what;
            is = refl;
            possible = subst (λ (x : NodeState). IsPossible m (length w.states) x what) (is_some may.0 moved.s (sym may.1 ∙ at_s)) may.2;
            reports = reports moved.s at_s;
            mounted = shows node moved.s (subst (λ (k : ℕ). slice_get new.nodes k ≡ Some node) (sym same) at) at_s;
          }))
      by_step _ of may shows reports = inr (record {
        tried = reports.0;
        mounted = reports.1;
        adds = λ nodes. record { commands = refl; mountings = λ before. refl };
      })

  pub hand_fits : (report : Report) (limit : ℕ) → Reports (record { world = old; report = report }) w
      → length was.state.hand + pending_room old.slots (is_down was.state.phase) was.kept + 1 ≤ limit → length node.state.hand ≤ limit
  hand_fits report limit reports fits =
      let few : length moved.s.durable.pending ≤ old.slots = left_few (length old.nodes) old.slots w report reports.left n moved.s
      moved.at_s false in
      let room = enough old.slots moved.s.durable (is_down was.state.phase) was.kept (λ up. (moved.stood.up up).0) few in
      let grows = hands_grow (length w.states) w p.acted.step p.acted.next.allowed n moved.s' moved.now moved.s moved.at_s in
      let before : length was.state.hand ≡ length moved.s.state.hand = ap (λ (x : State). length x.hand) moved.stood.state in
      let after : length node.state.hand ≡ length moved.s'.state.hand = ap (λ (x : State). length x.hand) moved.stands.state in
      omega (arith, room, grows, before, after, fits)

  pub jobs_fit : (report : Report) (room : ℕ) (d : Durable) → Reports (record { world = old; report = report }) w
      → (is_down was.state.phase ≡ true → old.slots ≤ room)
      → action.mounted ≡ true → node.mounted ≡ Some d → length d.pending ≤ room
  jobs_fit report room d reports fits mounts mounted = ⊎_elim
      (λ t.
      (let few = mounted_few (length old.nodes) old.slots w report reports.left n moved.s moved.at_s (length w.states) t.what t.possible d
      (sym t.mounted ∙ mounted) in
      let enough = fits (ap (λ (x : State). is_down x.phase) moved.stood.state ∙ few.0) in
      omega (arith, few.1, enough)))
      (λ none. absurd (let bad : true ≡ false = sym mounts ∙ none.mounted in cc)) taken

  -- what the act adds is what is reported of it
  pub step_reported : (r : Report) → StepReported (length w.states) w r a p.acted.step n action node.mounted
  step_reported r = ⊎_elim
      (λ t. subst (λ (x : Step). StepReported (length w.states) w r a x n action node.mounted) (sym t.is)
      (takes_reported n (length w.states) t.number w r a t.what moved.s action node.mounted moved.at_s
      (subst (λ (x : Step). IsStepOf (length w.states) w a x) t.is p.acted.next.of_act) t.reports t.mounted))
      (λ none. quiet_reported (length w.states) w r a p.acted.step n action node.mounted (none.adds (length w.states)) none.tried
      none.mounted) taken

  -- the report with the act is the grown one
  report_is : (r : Report) (before : ℕ) → before ≡ length (own_commands n r.commands)
      → with_action new.net.sent n before a action node r ≡ grown (length w.states) w a p.acted.step r
  report_is r before so_many =
      let nodes = length w.states in
      let step = p.acted.step in
      let t = (step_reported r).parts in
      let at_node : n ≡ node_of step = named ∙ sym (step_named nodes w a step p.acted.next.of_act) in
      let shown : node.state ≡ (node_in (world_after nodes w step).states n).state = moved.stands.state
      ∙ ap (λ (x : NodeState). x.state) (sym (node_there (world_after nodes w step).states n moved.s' moved.now)) in
      let sent : sent_under new.net.sent action.outcome ≡ step_sent nodes w step =
      (λ i. sent_under ((ap (λ (x : Network). x.sent) p.acted.stands.net ∙ sym (append-nil (world_after nodes w step).net.sent)) i)
      (p.acted.outcome_is i)) ∙ sym (step_numbered nodes w a step []) in
      let moment : record { act = a; node = n; outcome = action.outcome; sent = sent_under new.net.sent action.outcome; state = node.state }
      ≡ moment_of nodes w a step =
      (λ i. record {
        act = a;
        node = at_node i;
        outcome = p.acted.outcome_is i;
        sent = sent i;
        state = (shown ∙ ap (λ (k : ℕ). (node_in (world_after nodes w step).states k).state) at_node) i;
      }) in
      λ i. record {
        opening = r.opening;
        moments = r.moments ++ moment i ∷ [];
        groups = r.groups ++ sym t.given i;
        commands = r.commands ++ sym t.tried i;
        mounted = r.mounted ++ (ap (λ (k : ℕ). listed (mounting_at n k (mounted_now action.mounted node.mounted))) so_many
            ∙ sym t.mountings) i;
      }

  -- as many nodes as before
  same_count : length new.nodes ≡ length old.nodes
  same_count = p.acted.stands.count ∙ step_length (length w.states) w p.acted.step ∙ sym stands.count

  module _ (kept kept' : KeptReport) (before : ℕ) (reports : Reports (cluster_with old kept) w) (same_slots : new.slots ≡ old.slots)
      (so_many : before ≡ length (own_commands n (cluster_with old kept).report.commands))
      (is : report_in kept' new.net.sent ≡ with_action new.net.sent n before a action node (report_in kept new.net.sent)) where
    -- the moments before it have the messages that they had
    same_before : report_in kept new.net.sent ≡ report_in kept old.net.sent
    same_before =
        let nodes = length w.states in
        let same_net : old.net.sent ≡ w.net.sent = ap (λ (x : Network). x.sent) stands.net in
        let more : new.net.sent ≡ w.net.sent ++ step_sent nodes w p.acted.step = ap (λ (x : Network). x.sent) p.acted.stands.net
        ∙ step_adds nodes w p.acted.step p.acted.next.allowed in
        let left : IsLeft (length old.nodes) old.slots w (report_in kept w.net.sent) =
        subst (λ (ms : List Envelope). IsLeft (length old.nodes) old.slots w (report_in kept ms)) same_net reports.left in
        ap (report_in kept) more ∙ sym (same_report kept (length old.nodes) old.slots w (step_sent nodes w p.acted.step) left)
        ∙ ap (report_in kept) (sym same_net)

    grows : report_in kept' new.net.sent ≡ grown (length w.states) w a p.acted.step (report_in kept old.net.sent)
    grows = is ∙ ap (with_action new.net.sent n before a action node) same_before ∙ report_is (report_in kept old.net.sent) before so_many

    pub goes_on : length (cluster_with old kept).report.moments + 3 < 2 ^ 64 → action.outcome ≢ Refused (OfNode AreaExhausted)
        → GoesOn w a action.outcome (cluster_with old kept) (cluster_with new kept')
    goes_on short never_area_exhausted =
        let nodes = length w.states in
        let step = p.acted.step in
        let r = report_in kept old.net.sent in
        let left : IsLeft nodes new.slots w r = subst (λ (k : ℕ). IsLeft k new.slots w r) stands.count
        (subst (λ (k : ℕ). IsLeft (length old.nodes) k w r) (sym same_slots) reports.left) in
        let grew = runs_grow nodes new.slots w r a step left p.acted.next (omega (arith, short))
        (subst (λ (o : Outcome). o ≢ Refused (OfNode AreaExhausted)) p.acted.outcome_is never_area_exhausted) in
        record {
          step = step;
          is_step = grew.0;
          outcome_is = p.acted.outcome_is;
          grows = grows;
          reports = record { stands = p.acted.stands; left = rw (grows, same_count ∙ stands.count) grew.1 };
        }

    pub cluster_on : (counts counts' : List ℕ) → AreCounted (length old.nodes) (cluster_with old kept).report.commands counts
        → slice_get counts n ≡ Some before
        → ((is_some_option action.tried ≡ true) × (counts' ≡ slice_set counts n (before + 1)))
        ⊎ ((is_some_option action.tried ≡ false) × (counts' ≡ counts))
        → AreasRise old new action.outcome → AreasWithin (length (cluster_with old kept).report.moments + 2) old.nodes
        → length (cluster_with old kept).report.moments + 3 < 2 ^ 64
        → IsCluster (cluster_with new kept') counts'
    cluster_on counts counts' counted at_count either rises within short =
        let r = report_in kept old.net.sent in
        let whole = (step_reported r).whole in
        let commands : (report_in kept' new.net.sent).commands ≡ r.commands
        ++ listed (tried_at n (tried_as (command_in a action.tried) action.acked)) = ap (λ (x : Report). x.commands) is in
        record {
          last = _;
          reports = (goes_on short ((rises (length r.moments + 2) within).1 (omega (arith, short)))).reports;
          counted = rw (same_count, commands, whole.is) (counted_on (length old.nodes) n before r.commands counts counts' action.tried
              action.acked whole.command whole.which counted at_count either);
          areas = subst (λ (x : Report). AreasWithin (length x.moments + 2) new.nodes) (sym grows)
              (subst (λ (k : ℕ). AreasWithin k new.nodes)
              (omega (arith, length-append r.moments (moment_of (length w.states) w a p.acted.step ∷ [])))
              (rises (length r.moments + 2) within).0);
        }

-- an act for which there was no memory leaves all of it true
pub cluster_still : (old new : WorldView) (kept kept' : KeptReport) (at : ℕ) (counts : List ℕ) → IsCluster (cluster_with old kept) counts
    → ((sent : List Envelope) → report_in kept' sent ≡ report_in kept sent) → new.slots ≡ old.slots
    → ((w : World) → StandsFor old w → StandsFor new w) → ((w : World) → StandsFor old w → IsUntouched at old new)
    → IsCluster (cluster_with new kept') counts
cluster_still old new kept kept' at counts is same_kept same_slots stands untouched =
    let same = untouched is.last is.reports.stands in
    let report_same : report_in kept' new.net.sent ≡ report_in kept old.net.sent = same_kept new.net.sent
    ∙ ap (λ (net : Network). report_in kept net.sent) same.net in
    record {
      last = is.last;
      reports = record {
        stands = stands is.last is.reports.stands;
        left = rw (report_same, same.count, same_slots) is.reports.left;
      };
      counted = subst (λ (n : ℕ). AreCounted n (report_in kept' new.net.sent).commands counts) (sym same.count)
          (subst (λ (x : Report). AreCounted (length old.nodes) x.commands counts) (sym report_same) is.counted);
      areas = subst (λ (x : Report). AreasWithin (length x.moments + 2) new.nodes) (sym report_same)
          (untouched_areas at _ old new same is.areas);
    }
