-- What an act tried, mounted and gave is what its node says of it.
use Rattle.std.proofs.Common.{◌≡◌, ℕ, ◌+◌, ◌≤◌, ◌&&◌, nat_lt, Bool, false, List, [], slice_get, refl, ◌∙◌, ap, subst, arith, Option, Some}
use Rattle.std.proofs.Common.{None, option_map, Result, Ok, Err, map, length, option_to_list}
use Rattle.group_task.specs.Group.{Group}
use Rattle.job_model.specs.declared.node_command.NodeCommand.{NodeCommand as Command}
use Rattle.job_model.specs.declared.node_command.NodeCommand.TheVariants.{Raise}
use Rattle.job_model.specs.Durable.{Durable}
use Rattle.histories.specs.NodeState.{NodeState, wants_at, settled}
use Rattle.histories.specs.declared.history_event.HistoryEvent.{HistoryEvent}
use Rattle.histories.specs.declared.history_event.HistoryEvent.TheVariants.{Did, Faulted, NoOp, Crashed, Recovered}
use Rattle.histories.specs.EventOutcomes.{attempt_of, command_with, work_of}
use Rattle.histories.specs.declared.command_kind.CommandKind.{CommandKind}
use Rattle.histories.proofs.PublicLaws.{wanted_whole}
use Rattle.histories.specs.After.{mounted_at}
use Rattle.job_model.specs.Answer.{answer_of}
use Rattle.durable_node.specs.Stepping.{answer_at, command_at}
use Rattle.durable_node.proofs.PublicLaws.{is_some}
use Rattle.cluster_sim.specs.declared.act_report.ActReport.{ActReport}
use Rattle.runs.specs.World.{World, node_in}
use Rattle.runs.specs.Step.{Step, Takes}
use Rattle.histories.specs.HistoryEvent.{IsOf}
use Rattle.runs.specs.Acts.{IsCompaction, IsStepOf}
use Rattle.schedule.specs.declared.act.Act.{Act}
use Rattle.schedule.specs.declared.act.Act.TheVariants as act
use Rattle.sim_net.specs.declared.fault.NetFault.{NetFault}
use Rattle.sim_net.specs.Network.{Network, delivery, message_at, after_lost, after_cut, after_mend}
use Rattle.wire_msg.specs.Envelope.{Envelope}
use Rattle.node_core.specs.declared.event.Event.{Event}
use Rattle.node_core.specs.declared.event.Event.TheVariants as on
use Rattle.job_model.specs.declared.work.Work.{Work}
use Rattle.histories.specs.declared.history_event.NoOpKind.TheVariants.{Nothing}
use Rattle.runs.proofs.PublicLaws.{Brings, groups_by, with_node, taken_there, loses_none, link_none}
use Rattle.histories.specs.Kept.{Mounting}
use Rattle.runs.specs.Reporting.{Report, own_commands, tries, commands_at, mountings_at}
use Rattle.runs.specs.declared.attempt_at.AttemptAt.{AttemptAt}
use Rattle.cluster_sim.specs.World.{ActionOf, is_mounting}
use Rattle.cluster_sim.specs.Cluster.{command_in, work_in, tried_as, tried_at, mounting_at, mounted_now, given_in, listed}

-- these commands, mountings and groups of a node are the ones that are reported, and a new count is no smaller than 1
pub record PartsReported (n count : ℕ) (commands : List AttemptAt) (mounts : List (ℕ × Mounting)) (groups : List Group)
    (command : Option Command) (acked : Option ℕ) (mounted : Bool) (mounting : Option Durable) : Type 0 where
  pub tried : commands ≡ listed (tried_at n (tried_as command acked))
  pub mountings : mounts ≡ listed (mounting_at n count (mounted_now mounted mounting))
  pub given : groups ≡ given_in (tried_at n (tried_as command acked))
  pub raises : (k : ℕ) → command ≡ Some Raise → acked ≡ Some k → 1 ≤ k

did_parts : (n count : ℕ) (d : Durable) (wants : Option Command)
    → PartsReported n count (with_node n (map (λ (c : Command). record { command = c; acked = Some (answer_of d c) })
    (option_to_list wants))) []
    (groups_by (with_node n (map (λ (c : Command). record { command = c; acked = Some (answer_of d c) }) (option_to_list wants)))) wants
    (option_map (answer_of d) wants) false None
did_parts n count d (Some Raise) = record {
  tried = refl;
  mountings = refl;
  given = refl;
  raises = λ k raise is. (let same : d.counter + 1 ≡ k = is_some (d.counter + 1) k is in omega (arith, same));
}
did_parts n count d _ = record { tried = refl; mountings = refl; given = refl; raises = λ k raise is. absurd (let bad = raise in cc) }

failed_parts : (n count : ℕ) (wants : Option Command) → PartsReported n count
    (with_node n (map (λ (c : Command). record { command = c; acked = None }) (option_to_list wants))) []
    (groups_by (with_node n (map (λ (c : Command). record { command = c; acked = None }) (option_to_list wants)))) wants None false None
failed_parts n count (Some Raise) = record {
  tried = refl;
  mountings = refl;
  given = refl;
  raises = λ k raise is. absurd (let bad = is in cc);
}
failed_parts n count _ = record { tried = refl; mountings = refl; given = refl; raises = λ k raise is. absurd (let bad = is in cc) }

what_parts : (n nodes count : ℕ) (s : NodeState) (what : HistoryEvent)
    → PartsReported n count (with_node n (tries n nodes s what))
    (map (λ (d : Durable). (n, record { before = count; state = d })) (option_to_list (mounted_at s what)))
    (groups_by (with_node n (tries n nodes s what))) (command_at n nodes s what) (answer_at n nodes s what) (is_mounting what)
    (mounted_at s what)
what_parts n nodes count s (Did e) = did_parts n count s.durable (wants_at n nodes s e)
what_parts n nodes count s (Faulted e) = failed_parts n count (wants_at n nodes s e)
what_parts n nodes count s (Recovered kept) =
    record {
      tried = refl;
      mountings = refl;
      given = refl;
      raises =
          λ k raise same. (let it : (settled kept s).counter + 1 ≡ k = is_some ((settled kept s).counter + 1) k same in omega (arith, it));
    }
what_parts n nodes count s _ = record { tried = refl; mountings = refl; given = refl; raises = λ k raise is. absurd (let bad = is in cc) }

-- ---- which command was tried is known, and the act has the rest

-- of a command it is known which it is, and with the act that is all of it
pub record IsWhole (a : Act) (tried : Option CommandKind) : Type 0 where
  pub command : Option Command
  pub which : tried ≡ option_map attempt_of command
  pub is : command_in a tried ≡ command

abbrev Whole : ℕ → ℕ → NodeState → Option Work → HistoryEvent → Type 0
Whole n nodes s work what = command_with work (option_map attempt_of (command_at n nodes s what)) ≡ command_at n nodes s what

event_whole : (n nodes : ℕ) (s : NodeState) (event : Event) (what : HistoryEvent) → IsOf event what → Whole n nodes s (work_of event) what
event_whole n nodes s event (Did e) of = subst (λ (v : Event). Whole n nodes s (work_of v) (Did e)) (let same : e ≡ event = cc of in same)
    (wanted_whole n s.durable.pending e s.state)
event_whole n nodes s event (Faulted e) of = subst (λ (v : Event). Whole n nodes s (work_of v) (Faulted e))
    (let same : e ≡ event = cc of in same) (wanted_whole n s.durable.pending e s.state)
event_whole n nodes s event _ of = refl

compaction_whole : (n nodes : ℕ) (t s : NodeState) (what : HistoryEvent) → IsCompaction t what → Whole n nodes s None what
compaction_whole n nodes t s (Did e) of = absurd of
compaction_whole n nodes t s (Faulted e) of = absurd of
compaction_whole n nodes t s _ of = refl

brought_whole : (n nodes : ℕ) (net : Network) (k number : ℕ) (s : NodeState) (r : Result Envelope NetFault) (what : HistoryEvent)
    → Brings nodes net k r (Takes n number what) → Whole n nodes s None what
brought_whole n nodes net k number s (Ok m) what of = event_whole n nodes s (on.Deliver m) what
    (taken_there (nat_lt m.receiver nodes) m.receiver k (IsOf (on.Deliver m)) n number what of).1
brought_whole n nodes net k number s (Err why) what of = absurd cc

-- the act has the work of the command that was tried in its step
act_whole : (n nodes number : ℕ) (w : World) (a : Act) (what : HistoryEvent) (s : NodeState) → IsStepOf nodes w a (Takes n number what)
    → Whole n nodes s (work_in a) what
act_whole n nodes number w (act.Deliver k) what s of = brought_whole n nodes w.net k number s (delivery w.net k) what of
act_whole n nodes number w (act.Lose k) what s of = absurd (loses_none (after_lost w.net k) (message_at w.net k) n number what of)
act_whole n nodes number w (act.Cut x y) what s of = absurd
    (link_none (nat_lt x nodes && nat_lt y nodes) (after_cut w.net x y) n number what of)
act_whole n nodes number w (act.Mend x y) what s of = absurd
    (link_none (nat_lt x nodes && nat_lt y nodes) (after_mend w.net x y) n number what of)
act_whole n nodes number w (act.Arm m calls) what s of =
    rw (taken_there (nat_lt m nodes) m 0 (λ (x : HistoryEvent). x ≡ NoOp Nothing) n number what of).1 refl
act_whole n nodes number w (act.Crash m fill) what s of =
    rw (taken_there (nat_lt m nodes) m 0 (λ (x : HistoryEvent). x ≡ Crashed) n number what of).1 refl
act_whole n nodes number w (act.Compact m) what s of = compaction_whole n nodes (node_in w.states m) s what
    (taken_there (nat_lt m nodes) m 0 (IsCompaction (node_in w.states m)) n number what of).1
act_whole n nodes number w _ what s of = event_whole n nodes s _ what (taken_there _ _ 0 (IsOf _) n number what of).1

-- what a step adds to a report is what its node n says
pub record StepReported (nodes : ℕ) (w : World) (r : Report) (a : Act) (step : Step) (n : ℕ) (action : ActReport)
    (mounting : Option Durable) : Type 0 where
  pub whole : IsWhole a action.tried
  pub parts : PartsReported n (length (own_commands n r.commands)) (commands_at nodes w step) (mountings_at w r.commands step)
      (groups_by (commands_at nodes w step)) (command_in a action.tried) action.acked action.mounted mounting

pub takes_reported : (n nodes number : ℕ) (w : World) (r : Report) (a : Act) (what : HistoryEvent) (s : NodeState) (action : ActReport)
    (mounting : Option Durable) → slice_get w.states n ≡ Some s
    → IsStepOf nodes w a (Takes n number what) → ActionOf n nodes s what action → mounting ≡ mounted_at s what
    → StepReported nodes w r a (Takes n number what) n action mounting
takes_reported n nodes number w r a what s action mounting at of reports is =
    let command : command_in a action.tried ≡ command_at n nodes s what = ap (λ (t : Option CommandKind). command_in a t) reports.tried
    ∙ act_whole n nodes number w a what s of in
    record {
      whole = record { command = command_at n nodes s what; which = reports.tried; is = command };
      parts = rw (at, command, reports.acked, reports.mounted, is) (what_parts n nodes (length (own_commands n r.commands)) s what);
    }

-- where no node takes the step nothing is reported
pub record AddsNothing (nodes : ℕ) (w : World) (step : Step) : Type 0 where
  pub commands : commands_at nodes w step ≡ []
  pub mountings : (before : List AttemptAt) → mountings_at w before step ≡ []

pub quiet_reported : (nodes : ℕ) (w : World) (r : Report) (a : Act) (step : Step) (n : ℕ) (action : ActReport) (mounting : Option Durable)
    → AddsNothing nodes w step → action.tried ≡ None → action.mounted ≡ false
    → StepReported nodes w r a step n action mounting
quiet_reported nodes w r a step n action mounting adds none unmounted = record {
  whole = record { command = None; which = none; is = ap (λ (t : Option CommandKind). command_in a t) none };
  parts = rw (adds.commands, adds.mountings, none, unmounted)
      (record { tried = refl; mountings = refl; given = refl; raises = λ k raise is. absurd (let bad = raise in cc) });
}
