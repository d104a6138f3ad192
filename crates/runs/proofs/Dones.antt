-- A job that was acknowledged as done stays done.
use Rattle.std.proofs.Common.{◌≡◌, List, slice_get, ◌∙◌, ap, subst, Some}
use Rattle.job_model.specs.declared.node_command.NodeCommand.TheVariants.{Done}
use Rattle.histories.specs.Kept.{Mounting}
use Rattle.histories.specs.Lists.{IsAmong}
use Rattle.histories.specs.NodeState.{opening}
use Rattle.histories.specs.HistoryEvent.{Entry}
use Rattle.histories.specs.declared.attempt.Attempt.{Attempt}
use Rattle.histories.proofs.PublicLaws.{done_is_gone}
use Rattle.runs.specs.World.{start}
use Rattle.runs.specs.Run.{history_in}
use Rattle.runs.specs.Reporting.{Report, own_commands, own_mountings}
use Rattle.runs.specs.Uses.{DonesAreKept}
use Rattle.runs.proofs.ExactRuns.{run_in}
use Rattle.runs.proofs.Exact.{all_acts_run}
use Rattle.runs.proofs.Acknowledged.{mine}
use Rattle.runs.proofs.Reports.{commands_reported, mounted_reported}
use Rattle.runs.proofs.Runs.{history_follows, starts_opened}

pub dones_are_kept : DonesAreKept
dones_are_kept nodes slots acts r h n w i lt k id a at later job j =
    let history : List Entry = history_in n nodes (start nodes) h.steps in
    let follows = history_follows n nodes h.steps (start nodes) (opening n) (starts_opened nodes n lt)
    (all_acts_run nodes slots (start nodes) acts h.steps (run_in nodes slots acts r h)) in
    let commands = ap (λ (x : Report). own_commands n x.commands) h.reported
    ∙ commands_reported nodes slots n acts h.steps (run_in nodes slots acts r h) lt in
    let mounted = ap (λ (x : Report). own_mountings n x.mounted) h.reported
    ∙ mounted_reported nodes slots n acts h.steps (run_in nodes slots acts r h) lt in
    done_is_gone n nodes history follows k id a (subst (λ (ts : List Attempt). slice_get ts k
    ≡ Some (record { command = Done id; acked = Some a })) commands at)
    w (subst (λ (ws : List Mounting). IsAmong w ws) mounted (mine n w r.mounted i)) later job j
