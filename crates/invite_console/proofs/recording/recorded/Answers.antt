use Rattle.std.proofs.Common.{ℕ, Err, subst, sym}
use Rattle.trace_text.specs.Fits.{IsUnwritable}
use Rattle.invite_console.proofs.Recorded.{can_be_written}
use Rattle.invite_console.proofs.recording.recorded.Goals as goal

pub unreachable-requires : goal.unreachable-requires
unreachable-requires c =
    let schedule = c.args.schedule.now in
    let run = c.in_ok-run.run' in
    let refused = c.in-Err-Unwritable in
    refused.ensures.refused.0 (subst (λ fault. IsUnwritable {A = ℕ} (Err fault)) (sym refused.field-0-is) tt)
    (can_be_written schedule.size.nodes schedule.size.slots schedule.acts.items run.trace run.order c.requires.nodes.0
    c.in_ok-run.ensures.recorded)
