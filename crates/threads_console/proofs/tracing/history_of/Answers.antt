use Rattle.std.proofs.Common.{[], ◌∷◌, ◌++◌, ap₂, ◌∙◌}
use Rattle.node_lock.specs.Seen.{turn_seen}
use Rattle.trace_check.specs.Traces.{claim}
use Rattle.threads_console.specs.Texts.{turn_claim}
use Rattle.threads_console.proofs.Tracings.{image_more}
use Rattle.threads_console.proofs.tracing.history_of.Goals as goal

pub loop-place-preserved : goal.loop-place-preserved
loop-place-preserved c =
    let added = c.in_ok-push.ensures.added ∙ ap₂ (λ action sent. c.loop-place.history
    ++ claim action sent ∷ []) c.action_of.ensures (c.deref.ensures.value ∙ c.in_ok-sent.ensures) in
    image_more turn_claim c.args.turns.now.turns c.loop-place.history c.push.new.self c.loop-place.place (turn_seen c.in-Some.turn)
    c.in-Some.ensures.some c.loop-place.invariant added
