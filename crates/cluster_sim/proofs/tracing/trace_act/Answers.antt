use Rattle.std.proofs.Common.{◌≡◌, Option, None, Some, refl, rules, sym, ◌∙◌}
use Rattle.std.proofs.lemmas.Result.{on_ok_weaker}
use Rattle.runs.specs.World.{World}
use Rattle.cluster_sim.specs.World.{StandsFor}
use Rattle.cluster_sim.specs.Actions.{IsStepped}
use Rattle.cluster_sim.proofs.Tracings.{none_noted, on_ok_each, traced, world_stays}
use Rattle.cluster_sim.proofs.tracing.trace_act.Goals as goal

none_if : {A : Type 0} (o : Option A) → ((x : A) → o ≡ Some x → ⊥) → o ≡ None
none_if None not = refl
none_if (Some x) not = absurd (not x refl)

pub returns-in_default-clause-traced : goal.returns-in_default-clause-traced
returns-in_default-clause-traced c = λ nodes slots before so.
    on_ok_each c.step.result (StandsFor c.args.world.now) (λ (w : World). IsStepped c.args.world.now w c.args.act.now c.step.new.world) _
    c.step.ensures.acted
    (λ acted. none_noted nodes slots before c.args.act.now c.args.world.now c.step.new.world c.args.histories.now.items c.args.order.now so
    c.step.ensures.slots acted
    (rw (← c.count.ensures.value, ← c.net.ensures) (sym c.brought_by.ensures.value ∙ none_if c.brought_by.result c.in_default.not-Some)))

pub returns-clause-world : goal.returns-clause-world
returns-clause-world c =
    on_ok_weaker c.note.result (λ many. world_stays c.args.act.now _ c.in_ok-action.action c.args.world.now c.perform.new.world
    c.requires.world c.in_ok-action.ensures.acted) c.note.ensures.many

pub returns-clause-traced : goal.returns-clause-traced
returns-clause-traced c = λ nodes slots before so. on_ok_weaker c.note.result
    (λ noted. traced nodes slots before c.args.act.now _ _ c.in_ok-action.action c.args.world.now c.perform.new.world c.len-place.result
    c.in_ok-sent.sent.items c.args.histories.now.items c.note.new.histories.items c.args.order.now c.note.new.order so
    c.perform.ensures.slots c.in_ok-action.ensures.acted
    (rw (← c.count.ensures.value, ← c.net.ensures) (sym c.brought_by.ensures.value ∙ cc)) (search rules) (search rules) noted.0 noted.1)
    (rw (c.message_of-message.ensures, c.deref.ensures.value) at c.note.ensures.noted)
