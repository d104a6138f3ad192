use Rattle.std.proofs.Common.{◌<◌, Some, length, refl, ap, sym, ◌∙◌, subst, get_or, arith}
use Rattle.std.proofs.lemmas.Option.{slice_get-get_or}
use Rattle.node_core.specs.declared.event.Event.TheVariants as on
use Rattle.node_core.specs.declared.timer.Timer.TheVariants.{Check}
use Rattle.node_lock.specs.declared.worker.Worker.TheVariants.{Clock}
use Rattle.node_lock.specs.declared.held.TheConstants.{MOST_ENTRIES}
use Rattle.node_lock.specs.Asking.{Hand}
use Rattle.node_lock.specs.HeldView.{HeldView}
use Rattle.node_lock.specs.Taking.{turn_of}
use Rattle.node_lock.proofs.Counted.{few_turns}
use Rattle.node_lock.proofs.Keeping.{gives_in}
use Rattle.node_lock.proofs.Resting.{keeps_none_past}
use Rattle.node_lock.proofs.Taking.{takes_next, keeps_next_past}
use Rattle.node_lock.proofs.Comings.{none_of_tick}
use Rattle.node_lock.proofs.held.Held.next_clock.Goals as goal

pub overflow_cast-index : goal.overflow_cast-index
overflow_cast-index c =
    let few = subst (λ (v : HeldView). length v.history < MOST_ENTRIES) (sym c.self.view_is) c.requires.few in
    let fits = (few_turns _ c.self.invariant few).1 in
    omega (arith, fits)

pub invariant_of-self-2 : goal.invariant_of-self-2
invariant_of-self-2 c =
    let h = c.self.inside in
    let more = subst (λ (v : HeldView). v.turns.clock < length v.plans.clock) (sym c.self.view_is) c.requires.more in
    let few = subst (λ (v : HeldView). length v.history < MOST_ENTRIES) (sym c.self.view_is) c.requires.few in
    let timer = get_or c.clock.result.now h.turns.clock Check in
    let got = slice_get-get_or h.plans.clock h.turns.clock Check more
    ∙ ap (λ l. Some (get_or l h.turns.clock Check)) (sym c.clock.ensures) in
    let e = c.in_ok-hand.ensures.taken.0 in
    let took = c.in_ok-hand.ensures.taken.1 in
    let gives = gives_in _ (Hand (on.Timer timer)) (turn_of Clock h.turns.clock e) _ c.self.invariant took.did in
    keeps_next_past _ _ Clock (Hand (on.Timer timer)) e c.self.invariant ((timer, got, refl), took, refl) refl refl few refl refl refl
    (none_of_tick timer e.what gives)

pub returns-clause-taken : goal.returns-clause-taken
returns-clause-taken c =
    let h = c.self.inside in
    let more = subst (λ (v : HeldView). v.turns.clock < length v.plans.clock) (sym c.self.view_is) c.requires.more in
    let timer = get_or c.clock.result.now h.turns.clock Check in
    let got = slice_get-get_or h.plans.clock h.turns.clock Check more
    ∙ ap (λ l. Some (get_or l h.turns.clock Check)) (sym c.clock.ensures) in
    let e = c.in_ok-hand.ensures.taken.0 in
    let took = c.in_ok-hand.ensures.taken.1 in
    rw (← c.self.view_is) (refl, takes_next _ _ Clock (Hand (on.Timer timer)) e c.self.invariant ((timer, got, refl), took, refl) tt)

pub invariant_of-self : goal.invariant_of-self
invariant_of-self c = keeps_none_past _ _ c.self.invariant refl refl refl c.in_err-hand.ensures.memory.1 refl refl
