use Rattle.std.proofs.Common.{◌<◌, Option, IsSome, length, refl, sym, ◌∙◌, subst, arith}
use Rattle.std.proofs.lemmas.Result.{err_from_is_err_and}
use Rattle.wire_msg.specs.Envelope.{Envelope}
use Rattle.node_lock.specs.declared.worker.Worker.TheVariants.{Intake}
use Rattle.node_lock.specs.declared.held.TheConstants.{MOST_ENTRIES}
use Rattle.node_lock.specs.Asking.{asked_by}
use Rattle.node_lock.specs.HeldView.{HeldView}
use Rattle.node_lock.specs.Taking.{turn_of}
use Rattle.node_lock.proofs.Counted.{few_turns}
use Rattle.node_lock.proofs.Keeping.{gives_in, same_again}
use Rattle.node_lock.proofs.Comings.{brought_polled}
use Rattle.node_lock.proofs.Fetching.{fetched, entered, finds, index_of}
use Rattle.node_lock.proofs.Resting.{keeps_none}
use Rattle.node_lock.proofs.Taking.{takes_next, keeps_next, waits_since, unserved_by}
use Rattle.node_lock.proofs.held.Held.next_intake.Goals as goal

pub overflow_cast-index : goal.overflow_cast-index
overflow_cast-index c =
    let few = subst (λ (v : HeldView). length v.history < MOST_ENTRIES) (sym c.self.view_is) c.requires.few in
    let fits = (few_turns _ c.self.invariant few).0 in
    omega (arith, fits)

pub invariant_of-self-2 : goal.invariant_of-self-2
invariant_of-self-2 c =
    let h = c.self.inside in
    let few = subst (λ (v : HeldView). length v.history < MOST_ENTRIES) (sym c.self.view_is) c.requires.few in
    let read = index_of h.plans.intake _ h.turns.intake _ (subst (λ (v : HeldView). v.turns.intake < length v.plans.intake)
    (sym c.self.view_is) c.requires.more) c.index-intake-index.is c.intake.ensures in
    let arrived = c.fetch.new.waiting in
    let did = c.in_ok-receive.ensures.taken in
    let gives = gives_in _ (asked_by arrived) (turn_of Intake h.turns.intake did.0) _ c.self.invariant did.1.did in
    let k = c.self.invariant in
    let links = fetched _ c.fetch.new.takes.items c.place_of-place.result c.index-intake-index.result arrived k c.place_of-place.ensures
    read.1 c.fetch.ensures.none c.fetch.ensures.some in
    keeps_next _ _ Intake (asked_by arrived) did.0 k (((c.index-intake-index.result, read.0), (arrived, refl)), did.1, refl) refl refl few
    links.0 (λ i d lt. entered _ _ (turn_of Intake h.turns.intake did.0) arrived _ _ (k.takes i d lt).0 (links.1 i d lt) refl refl
    did.1.turns c.clear.ensures refl gives) (λ s. absurd (let bad = subst (λ (o : Option Envelope). IsSome o) c.clear.ensures s in cc))

pub returns-clause-taken : goal.returns-clause-taken
returns-clause-taken c =
    let h = c.self.inside in
    let read = index_of h.plans.intake _ h.turns.intake _ (subst (λ (v : HeldView). v.turns.intake < length v.plans.intake)
    (sym c.self.view_is) c.requires.more) c.index-intake-index.is c.intake.ensures in
    let arrived = c.fetch.new.waiting in
    let did = c.in_ok-receive.ensures.taken in
    let gives = gives_in _ (asked_by arrived) (turn_of Intake h.turns.intake did.0) _ c.self.invariant did.1.did in
    let v : HeldView = record {
      node = h.site.node;
      run = h.run;
      puts = h.site.puts.items;
      takes = h.takes.items;
      plans = h.plans;
      turns = h.turns;
      history = h.site.history.turns;
      lost = h.site.history.lost;
      numbers = h.site.history.numbers;
      counter = h.site.numbers.counter;
      drawn = h.site.numbers.drawn;
      waiting = h.waiting;
      room = h.site.history.room;
      sends = h.site.history.sends;
      events = h.site.history.events;
    } in
    rw (← c.self.view_is) (
      refl,
      takes_next _ _ Intake (asked_by arrived) did.0 c.self.invariant
          (((c.index-intake-index.result, read.0), (arrived, refl)), did.1, refl) (
            arrived,
            brought_polled arrived did.0.what gives,
            finds v c.fetch.new.takes.items c.place_of-place.result c.index-intake-index.result arrived c.place_of-place.ensures read.1
                c.fetch.ensures.none c.in_ok-fetch.ensures.empty c.fetch.ensures.some,
          ),
    )

pub returns-in_err-receive-clause-memory : goal.returns-in_err-receive-clause-memory
returns-in_err-receive-clause-memory c =
    let h = c.self.inside in
    let none = c.in_err-receive.ensures.memory in
    let err = err_from_is_err_and c.from_residual-in_err-receive.result c.from_residual-in_err-receive.ensures.1 in
    let waits = waits_since c.place_of-place.result c.fetch.new.waiting h.waiting h.takes.items c.fetch.new.takes.items c.fetch.ensures.none
    c.fetch.ensures.some in
    rw (← c.self.view_is) (rw err.1 (err.2 ∙ none.0, unserved_by _ _ refl refl refl none.1 waits))

pub returns-in_err-fetch-clause-memory : goal.returns-in_err-fetch-clause-memory
returns-in_err-fetch-clause-memory c =
    let h = c.self.inside in
    let err = err_from_is_err_and c.from_residual.result c.from_residual.ensures.1 in
    let waits = waits_since c.place_of-place.result c.fetch.new.waiting h.waiting h.takes.items c.fetch.new.takes.items c.fetch.ensures.none
    c.fetch.ensures.some in
    rw (← c.self.view_is) (rw err.1 (
      err.2 ∙ c.in_err-fetch.ensures.memory,
      unserved_by _ _ refl refl refl (record {
        node = refl;
        puts = same_again h.site.puts.items;
        turns = refl;
        lost = refl;
        numbers = refl;
        drawn = refl;
      }) waits,
    ))

pub invariant_of-self-in_err-receive : goal.invariant_of-self-in_err-receive
invariant_of-self-in_err-receive c =
    let h = c.self.inside in
    let more : h.turns.intake < length h.plans.intake = subst (λ (v : HeldView). v.turns.intake < length v.plans.intake)
    (sym c.self.view_is) c.requires.more in
    let read = index_of h.plans.intake _ h.turns.intake _ more c.index-intake-index.is c.intake.ensures in
    let links = fetched _ c.fetch.new.takes.items c.place_of-place.result c.index-intake-index.result c.fetch.new.waiting c.self.invariant
    c.place_of-place.ensures read.1 c.fetch.ensures.none c.fetch.ensures.some in
    keeps_none _ _ c.self.invariant refl refl refl c.in_err-receive.ensures.memory.1 links.0 links.1 (λ _. more)
