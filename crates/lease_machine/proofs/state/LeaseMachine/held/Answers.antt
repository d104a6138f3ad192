use Rattle.std.proofs.Common.{refl, arith}
use Rattle.lease_machine.proofs.Keeping.{name_read, name_within, nobody_asks, not_kept}
use Rattle.lease_machine.proofs.state.LeaseMachine.held.Goals as goal

pub index-requires : goal.index-requires
index-requires c = omega (arith, name_within c.args.name.now _ c.place_of.ensures c.in-Some.is, c.deref.ensures.len)

pub returns-in-Some : goal.returns-in-Some
returns-in-Some c =
    let m = c.args.self.now in
    let e = c.index.result.now in
    let r = name_read c.args.name.now c.deref.ensures.value c.place_of.ensures c.in-Some.is m.kept.apart e e c.index.ensures refl in
    record { held = rw r.old c.held.ensures.held; none = λ none. rw r.old (c.held.ensures.none none) }

pub returns-in-None-clause-none : goal.returns-in-None-clause-none
returns-in-None-clause-none c = λ _ claim is. absurd (nobody_asks
    (not_kept c.args.name.now c.deref.ensures.value c.place_of.ensures c.in-None.is) is)
