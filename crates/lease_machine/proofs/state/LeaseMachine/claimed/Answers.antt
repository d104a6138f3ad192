use Rattle.std.proofs.Common.{refl, ap, arith}
use Rattle.lease_machine.specs.Machine.{claim_in}
use Rattle.lease_machine.proofs.Keeping.{name_read, name_within, not_kept}
use Rattle.lease_machine.proofs.state.LeaseMachine.claimed.Goals as goal

pub index-requires : goal.index-requires
index-requires c = omega (arith, name_within c.args.name.now _ c.place_of.ensures c.in-Some.is, c.deref.ensures.len)

pub returns-in-Some : goal.returns-in-Some
returns-in-Some c =
    let m = c.args.self.now in
    let e = c.index.result.now in
    let r = name_read c.args.name.now c.deref.ensures.value c.place_of.ensures c.in-Some.is m.kept.apart e e c.index.ensures refl in
    record { some = rw r.old c.asker.ensures.some; none = λ none. rw r.old (c.asker.ensures.none none) }

pub returns-in-None-clause-none : goal.returns-in-None-clause-none
returns-in-None-clause-none c = λ _. ap claim_in (not_kept c.args.name.now c.deref.ensures.value c.place_of.ensures c.in-None.is)
