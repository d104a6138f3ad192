use Rattle.std.proofs.Common.{refl, arith}
use Rattle.lease_machine.proofs.Keeping.{name_read, name_within, not_kept}
use Rattle.lease_machine.proofs.state.LeaseMachine.is_claimed.Goals as goal

pub index-requires : goal.index-requires
index-requires c = omega (arith, name_within c.args.name.now _ c.place_of.ensures c.in-Some.is, c.deref.ensures.len)

pub returns-in-Some : goal.returns-in-Some
returns-in-Some c =
    let m = c.args.self.now in
    let e = c.index.result.now in
    let r = name_read c.args.name.now c.deref.ensures.value c.place_of.ensures c.in-Some.is m.kept.apart e e c.index.ensures refl in
    rw r.old c.is_some.ensures

pub returns-in-None : goal.returns-in-None
returns-in-None c = rw (not_kept c.args.name.now c.deref.ensures.value c.place_of.ensures c.in-None.is)
