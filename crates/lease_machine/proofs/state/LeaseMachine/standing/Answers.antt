use Rattle.std.proofs.Common.{refl, arith}
use Rattle.lease_machine.proofs.Keeping.{name_read, name_within, not_kept}
use Rattle.lease_machine.proofs.state.LeaseMachine.standing.Goals as goal

pub index-requires : goal.index-requires
index-requires c = omega (arith, name_within c.args.name.now _ c.place_of.ensures c.in-Some.is, c.deref.ensures.len)

pub returns-in-Some : goal.returns-in-Some
returns-in-Some c =
    let m = c.args.self.now in
    let e = c.index.result.now in
    let r = name_read c.args.name.now c.deref.ensures.value c.place_of.ensures c.in-Some.is m.kept.apart e e c.index.ensures refl in
    record {
      last = rw r.old c.standing_of.ensures.0;
      holder = rw r.old c.standing_of.ensures.1;
      ends = rw r.old c.standing_of.ensures.2;
    }

pub returns-in-None : goal.returns-in-None
returns-in-None c =
    let gone = not_kept c.args.name.now c.deref.ensures.value c.place_of.ensures c.in-None.is in
    record { last = rw gone; holder = rw gone; ends = rw gone }
