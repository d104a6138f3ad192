use Rattle.std.proofs.Common.{rules, ap, arith}
use Rattle.lease_machine.specs.Machine.{claim_in, unknown, voter_in}
use Rattle.lease_machine.proofs.Keeping.{kept_by, name_read, name_within, not_kept, unchanged}
use Rattle.lease_machine.proofs.state.LeaseMachine.give_up.Goals as goal

pub index_mut-requires : goal.index_mut-requires
index_mut-requires c = omega (arith, name_within c.args.name.now _ c.place_of.ensures c.in-Some.is, c.deref.ensures.len)

pub invariant_of-self : goal.invariant_of-self
invariant_of-self c =
    let m = c.args.self.now in
    let e = c.index_mut.result.now in
    let r = name_read c.args.name.now c.deref.ensures.value c.place_of.ensures c.in-Some.is m.kept.apart e c.give_up.new.self
    c.index_mut.ensures.value c.give_up.ensures.same.0 in
    record {
      kept = kept_by m.kept r c.give_up.ensures.same.0 c.give_up.ensures.same.1 c.give_up.result
          (λ yes. (let a = c.give_up.ensures.stops yes 0 in (a.c, a.d, a.was, a.is, a.same))) c.give_up.ensures.passes;
      room = m.room;
    }

pub returns-in-Some : goal.returns-in-Some
returns-in-Some c =
    let m = c.args.self.now in
    let e = c.index_mut.result.now in
    let r = name_read c.args.name.now c.deref.ensures.value c.place_of.ensures c.in-Some.is m.kept.apart e c.give_up.new.self
    c.index_mut.ensures.value c.give_up.ensures.same.0 in
    record {
      stops = λ yes now. rw (r.old, r.new) (c.give_up.ensures.stops yes now);
      passes = λ no. unchanged (unknown m) r (c.give_up.ensures.passes no);
      nobody = λ no. rw r.old (c.give_up.ensures.nobody no);
      voter = rw (r.old, r.new) c.give_up.ensures.same.1;
      others = λ other differ. (ap (voter_in (unknown m)) (r.others other differ), ap claim_in (r.others other differ));
      goes_on = search rules;
    }

pub returns-in-None-clause-nobody : goal.returns-in-None-clause-nobody
returns-in-None-clause-nobody c = λ no. ap claim_in (not_kept c.args.name.now c.deref.ensures.value c.place_of.ensures c.in-None.is)
