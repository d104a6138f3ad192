use Rattle.std.proofs.Common.{rules, inr, refl, ap, arith}
use Rattle.lease_machine.specs.Machine.{claim_in, unknown, voter_in}
use Rattle.lease_machine.proofs.Keeping.{entry_at, kept_by, name_read, name_within, nobody_asks, not_kept, unchanged}
use Rattle.lease_machine.proofs.state.LeaseMachine.hear.Goals as goal

pub index_mut-requires : goal.index_mut-requires
index_mut-requires c = omega (arith, name_within c.args.name.now _ c.place_of.ensures c.in-Some.is, c.deref.ensures.len)

pub hear-requires : goal.hear-requires
hear-requires c = λ x found.
    let m = c.args.self.now in
    let e = c.index_mut.result.now in
    let r = name_read c.args.name.now c.deref.ensures.value c.place_of.ensures c.in-Some.is m.kept.apart e e c.index_mut.ensures.value refl
    in
    let own = (entry_at m.kept c.in-Some.place e r.at).claim x found in
    omega (arith, own.voters, c.number-in-Some.ensures.value, c.number.ensures.value, c.if-number-machines.false, c.machines.ensures)

pub invariant_of-self : goal.invariant_of-self
invariant_of-self c =
    let m = c.args.self.now in
    let e = c.index_mut.result.now in
    let r = name_read c.args.name.now c.deref.ensures.value c.place_of.ensures c.in-Some.is m.kept.apart e c.hear.new.self
    c.index_mut.ensures.value c.hear.ensures.same.0 in
    record {
      kept = kept_by m.kept r c.hear.ensures.same.0 c.hear.ensures.same.1 c.hear.result
          (λ yes. (let a = c.hear.ensures.hears yes in (a.c, a.d, a.was, a.is, a.same))) c.hear.ensures.passes;
      room = m.room;
    }

pub returns-in-Some : goal.returns-in-Some
returns-in-Some c =
    let m = c.args.self.now in
    let e = c.index_mut.result.now in
    let r = name_read c.args.name.now c.deref.ensures.value c.place_of.ensures c.in-Some.is m.kept.apart e c.hear.new.self
    c.index_mut.ensures.value c.hear.ensures.same.0 in
    record {
      hears = λ yes. rw (r.old, r.new, ← c.number-in-Some.ensures.value) (c.hear.ensures.hears yes);
      passes = λ no. unchanged (unknown m) r (c.hear.ensures.passes no);
      unheard = λ no. inr (rw r.old (c.hear.ensures.unheard no));
      voter = rw (r.old, r.new) c.hear.ensures.same.1;
      others = λ other differ. (ap (voter_in (unknown m)) (r.others other differ), ap claim_in (r.others other differ));
      goes_on = search rules;
    }

pub returns-in-None-clause-unheard : goal.returns-in-None-clause-unheard
returns-in-None-clause-unheard c = λ no. inr (λ x is own.
    absurd (nobody_asks (not_kept c.args.name.now c.deref.ensures.value c.place_of.ensures c.in-None.is) is))
