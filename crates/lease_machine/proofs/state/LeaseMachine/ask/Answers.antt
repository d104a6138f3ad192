use Rattle.std.proofs.Common.{rules, ap, arith}
use Rattle.lease_machine.specs.Machine.{claim_in, unknown, voter_in}
use Rattle.lease_machine.proofs.Keeping.{kept_asked, name_read, name_within, nobody_asks, not_kept, unchanged}
use Rattle.lease_machine.proofs.state.LeaseMachine.ask.Goals as goal

pub index_mut-requires : goal.index_mut-requires
index_mut-requires c = omega (arith, name_within c.args.name.now _ c.place_of.ensures c.in-Some.is, c.deref.ensures.len)

pub invariant_of-self : goal.invariant_of-self
invariant_of-self c =
    let m = c.args.self.now in
    let e = c.index_mut.result.now in
    let r = name_read c.args.name.now c.deref.ensures.value c.place_of.ensures c.in-Some.is m.kept.apart e c.ask.new.self
    c.index_mut.ensures.value c.ask.ensures.same.0 in
    record {
      kept = kept_asked m.kept r c.ask.ensures.same.0 c.ask.ensures.same.1 c.ask.result _ c.ask.ensures.asks
          (λ request a. (a.2.c, a.2.d, a.2.was, a.2.is, a.2.same)) c.ask.ensures.none;
      room = m.room;
    }

pub returns-in-Some : goal.returns-in-Some
returns-in-Some c =
    let m = c.args.self.now in
    let e = c.index_mut.result.now in
    let r = name_read c.args.name.now c.deref.ensures.value c.place_of.ensures c.in-Some.is m.kept.apart e c.ask.new.self
    c.index_mut.ensures.value c.ask.ensures.same.0 in
    record {
      asks = rw (r.old, r.new) c.ask.ensures.asks;
      none = λ none. unchanged (unknown m) r (c.ask.ensures.none none);
      refused = λ none. rw r.old (c.ask.ensures.refused none);
      voter = rw (r.old, r.new) c.ask.ensures.same.1;
      others = λ other differ. (ap (voter_in (unknown m)) (r.others other differ), ap claim_in (r.others other differ));
      goes_on = search rules;
    }

pub returns-in-None-clause-refused : goal.returns-in-None-clause-refused
returns-in-None-clause-refused c = λ none x is. absurd (nobody_asks
    (not_kept c.args.name.now c.deref.ensures.value c.place_of.ensures c.in-None.is) is)
