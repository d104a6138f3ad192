use Rattle.std.proofs.Common.{rules, refl, ap, arith}
use Rattle.lease_runs.specs.declared.voter.LeaseVoter.{LeaseVoter}
use Rattle.lease_machine.specs.Machine.{claim_in, unknown, voter_in}
use Rattle.lease_machine.proofs.Keeping.{entry_at, kept_like, name_read, name_within, nobody_holds, not_kept, released_like, unchanged}
use Rattle.lease_machine.proofs.state.LeaseMachine.release.Goals as goal

pub index_mut-requires : goal.index_mut-requires
index_mut-requires c = omega (arith, name_within c.args.name.now _ c.place_of.ensures c.in-Some.is, c.deref.ensures.len)

pub invariant_of-self : goal.invariant_of-self
invariant_of-self c =
    let m = c.args.self.now in
    let e = c.index_mut.result.now in
    let r = name_read c.args.name.now c.deref.ensures.value c.place_of.ensures c.in-Some.is m.kept.apart e (record e {
      voter = c.release.new.self;
    }) c.index_mut.ensures.value refl in
    record {
      kept = kept_like m.kept r refl (released_like e.voter c.release.new.self c.args.client c.args.epoch c.release.result
          c.release.ensures.frees c.release.ensures.same) (entry_at m.kept c.in-Some.place e r.at).claim;
      room = m.room;
    }

pub returns-in-Some : goal.returns-in-Some
returns-in-Some c =
    let m = c.args.self.now in
    let e = c.index_mut.result.now in
    let r = name_read c.args.name.now c.deref.ensures.value c.place_of.ensures c.in-Some.is m.kept.apart e (record e {
      voter = c.release.new.self;
    }) c.index_mut.ensures.value refl in
    record {
      frees = λ freed now. rw (r.old, r.new) (c.release.ensures.frees freed now);
      passes = λ passed. (
        unchanged (unknown m) r (ap (λ (v : LeaseVoter). record e { voter = v }) (c.release.ensures.same passed)),
        rw r.old (c.release.ensures.passes passed),
      );
      others = λ other differ. (ap (voter_in (unknown m)) (r.others other differ), ap claim_in (r.others other differ));
      claim = rw (r.old, r.new);
      goes_on = search rules;
    }

pub returns-in-None-clause-passes : goal.returns-in-None-clause-passes
returns-in-None-clause-passes c = λ _. (
  λ name. (refl, refl),
  λ held last. absurd (nobody_holds (unknown c.args.self.now)
      (not_kept c.args.name.now c.deref.ensures.value c.place_of.ensures c.in-None.is) refl held),
)
