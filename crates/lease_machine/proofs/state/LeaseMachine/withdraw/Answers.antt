use Rattle.std.proofs.Common.{rules, refl, ap, arith}
use Rattle.std.specs.Prelude.{None}
use Rattle.lease_machine.specs.Machine.{claim_in, unknown, voter_in}
use Rattle.lease_machine.proofs.Keeping.{kept_like, like_same, name_read, name_within, not_kept}
use Rattle.lease_machine.proofs.state.LeaseMachine.withdraw.Goals as goal

pub index_mut-requires : goal.index_mut-requires
index_mut-requires c = omega (arith, name_within c.args.name.now _ c.place_of.ensures c.in-Some.is, c.deref.ensures.len)

pub invariant_of-self : goal.invariant_of-self
invariant_of-self c =
    let m = c.args.self.now in
    let e = c.index_mut.result.now in
    let r = name_read c.args.name.now c.deref.ensures.value c.place_of.ensures c.in-Some.is m.kept.apart e (record e { claim = None })
    c.index_mut.ensures.value refl in
    record { kept = kept_like m.kept r refl (like_same e.voter e.voter refl) (λ y h. absurd cc); room = m.room }

pub returns-in-Some : goal.returns-in-Some
returns-in-Some c =
    let m = c.args.self.now in
    let e = c.index_mut.result.now in
    let r = name_read c.args.name.now c.deref.ensures.value c.place_of.ensures c.in-Some.is m.kept.apart e (record e { claim = None })
    c.index_mut.ensures.value refl in
    record {
      nobody = ap claim_in r.new;
      voter = rw (r.old, r.new);
      others = λ other differ. (ap (voter_in (unknown m)) (r.others other differ), ap claim_in (r.others other differ));
      goes_on = search rules;
    }

pub returns-in_default-clause-nobody : goal.returns-in_default-clause-nobody
returns-in_default-clause-nobody c = ap claim_in (not_kept c.args.name.now c.deref.ensures.value c.place_of.ensures c.in_default.is)
