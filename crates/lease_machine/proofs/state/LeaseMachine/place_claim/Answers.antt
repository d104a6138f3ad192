use Rattle.std.proofs.Common.{rules, refl, ap, inl, arith}
use Rattle.std.specs.Prelude.{Some}
use Rattle.lease_machine.specs.Names.{entry_of}
use Rattle.lease_machine.specs.Machine.{claim_in, unknown}
use Rattle.lease_machine.proofs.Keeping.{added_voter, all_stay, kept_like, kept_needs_none, like_same, name_read, name_within, not_kept}
use Rattle.lease_machine.proofs.Keeping.{same_left, the_claim}
use Rattle.lease_machine.proofs.state.LeaseMachine.place_claim.Goals as goal

pub index_mut-requires : goal.index_mut-requires
index_mut-requires c = omega (arith, name_within c.args.name.now _ c.place_of.ensures c.in-Some.is, c.deref.ensures.len)

pub invariant_of-self : goal.invariant_of-self
invariant_of-self c =
    let m = c.args.self.now in
    let e = c.index_mut.result.now in
    let r = name_read c.args.name.now c.deref.ensures.value c.place_of.ensures c.in-Some.is m.kept.apart e (record e {
      claim = Some c.args.claim;
    }) c.index_mut.ensures.value refl in
    record {
      kept = kept_like m.kept r refl (like_same e.voter e.voter refl) (λ y h. rw (the_claim c.args.claim y h) at c.requires);
      room = m.room;
    }

pub returns-in-Some : goal.returns-in-Some
returns-in-Some c =
    let m = c.args.self.now in
    let e = c.index_mut.result.now in
    let r = name_read c.args.name.now c.deref.ensures.value c.place_of.ensures c.in-Some.is m.kept.apart e (record e {
      claim = Some c.args.claim;
    }) c.index_mut.ensures.value refl in
    record {
      placed = λ _. ap claim_in r.new;
      full = λ no. absurd cc;
      room = λ _ none. kept_needs_none (entry_of c.args.name.now m.names.items) r.old none.0;
      terms = search rules;
      voter = rw (r.old, r.new);
      others = λ other differ. same_left c.args.now (unknown m) (unknown m) (entry_of other m.names.items) _ (inl refl)
          (r.others other differ);
    }

pub add-requires-clause-new : goal.add-requires-clause-new
add-requires-clause-new c = not_kept c.args.name.now c.deref.ensures.value c.place_of.ensures c.in_default.is

pub returns-clause-voter : goal.returns-clause-voter
returns-clause-voter c =
    added_voter c.add.result c.args.self.now c.add.new.self c.args.name.now (record {
      name = c.args.name.now;
      voter = c.unknown.result;
      claim = Some c.args.claim;
    }) c.add.ensures.added (λ no. (c.add.ensures.full no).0)
    (not_kept c.args.name.now c.deref.ensures.value c.place_of.ensures c.in_default.is) c.unknown.ensures

pub returns-clause-full : goal.returns-clause-full
returns-clause-full c = λ no.
    let full = c.add.ensures.full no in (
      all_stay c.args.self.now c.add.new.self full.0,
      (not_kept c.args.name.now c.deref.ensures.value c.place_of.ensures c.in_default.is, full.1),
    )

pub returns-clause-room : goal.returns-clause-room
returns-clause-room c = λ yes none. c.add.ensures.room yes none.1
