use Rattle.std.proofs.Common.{rules, refl, ap, ◌∙◌, inl, arith}
use Rattle.lease_runs.specs.declared.voter.LeaseVoter.{LeaseVoter}
use Rattle.lease_machine.specs.Names.{entry_of}
use Rattle.lease_machine.specs.Machine.{unknown}
use Rattle.lease_machine.proofs.Keeping.{asked_like, entry_at, kept_like, kept_needs_none, name_read, name_within, not_kept, same_left}
use Rattle.lease_machine.proofs.Keeping.{unchanged}
use Rattle.lease_machine.proofs.state.LeaseMachine.vote.Goals as goal

-- ---- a name of which nothing is kept

pub add-requires-clause-new : goal.add-requires-clause-new
add-requires-clause-new c = not_kept c.args.name.now c.deref.ensures.value c.place_of.ensures c.in_default.is

pub add-requires-clause-fits : goal.add-requires-clause-fits
add-requires-clause-fits c =
    let m = c.args.self.now in
    let v = c.unknown-voter.result in
    let is = c.unknown-voter.ensures in
    let like = asked_like v c.ask.new.self c.args.now c.args.client c.args.epoch c.ask.result c.ask.ensures.grants c.ask.ensures.same in
    record {
      keeps = like.keeps ∙ ap (λ (x : LeaseVoter). x.keeps) is;
      since = like.began ∙ ap (λ (x : LeaseVoter). x.began) is;
      allowed = like.bound ∙ ap (λ (x : LeaseVoter). x.bound) is;
      last = omega (
        arith,
        ap (λ (x : LeaseVoter). x.bound) is,
        like.last (omega (arith, ap (λ (x : LeaseVoter). x.bound) is, ap (λ (x : LeaseVoter). x.last) is, m.kept.floor_allowed)),
      );
      claim = λ x e. absurd cc;
    }

pub returns-then-add-clause-granted : goal.returns-then-add-clause-granted
returns-then-add-clause-granted c = λ _ number sent.
    let none = not_kept c.args.name.now c.deref.ensures.value c.place_of.ensures c.in_default.is in
    rw (none, c.add.ensures.added c.if-add.true) (rw c.unknown-voter.ensures at (c.ask.ensures.grants c.if-not-ask.false number sent))

pub returns-then-add-clause-claim : goal.returns-then-add-clause-claim
returns-then-add-clause-claim c =
    let none = not_kept c.args.name.now c.deref.ensures.value c.place_of.ensures c.in_default.is in
    rw (none, c.add.ensures.added c.if-add.true)

pub returns-then-add-clause-room : goal.returns-then-add-clause-room
returns-then-add-clause-room c = λ _ none. c.add.ensures.room c.if-add.true none.1

pub returns-in_default-clause-full : goal.returns-in_default-clause-full
returns-in_default-clause-full c = λ _.
    let none = not_kept c.args.name.now c.deref.ensures.value c.place_of.ensures c.in_default.is in
    let full = c.add.ensures.full c.if-add.false in
    let h = c.ask.ensures.grants c.if-not-ask.false 0 0 (λ boot at. c.args.now) 0 0 refl in
    (full.0, (none, full.1), rw none (rw c.unknown-voter.ensures at h.0))

pub returns-then-not-ask-clause-refused : goal.returns-then-not-ask-clause-refused
returns-then-not-ask-clause-refused c = λ _.
    let none = not_kept c.args.name.now c.deref.ensures.value c.place_of.ensures c.in_default.is in
    (λ other. (refl, refl), rw none (rw c.unknown-voter.ensures at (c.ask.ensures.refuses c.if-not-ask.true)))

-- ---- a name that is kept

pub index_mut-requires : goal.index_mut-requires
index_mut-requires c = omega (arith, name_within c.args.name.now _ c.place_of.ensures c.in-Some.is, c.deref.ensures.len)

pub ask-requires-2 : goal.ask-requires-2
ask-requires-2 c =
    let m = c.args.self.now in
    let e = c.index_mut.result.now in
    let r = name_read c.args.name.now c.deref.ensures.value c.place_of.ensures c.in-Some.is m.kept.apart e e c.index_mut.ensures.value refl
    in
    omega (arith, c.requires, (entry_at m.kept c.in-Some.place e r.at).keeps, m.terms.fits)

pub invariant_of-self : goal.invariant_of-self
invariant_of-self c =
    let m = c.args.self.now in
    let e = c.index_mut.result.now in
    let r = name_read c.args.name.now c.deref.ensures.value c.place_of.ensures c.in-Some.is m.kept.apart e (record e {
      voter = c.ask-2.new.self;
    }) c.index_mut.ensures.value refl in
    record {
      kept = kept_like m.kept r refl (asked_like e.voter c.ask-2.new.self c.args.now c.args.client c.args.epoch c.ask-2.result
          c.ask-2.ensures.grants c.ask-2.ensures.same) (entry_at m.kept c.in-Some.place e r.at).claim;
      room = m.room;
    }

pub returns-then-ask : goal.returns-then-ask
returns-then-ask c =
    let m = c.args.self.now in
    let e = c.index_mut.result.now in
    let r = name_read c.args.name.now c.deref.ensures.value c.place_of.ensures c.in-Some.is m.kept.apart e (record e {
      voter = c.ask-2.new.self;
    }) c.index_mut.ensures.value refl in
    record {
      granted = λ _ number sent. rw (r.old, r.new) (c.ask-2.ensures.grants c.if-ask.true number sent);
      refused = λ no. absurd cc;
      full = λ no. absurd cc;
      room = λ _ none. kept_needs_none (entry_of c.args.name.now m.names.items) r.old none.0;
      others = λ other differ. same_left c.args.now (unknown m) (unknown m) (entry_of other m.names.items) _ (inl refl)
          (r.others other differ);
      claim = rw (r.old, r.new);
      goes_on = search rules;
    }

pub returns-else-ask : goal.returns-else-ask
returns-else-ask c =
    let m = c.args.self.now in
    let e = c.index_mut.result.now in
    let r = name_read c.args.name.now c.deref.ensures.value c.place_of.ensures c.in-Some.is m.kept.apart e (record e {
      voter = c.ask-2.new.self;
    }) c.index_mut.ensures.value refl in
    record {
      granted = λ no. absurd cc;
      refused = λ _. (
        unchanged (unknown m) r (ap (λ (v : LeaseVoter). record e { voter = v }) (c.ask-2.ensures.same c.if-ask.false)),
        rw r.old (c.ask-2.ensures.refuses c.if-ask.false),
      );
      full = λ no. absurd cc;
      room = λ no. absurd cc;
      others = λ other differ. same_left c.args.now (unknown m) (unknown m) (entry_of other m.names.items) _ (inl refl)
          (r.others other differ);
      claim = rw (r.old, r.new);
      goes_on = search rules;
    }
