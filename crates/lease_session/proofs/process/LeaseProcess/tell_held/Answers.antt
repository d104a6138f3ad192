use Rattle.std.proofs.Common.{◌≡◌, Some, List, rules, arith, refl, subst, inl, inr, ◌∙◌}
use Rattle.lease_session.specs.declared.told.Told.{Told}
use Rattle.lease_session.specs.Holding.{last_told}
use Rattle.lease_session.proofs.Calls.{held_row, none_is}
use Rattle.lease_session.proofs.Saying.{news_of_it, none_held, told_held}
use Rattle.lease_session.proofs.process.LeaseProcess.tell_held.Goals as goal

pub returns-in_default-held : goal.returns-in_default-held
returns-in_default-held c = record {
  quiet = record { machine = refl; terms = refl; start = refl; key = refl };
  said = inr (inl (record {
    same_halt = refl;
    same_text = refl;
    same_told = refl;
    is_so = λ going. none_held c.args.now c.args.name.now c.args.self.now c.in-Some.machine c.in-Some.is
        (c.held.ensures.none (search rules));
  }));
}

pub returns-then-is_told : goal.returns-then-is_told
returns-then-is_told c = record {
  quiet = record { machine = refl; terms = refl; start = refl; key = refl };
  said = inr (inl (record {
    same_halt = refl;
    same_text = refl;
    same_told = refl;
    is_so = λ going.
        told_held c.args.now c.args.name.now c.args.self.now c.in-Some.machine c.in-Some-claimed.claim.now c.in-Some-held.request
        c.in-Some-checked_add.until c.in-Some.is
        c.in-Some-claimed.ensures.some c.in-Some-held.ensures.held (omega (
          arith,
          c.in-Some-checked_add.ensures,
          c.relies_for.ensures.value,
        ))
        (subst (λ (ts : List Told). last_told c.args.name.now ts
        ≡ Some (record {
          name = c.args.name.now;
          user = c.in-Some-claimed.claim.now.user;
          epoch = c.in-Some-held.request.epoch;
          until =
              c.in-Some-checked_add.until;
        }))
        c.deref.ensures.value (c.is_told.ensures c.if-is_told.true));
  }));
}

pub returns-in-Ok : goal.returns-in-Ok
returns-in-Ok c = record {
  quiet = record {
    machine = c.say_held.ensures.quiet.machine;
    terms = c.say_held.ensures.quiet.terms;
    start = c.say_held.ensures.quiet.start;
    key = c.say_held.ensures.quiet.key;
  };
  said = inr (inr (record {
    user = c.in-Some-claimed.claim.now.user;
    epoch = c.in-Some-held.request.epoch;
    until = c.in-Some-checked_add.until;
    going = none_is c.args.self.now.halt c.is_some.ensures c.if-is_some.false;
    goes_on = c.say_held.ensures.halt ∙ none_is c.args.self.now.halt c.is_some.ensures c.if-is_some.false;
    text = c.in-Ok.ensures.said;
    told = c.in-Ok.ensures.told;
    holds = λ terms at m clock is. held_row c.args.self.now c.in-Some.machine c.in-Some.is c.in-Some-held.ensures.held
        (omega (arith, c.in-Some-checked_add.ensures, c.relies_for.ensures.value)) terms at m clock is;
    is_so = news_of_it c.args.now c.args.name.now c.args.self.now c.in-Some.machine c.in-Some-claimed.claim.now c.in-Some-held.request
        c.in-Some-checked_add.until c.in-Some.is
        c.in-Some-claimed.ensures.some c.in-Some-held.ensures.held (omega (
          arith,
          c.in-Some-checked_add.ensures,
          c.relies_for.ensures.value,
        ));
  }));
}
