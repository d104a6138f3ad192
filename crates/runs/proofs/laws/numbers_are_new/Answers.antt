use Rattle.runs.proofs.Numbers.{given_at_one_place, later_is_greater, named_was_given}
use Rattle.runs.proofs.laws.numbers_are_new.Goals as goal

pub returns : goal.returns
returns c = record { once = given_at_one_place; greater = later_is_greater; named = named_was_given }
