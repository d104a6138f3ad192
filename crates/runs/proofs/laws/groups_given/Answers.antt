use Rattle.runs.proofs.Runs.{runs_are_bundles}
use Rattle.runs.proofs.RunBooks.{run_book}
use Rattle.runs.proofs.Given.{given_before, none_twice}
use Rattle.runs.proofs.laws.groups_given.Goals as goal

pub returns : goal.returns
returns c = record { bundles = runs_are_bundles; before = given_before; once = none_twice; book = run_book }
