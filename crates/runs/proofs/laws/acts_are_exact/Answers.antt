use Rattle.runs.proofs.Exact.{all_acts_run, no_idle_denial, one_outcome, runs_of_slots}
use Rattle.runs.proofs.laws.acts_are_exact.Goals as goal

pub returns : goal.returns
returns c = record { runs = all_acts_run; network = no_idle_denial; node = one_outcome; slots = runs_of_slots }
