use Rattle.histories.proofs.Growing.{history_goes_on, slots_go_on}
use Rattle.histories.proofs.laws.goes_on.Goals as goal

pub returns : goal.returns
returns c = record { history = history_goes_on; slots = slots_go_on }
