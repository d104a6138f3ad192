use Rattle.node_lock.proofs.Drawing.{none_drawn}
use Rattle.node_lock.proofs.turn_numbers.TurnNumbers.new.Goals as goal

pub of_words-requires : goal.of_words-requires
of_words-requires c = none_drawn
