use Rattle.std.proofs.Common.{rules}
use Rattle.node_lock.proofs.Drawing.{next_allowed}
use Rattle.node_lock.proofs.turn_numbers.TurnNumbers.draw.Goals as goal

pub fetch_add-count-requires : goal.fetch_add-count-requires
fetch_add-count-requires c = (search rules, search rules, next_allowed _ _ _)
