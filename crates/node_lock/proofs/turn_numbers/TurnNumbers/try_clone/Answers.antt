use Rattle.std.proofs.Common.{rules}
use Rattle.node_lock.proofs.Drawing.{another_allowed}
use Rattle.node_lock.proofs.turn_numbers.TurnNumbers.try_clone.Goals as goal

pub split_seat-seat-requires : goal.split_seat-seat-requires
split_seat-seat-requires c = (search rules, search rules, another_allowed _ _)
