use Rattle.std.proofs.Common.{refl}
use Rattle.console_text.proofs.Digits.{pairs_at}
use Rattle.console_text.proofs.words.pair_of.Goals as goal

pub pair_in-requires : goal.pair_in-requires
pair_in-requires c = pairs_at _ refl
