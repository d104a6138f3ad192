use Rattle.std.proofs.Common.{refl, sym, ◌∙◌}
use Rattle.line_words.proofs.Pairs.{none_read}
use Rattle.line_words.proofs.digits.decode_pairs.Goals as goal

pub returns-then-not-are_digits : goal.returns-then-not-are_digits
returns-then-not-are_digits c = rw (none_read c.args.digits.now (sym c.are_digits.ensures ∙ c.if-not-are_digits.true)) refl
