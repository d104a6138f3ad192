use Rattle.std.proofs.Common.{sym, ◌∙◌}
use Rattle.lease_message.proofs.Messages.{one_message}
use Rattle.lease_message.proofs.laws.one_spelling.Goals as goal

pub returns-clause-bytes : goal.returns-clause-bytes
returns-clause-bytes c = λ m a b s t. s.spelled ∙ sym t.spelled

pub returns-clause-message : goal.returns-clause-message
returns-clause-message c = one_message
