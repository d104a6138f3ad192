use Rattle.histories.proofs.Others.{each_goes_out}
use Rattle.histories.proofs.OwnMessages.{senders}
use Rattle.histories.proofs.laws.senders.Goals as goal

pub returns : goal.returns
returns c = record { own = senders; goes_out = each_goes_out }
