use Rattle.lease_session.proofs.Feeding.{cutting}
use Rattle.lease_session.proofs.laws.any_cutting.Goals as goal

pub returns : goal.returns
returns c = cutting
