use Rattle.node_session.proofs.Histories.{one}
use Rattle.node_session.proofs.laws.one_history.Goals as goal

pub returns : goal.returns
returns c = λ self nodes slots a lines all came going. one self nodes slots a lines all came going
