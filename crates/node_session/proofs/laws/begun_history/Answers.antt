use Rattle.node_session.proofs.Histories.{begun_one}
use Rattle.node_session.proofs.laws.begun_history.Goals as goal

pub returns : goal.returns
returns c = λ self nodes slots a line lines mounted what turns due all of
    going goes same. begun_one self nodes slots a line lines mounted what turns due all of going goes same
