use Rattle.node_session.proofs.Handed.{messages_sealed, sends_sealed}
use Rattle.node_session.proofs.laws.sends_sealed.Goals as goal

pub returns-clause-served : goal.returns-clause-served
returns-clause-served g c = sends_sealed g.D.SectorDisk.state c.numbers.ensures.spelled

pub returns-clause-line : goal.returns-clause-line
returns-clause-line g c = messages_sealed c.numbers.ensures.spelled
