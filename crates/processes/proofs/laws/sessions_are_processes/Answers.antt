use Rattle.processes.proofs.Sessions.{first_stands, next_stands, sessions_are_processes}
use Rattle.processes.proofs.laws.sessions_are_processes.Goals as goal

pub returns : goal.returns
returns g c = record {
  fed = sessions_are_processes g.D.SectorDisk.state c.sends_sealed.ensures.served;
  first = first_stands g.D.SectorDisk.state;
  next = next_stands g.D.SectorDisk.state;
}
