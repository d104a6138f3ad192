use Rattle.lease_session.proofs.Pieces.{new_sound}
use Rattle.lease_session.proofs.serving.serve_leases.Goals as goal

pub serve-requires-clause-going : goal.serve-requires-clause-going
serve-requires-clause-going g c = c.in_ok-session.ensures.begun.is_new.1

pub serve-requires-clause-clear : goal.serve-requires-clause-clear
serve-requires-clause-clear g c = c.in_ok-session.ensures.begun.silent

pub serve-requires-clause-sound : goal.serve-requires-clause-sound
serve-requires-clause-sound g c = new_sound _ c.in_ok-session.ensures.begun.is_new

pub returns : goal.returns
returns g c = record {
  old = _;
  begun = c.in_ok-session.ensures.begun;
  numbered = g.W.Write.contents c.write_first.new.output;
  first = c.in_ok-write_first.ensures;
  served = c.in_ok-end.ensures;
}
