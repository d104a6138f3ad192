use Rattle.lease_session.proofs.Pieces.{begun_plain, begun_sealed}
use Rattle.lease_session.proofs.serving.begun.Goals as goal

pub returns-in-Some-clause-begun : goal.returns-in-Some-clause-begun
returns-in-Some-clause-begun g c =
    let plain = c.in_ok-session.ensures.plain in
    let same = c.seal.ensures.same in
    begun_sealed g.S.EpochStore.bound c.in_ok-session.session.participant.process c.seal.new.self.participant.process
    c.in_ok-session.ensures.new c.seal.ensures.process same.0 same.1 same.2 plain.1 plain.2
    c.in-Some.is

pub returns-in-None-clause-begun : goal.returns-in-None-clause-begun
returns-in-None-clause-begun g c =
    let plain = c.in_ok-session.ensures.plain in
    begun_plain g.S.EpochStore.bound c.in_ok-session.session.participant.process c.in_ok-session.ensures.new plain.0 plain.1 plain.2
    c.in-None.is
