use Rattle.std.proofs.Common.{ap}
use Rattle.lease_session.specs.Served.{HasOtherText}
use Rattle.lease_session.proofs.Pieces.{cleared_so}
use Rattle.lease_session.proofs.serving.write_out.Goals as goal

pub returns-clause-same : goal.returns-clause-same
returns-clause-same g c = cleared_so g.S.EpochStore.bound c.args.session.now.participant.process c.clear.new.self.participant.process
    c.clear.ensures.process c.clear.ensures.same.0 c.clear.ensures.same.1
    c.clear.ensures.same.2
