use Rattle.std.proofs.Common.{refl, subst, List, []}
use Rattle.lease_network.specs.Network.{Message}
use Rattle.lease_session.specs.Turns.{Turn}
use Rattle.lease_session.proofs.Calls.{goes_to, said_anew}
use Rattle.lease_session.proofs.process.LeaseProcess.send_to.Goals as goal

pub send-requires : goal.send-requires
send-requires c = goes_to (record c.args.message.now { voter = c.in-Some.voter }) c.args.self.now.terms.machine c.in-Some.voter
    c.requires.body c.requires.client refl

pub returns-in-Some-clause-turn : goal.returns-in-Some-clause-turn
returns-in-Some-clause-turn c = λ now.
    subst (λ (s : List Message). Turn s [] now c.args.self.now c.send.new.self)
    (said_anew c.args.message.now c.in-Some.voter c.requires.body) (c.send.ensures.turn now)
