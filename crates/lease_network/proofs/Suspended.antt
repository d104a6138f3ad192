-- Steps of three machines, the clock of one of which stands: two processes hold one lease.
use Rattle.std.proofs.Common.{◌≡◌, List, [], ◌∷◌, refl, ap, arith}
use Rattle.std.specs.Prelude.{◌==◌, min, if◌then◌else◌}
use Rattle.lease_runs.specs.Voter.{Client}
use Rattle.lease_network.specs.Network.{request, grant, begins, reserves, sends, takes, Step, Terms, ask_at}
use Rattle.lease_network.specs.Laws.{TwoMayHold}
use Rattle.lease_network.proofs.Witness.{ann, are_steps, bob, cid, on, proof, x}

-- Ann's machine is suspended from 200 on
abbrev terms : Terms
terms = record { nodes = 3; keeps = 160; relies_for = 150; clock = λ machine boot t. if machine == 0 then min t 200 else t; grain = 5 }

-- the newest first
abbrev steps : List Step
steps =
    on 402 bob (takes (grant x bob 1 2))
    ∷ on 402 bob (takes (grant x bob 1 1))
    ∷ on 401 cid (takes (request x bob 1 2))
    ∷ on 401 bob (takes (request x bob 1 2))
    ∷ on 400 bob (sends (request x bob 1 2))
    ∷ on 201 ann (takes (grant x ann 1 2))
    ∷ on 201 ann (takes (grant x ann 1 1))
    ∷ on 200 cid (takes (request x ann 1 1))
    ∷ on 200 bob (takes (request x ann 1 1))
    ∷ on 199 ann (sends (request x ann 1 1))
    ∷ on 0 cid (reserves 8)
    ∷ on 0 bob (reserves 8)
    ∷ on 0 cid (begins 0)
    ∷ on 0 bob (begins 0)
    ∷ on 0 ann (begins 0)
    ∷ []

pub two_may_hold : TwoMayHold
two_may_hold = record {
  terms = terms;
  steps = steps;
  are = proof (are_steps terms steps) refl;
  margin = omega arith;
  name = x;
  time = 402;
  c = ann;
  d = bob;
  others = λ same. (let bad : 0 ≡ 1 = ap (λ (z : Client). z.machine) same in omega (arith, bad));
  first = (ask_at ann 1 1 199, record { running = refl; lease = refl; in_time = refl });
  second = (ask_at bob 1 2 400, record { running = refl; lease = refl; in_time = refl });
}
