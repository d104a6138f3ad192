-- Steps of three machines, in which leases of two names are held, one after the other.
use Rattle.std.proofs.Common.{◌≡◌, List, [], ◌∷◌, get_or, refl, ap, arith}
use Rattle.lease_runs.specs.Voter.{Client}
use Rattle.lease_network.specs.Network.{request, grant, release, begins, reserves, sends, takes, Step, Terms, ask_at}
use Rattle.lease_network.specs.Laws.{LeasesHappen}
use Rattle.lease_network.proofs.Witness.{ann, are_steps, bob, cid, new, on, proof, x, y}

abbrev terms : Terms
terms = record { nodes = 3; keeps = 160; relies_for = 150; clock = λ machine boot t. t; grain = 5 }

-- the newest first
abbrev steps : List Step
steps =
    on 402 ann (takes (grant y ann 1 1))
    ∷ on 402 ann (takes (grant y ann 1 0))
    ∷ on 401 new (takes (request y ann 1 9))
    ∷ on 401 ann (takes (request y ann 1 9))
    ∷ on 400 ann (sends (request y ann 1 9))
    ∷ on 231 ann (reserves 16)
    ∷ on 231 new (reserves 16)
    ∷ on 230 new (begins 8)
    ∷ on 221 bob (takes (grant x bob 1 1))
    ∷ on 221 bob (takes (grant x bob 1 0))
    ∷ on 220 bob (takes (request x bob 1 2))
    ∷ on 220 ann (takes (request x bob 1 2))
    ∷ on 219 bob (sends (request x bob 1 2))
    ∷ on 211 bob (takes (release x ann 1))
    ∷ on 211 ann (takes (release x ann 1))
    ∷ on 210 ann (sends (release x ann 1))
    ∷ on 204 bob (takes (grant y bob 1 1))
    ∷ on 204 bob (takes (grant y bob 1 0))
    ∷ on 203 bob (takes (request y bob 1 2))
    ∷ on 203 ann (takes (request y bob 1 2))
    ∷ on 202 bob (sends (request y bob 1 2))
    ∷ on 201 ann (takes (grant x ann 1 1))
    ∷ on 201 ann (takes (grant x ann 1 0))
    ∷ on 200 bob (takes (request x ann 1 1))
    ∷ on 200 ann (takes (request x ann 1 1))
    ∷ on 199 ann (sends (request x ann 1 1))
    ∷ on 0 bob (reserves 8)
    ∷ on 0 ann (reserves 8)
    ∷ on 0 cid (begins 0)
    ∷ on 0 bob (begins 0)
    ∷ on 0 ann (begins 0)
    ∷ []

pub leases_happen : LeasesHappen
leases_happen = record {
  terms = terms;
  steps = steps;
  three = refl;
  are = proof (are_steps terms steps) refl;
  clocks = record { rates = λ machine boot s t le. (omega (arith, le), omega (arith, le)); margin = omega arith };
  x = x;
  y = y;
  names = λ same. (let bad : 120 ≡ 121 = ap (λ n. get_or n 0 0) same in omega (arith, bad));
  c = ann;
  d = bob;
  others = λ same. (let bad : 0 ≡ 1 = ap (λ (z : Client). z.machine) same in omega (arith, bad));
  first = (201, ask_at ann 1 1 199, record { running = refl; lease = refl; in_time = refl });
  other = (204, ask_at bob 1 2 202, omega arith, record { running = refl; lease = refl; in_time = refl });
  handed_over = (221, ask_at bob 1 2 219, omega arith, record { running = refl; lease = refl; in_time = refl });
  began_anew = (230, 1, omega arith, refl, λ same. (let bad : 0 ≡ 1 = same in omega (arith, bad)));
  taken_over = (402, ask_at ann 1 9 400, omega arith, record { running = refl; lease = refl; in_time = refl });
}
