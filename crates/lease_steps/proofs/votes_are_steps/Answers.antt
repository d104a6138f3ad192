use Rattle.lease_steps.proofs.Voting.{begun, frees, raised, stands_on, votes}
use Rattle.lease_steps.proofs.votes_are_steps.Goals as goal

pub returns : goal.returns
returns c = record {
  begins = begun;
  raises = raised c.names_stand.ensures.steps;
  votes = votes c.names_stand.ensures.stays c.names_stand.ensures.steps;
  releases = frees c.names_stand.ensures.stays c.names_stand.ensures.steps;
  later = stands_on c.names_stand.ensures.later;
}
