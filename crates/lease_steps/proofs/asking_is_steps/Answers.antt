use Rattle.lease_steps.proofs.Asking.{asked, claimed, heard, stopped, withdrawn}
use Rattle.lease_steps.proofs.asking_is_steps.Goals as goal

pub returns : goal.returns
returns c = record {
  claims = claimed c.names_stand.ensures.stays;
  withdraws = withdrawn;
  asks = asked;
  hears = heard;
  stops = stopped;
}
