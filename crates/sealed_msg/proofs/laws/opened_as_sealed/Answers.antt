use Rattle.std.proofs.Common.{◌∙◌, ap}
use Rattle.sealed_msg.specs.Sealing.{opened}
use Rattle.sealed_msg.proofs.Openings.{opened_sealed, sealed_opens}
use Rattle.sealed_msg.proofs.laws.opened_as_sealed.Goals as goal

pub returns : goal.returns
returns c = λ key bytes message stamp fit life number.
    (opened_sealed key bytes message stamp fit, λ e. ap (opened key) e ∙ sealed_opens key message stamp life number)
