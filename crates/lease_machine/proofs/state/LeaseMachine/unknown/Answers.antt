use Rattle.std.proofs.Common.{◌≡◌, None, refl, ap, ◌∙◌, arith}
use Rattle.lease_runs.specs.declared.voter.LeaseVoter.{LeaseVoter}
use Rattle.lease_runs.specs.Voter.{opening}
use Rattle.lease_machine.proofs.Keeping.{voter_same, raised_is}
use Rattle.lease_machine.proofs.state.LeaseMachine.unknown.Goals as goal

-- the voter that restarted
pub raise-requires : goal.raise-requires
raise-requires c =
    let view_is = c.restart-voter.ensures.begins (opening (λ boot at. 0)) (λ boot at. c.args.self.now.began) 0 0 refl in
    omega (arith, ap (λ x. x.bound) view_is, c.args.self.now.kept.floor_allowed)

pub returns : goal.returns
returns c =
    let m = c.args.self.now in
    let restarted : LeaseVoter = record {
      keeps = m.terms.keeps;
      bound = m.floor;
      began = m.began;
      last = m.floor;
      holder = None;
      ends = 0;
    } in
    let view_is = c.restart-voter.ensures.begins (opening (λ boot at. 0)) (λ boot at. m.began) 0 0 refl in
    let is : c.restart-voter.result ≡ restarted = voter_same c.restart-voter.result restarted (c.restart-voter.ensures.keeps
    ∙ c.keeps.ensures.value) view_is in
    raised_is c.restart-voter.result c.raise.new.self m.bound (c.raise.ensures 0) ∙ ap (λ (v : LeaseVoter). record v { bound = m.bound }) is
