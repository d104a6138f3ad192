use Rattle.std.proofs.Common.{arith, refl}
use Rattle.lease_file.proofs.Cells.{count_raised, lasts}
use Rattle.lease_file.proofs.Clauses.{honest_was, still_honest, take_leaves, whole_was}
use Rattle.lease_file.proofs.file.LeaseFile.take.Goals as goal

pub invariant_of-self : goal.invariant_of-self
invariant_of-self g c =
    count_raised c.args.count c.self.invariant c.raise_to.ensures.counts (c.in-Ok.ensures.ok refl) c.raise_to.ensures.run (λ h stand.
    (c.in-Ok.ensures.after 0 h c.self.invariant.first stand refl).1) (λ h. c.in-Ok.ensures.synced h refl)

pub returns-in-Ok-clause-writes : goal.returns-in-Ok-clause-writes
returns-in-Ok-clause-writes g c =
    let left = take_leaves g.D.SectorDisk.state c.args.count c.self.view_is c.self.invariant c.raise_to.ensures.counts.honest
    c.raise_to.ensures.run (c.raise_to.ensures.images 0) in record { counts = grind arith; run = left.run; device = grind arith }

pub returns-in-Ok-clause-images : goal.returns-in-Ok-clause-images
returns-in-Ok-clause-images g c = λ honest.
    (take_leaves g.D.SectorDisk.state c.args.count c.self.view_is c.self.invariant c.raise_to.ensures.counts.honest c.raise_to.ensures.run
    (c.raise_to.ensures.images 0)).images honest c.requires.whole

pub returns-in-Err-clause-writes : goal.returns-in-Err-clause-writes
returns-in-Err-clause-writes g c =
    let left = take_leaves g.D.SectorDisk.state c.args.count c.self.view_is c.self.invariant c.raise_to.ensures.counts.honest
    c.raise_to.ensures.run (c.raise_to.ensures.images 0) in record { counts = grind arith; run = left.run; device = grind arith }

pub returns-in-Err-clause-images : goal.returns-in-Err-clause-images
returns-in-Err-clause-images g c = λ honest.
    (take_leaves g.D.SectorDisk.state c.args.count c.self.view_is c.self.invariant c.raise_to.ensures.counts.honest c.raise_to.ensures.run
    (c.raise_to.ensures.images 0)).images honest c.requires.whole

pub returns-in-Ok-clause-lasts : goal.returns-in-Ok-clause-lasts
returns-in-Ok-clause-lasts g c = λ honest ok.
    let h = honest_was g.D.SectorDisk.state c.self.view_is honest in
    lasts (count_raised c.args.count c.self.invariant c.raise_to.ensures.counts (c.in-Ok.ensures.ok refl) c.raise_to.ensures.run (λ h stand.
    (c.in-Ok.ensures.after 0 h c.self.invariant.first stand refl).1) (λ h. c.in-Ok.ensures.synced h refl))
    (still_honest c.raise_to.ensures.counts h) (whole_was c.self.view_is c.requires.whole)
