use Rattle.std.proofs.Common.{inl, arith, refl}
use Rattle.lease_file.proofs.Cells.{time_raised}
use Rattle.lease_file.proofs.Clauses.{keep_leaves, still_has}
use Rattle.lease_file.proofs.file.LeaseFile.keep.Goals as goal

pub invariant_of-self : goal.invariant_of-self
invariant_of-self g c =
    time_raised c.args.keeps c.self.invariant c.raise_to.ensures.counts (c.in-Ok.ensures.ok refl) c.raise_to.ensures.run (λ h stand.
    (c.in-Ok.ensures.after 4 h c.self.invariant.second stand refl).1) (λ h. c.in-Ok.ensures.synced h refl)

pub returns-in-Ok-clause-writes : goal.returns-in-Ok-clause-writes
returns-in-Ok-clause-writes g c =
    let left = keep_leaves g.D.SectorDisk.state c.args.keeps c.self.view_is c.self.invariant (omega arith) c.raise_to.ensures.counts.honest
    c.raise_to.ensures.run (c.raise_to.ensures.images 4) in record { counts = grind arith; run = left.run; device = grind arith }

pub returns-in-Ok-clause-images : goal.returns-in-Ok-clause-images
returns-in-Ok-clause-images g c = λ honest.
    (keep_leaves g.D.SectorDisk.state c.args.keeps c.self.view_is c.self.invariant (omega arith) c.raise_to.ensures.counts.honest
    c.raise_to.ensures.run (c.raise_to.ensures.images 4)).images honest c.requires.whole

pub returns-in-Err-clause-writes : goal.returns-in-Err-clause-writes
returns-in-Err-clause-writes g c =
    let left = keep_leaves g.D.SectorDisk.state c.args.keeps c.self.view_is c.self.invariant (omega arith) c.raise_to.ensures.counts.honest
    c.raise_to.ensures.run (c.raise_to.ensures.images 4) in record { counts = grind arith; run = left.run; device = grind arith }

pub returns-in-Err-clause-images : goal.returns-in-Err-clause-images
returns-in-Err-clause-images g c = λ honest.
    (keep_leaves g.D.SectorDisk.state c.args.keeps c.self.view_is c.self.invariant (omega arith) c.raise_to.ensures.counts.honest
    c.raise_to.ensures.run (c.raise_to.ensures.images 4)).images honest c.requires.whole

pub returns-then-keeps-value-clause-images : goal.returns-then-keeps-value-clause-images
returns-then-keeps-value-clause-images g c = λ honest i since.
    inl (still_has g.D.SectorDisk.state g.met.D.SectorDisk.laws c.self.view_is c.self.invariant honest c.requires.whole i since)
