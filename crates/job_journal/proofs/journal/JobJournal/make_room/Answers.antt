use Rattle.job_journal.proofs.Common.{refl}
use Rattle.job_journal.proofs.Changes.{still_since}
use Rattle.job_journal.proofs.Numbers.{still_numbered}
use Rattle.job_journal.proofs.journal.JobJournal.make_room.Goals as goal

pub returns-then-self-clause-after : goal.returns-then-self-clause-after
returns-then-self-clause-after g c = λ honest all ok. (c.compact.ensures.after honest ok).holds all

pub returns-then-self-clause-spelled : goal.returns-then-self-clause-spelled
returns-then-self-clause-spelled g c = λ honest ok full.
    (c.compact.ensures.after honest ok).spelled _ (record { size = refl; same = λ at synced. refl })

pub returns-clause-images : goal.returns-clause-images
returns-clause-images g c = λ honest all.
    still_since c.args.self.now _ honest (g.met.D.SectorDisk.laws c.args.disk.now honest) all

pub returns-clause-numbered : goal.returns-clause-numbered
returns-clause-numbered g c = λ honest all.
    still_numbered c.args.self.now _ honest (g.met.D.SectorDisk.laws c.args.disk.now honest) all
