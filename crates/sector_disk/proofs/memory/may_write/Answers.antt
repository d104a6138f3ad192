use Rattle.std.proofs.Common.{◌∙◌, sym}
use Rattle.sector_disk.proofs.memory.may_write.Goals as goal

pub returns-clause-noted : goal.returns-clause-noted
returns-clause-noted c = λ noted. c.note.ensures.ok (sym c.is_ok.ensures.value ∙ noted)
