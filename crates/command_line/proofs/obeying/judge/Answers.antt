use Rattle.command_line.proofs.Endings.{records_end}
use Rattle.command_line.proofs.obeying.judge.Goals as goal

pub returns : goal.returns
returns g c =
    records_end c.args.stage _ _ _ c.in-Some.files.items c.trace_files-ended.result.ending c.tell.result
    (rw c.in-Some.is at c.in_ok-files.ensures)
    (rw c.deref.ensures.value at c.trace_files-ended.ensures.prints) c.tell.ensures
