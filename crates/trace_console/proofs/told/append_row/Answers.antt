use Rattle.std.proofs.Common.{None, ◌-◌, length}
use Rattle.std.proofs.lemmas.Result.{on_ok_weaker}
use Rattle.trace_console.proofs.Thens.{then_behind}
use Rattle.trace_console.proofs.told.append_row.Goals as goal

pub returns : goal.returns
returns c =
    let row = c.args.row.now in
    let many = c.args.many in
    on_ok_weaker c.append_tellings.result (λ joined. then_behind None many (many - length row) row c.args.more.now c.pad_row.new.row
    c.append_tellings.new.row c.in_ok-pad_row.ensures.padded c.in_ok-pad_row.ensures.length joined) c.append_tellings.ensures
