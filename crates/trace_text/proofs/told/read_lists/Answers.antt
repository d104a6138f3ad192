use Rattle.std.proofs.Common.{◌++◌, sym, ap, arith, append-nil}
use Rattle.trace_text.specs.Tellings.{TellingsData, history_told, lists_told}
use Rattle.trace_text.proofs.Heard.{more_items}
use Rattle.trace_text.proofs.Walks.{item_missing, item_on, items_begun, items_done}
use Rattle.trace_text.proofs.told.read_lists.Goals as goal

pub lists-init : goal.lists-init
lists-init c = items_begun 125 lists_told _ c.args.reader.now
    (λ ds. ap (λ (xs : TellingsData). xs ++ lists_told ds) (sym c.new-told.ensures.items))

pub returns-in_err-tellings-clause-err : goal.returns-in_err-tellings-clause-err
returns-in_err-tellings-clause-err c = λ refused. item_missing c.take_end_array.new.self c.lists.invariant (grind arith)
    (c.in_err-tellings.ensures.err (grind (arith, refused)))

pub lists-preserved : goal.lists-preserved
lists-preserved c =
    let l = c.lists in
    let read = c.in_ok-tellings.ensures in
    let new = c.push_reserved.new.self.items in
    item_on c.take_end_array.new.self l.invariant (grind arith) history_told (λ ds. new ++ lists_told ds) read.ok read.shorter
    (λ d ds is. more_items l.told.items new (lists_told ds) c.in_ok-tellings.tellings (history_told d) is (grind arith))

pub returns-clause-ok : goal.returns-clause-ok
returns-clause-ok c = let l = c.lists in items_done c.take_end_array.new.self l.invariant (grind arith) (append-nil l.told.items)
