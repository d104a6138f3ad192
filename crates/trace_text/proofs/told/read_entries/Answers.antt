use Rattle.std.proofs.Common.{◌++◌, List, Option, option_map, sym, ap, arith, append-nil}
use Rattle.trace_text.specs.Tellings.{TellingData, entries_told, telling_by, told_in}
use Rattle.trace_text.proofs.Heard.{more_items}
use Rattle.trace_text.proofs.Walks.{item_missing, item_on, items_begun, items_done}
use Rattle.trace_text.proofs.told.read_entries.Goals as goal

pub entries-init : goal.entries-init
entries-init c = items_begun 124 entries_told _ c.args.reader.now
    (λ ds. ap (λ (xs : List (Option TellingData)). xs ++ entries_told ds) (sym c.new-tellings.ensures))

pub returns-in_err-told-clause-err : goal.returns-in_err-told-clause-err
returns-in_err-told-clause-err c = λ _. item_missing c.take_end_array.new.self c.entries.invariant (grind arith)
    c.in_err-told.ensures.value

pub entries-preserved : goal.entries-preserved
entries-preserved c =
    let l = c.entries in
    let read = c.in_ok-told.ensures in
    let x = option_map telling_by c.in_ok-told.told in
    item_on c.take_end_array.new.self l.invariant (grind arith) told_in (λ ds. c.push.new.self ++ entries_told ds) read.value read.shorter
    (λ d ds is. more_items l.tellings c.push.new.self (entries_told ds) x (told_in d) is c.in_ok-push.ensures)

pub returns-clause-ok : goal.returns-clause-ok
returns-clause-ok c = let l = c.entries in items_done c.take_end_array.new.self l.invariant (grind arith) (append-nil l.tellings)
