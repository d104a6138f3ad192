use Rattle.std.proofs.Common.{◌≡◌, ◌∙◌, IfOk, ap, subst}
use Rattle.console_text.specs.Ends.{Printout, printout_of}
use Rattle.node_store.specs.Store.{slots_for}
use Rattle.store_console.specs.Held.{counter_of, found_in, journal_of}
use Rattle.store_console.proofs.Finding.{found_is}
use Rattle.store_console.proofs.inspecting.inspection.Goals as goal

pub returns-clause-found : goal.returns-clause-found
returns-clause-found c =
    let image = c.args.disk.now.contents in
    let slots = c.slots_of-slots.result in
    let first = c.in_ok-used.ensures.kept in
    let second = c.in_ok-counter.ensures.kept ∙ first in
    subst (λ (o : Printout). IfOk c.described.result (λ p. printout_of p ≡ o))
    (found_is c.args.owner image slots c.in_ok-used.used c.in_ok-counter.counter (found_in c.in_ok-journal.journal)
    (c.slots_of-slots.ensures.value ∙ ap slots_for c.sectors.ensures) c.in_ok-used.ensures.found
    (c.in_ok-counter.ensures.found ∙ ap counter_of first) (c.in_ok-journal.ensures.found ∙ ap (λ d. journal_of slots d) second))
    c.described.ensures

pub returns-clause-kept : goal.returns-clause-kept
returns-clause-kept c = c.in_ok-journal.ensures.kept ∙ c.in_ok-counter.ensures.kept ∙ c.in_ok-used.ensures.kept
