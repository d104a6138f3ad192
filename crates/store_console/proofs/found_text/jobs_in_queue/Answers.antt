use Rattle.std.proofs.Common.{◌+◌, ◌∙◌, ap, sym}
use Rattle.store_console.proofs.Queues.{counted_yes, counted_no}
use Rattle.store_console.proofs.found_text.jobs_in_queue.Goals as goal
use Rattle.store_console.proofs.found_text.jobs_in_queue.Goals.{then-number-queue, else-number-queue}

pub loop-at-preserved : goal.loop-at-preserved
loop-at-preserved c =
    let there = sym c.get.ensures ∙ c.unwrap.ensures in
    let number = c.number.ensures.value ∙ c.queue.ensures in
    elim c.if-number-queue.branch [
      | then-number-queue w ↦
          w.count-is ∙ ap (λ n. n + 1) c.loop-at.invariant ∙ sym (counted_yes c.args.jobs.now c.args.queue c.loop-at.at c.unwrap.result
          there (sym number ∙ w.if-number-queue.true))
      | else-number-queue w ↦
          w.count-is ∙ c.loop-at.invariant ∙ sym (counted_no c.args.jobs.now c.args.queue c.loop-at.at c.unwrap.result there (λ is.
          w.if-number-queue.false (number ∙ is)))
    ]
