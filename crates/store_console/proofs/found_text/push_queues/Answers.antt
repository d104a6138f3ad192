use Rattle.store_console.proofs.Queues.{queue_pushed}
use Rattle.store_console.proofs.found_text.push_queues.Goals as goal

pub loop-queue-preserved : goal.loop-queue-preserved
loop-queue-preserved c =
    queue_pushed c.args.jobs.now c.loop-queue.queue c.jobs_in_queue.result c.args.text.now.items c.loop-queue.text.items
    c.push_queue.new.text.items c.loop-queue-test.true
    c.jobs_in_queue.ensures c.in_ok-push_queue.ensures c.loop-queue.invariant
