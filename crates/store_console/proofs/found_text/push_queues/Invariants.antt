use Rattle.std.proofs.Common.{◌≡◌, ◌++◌, ◌-◌}
use Rattle.std.specs.List.{range_with_len}
use Rattle.job_model.specs.declared.queue.TheConstants.{QUEUES}
use Rattle.store_console.specs.Printed.{queues_text}
use Rattle.store_console.proofs.found_text.push_queues.Given as goal

abbrev pub invariant-loop-queue : goal.invariant-loop-queue
invariant-loop-queue l = l.text.items ++ queues_text l.jobs (range_with_len l.queue (QUEUES - l.queue))
    ≡ l.fn.text.items ++ queues_text l.jobs (range_with_len 0 QUEUES)
