use Rattle.std.proofs.Common.{◌≡◌, take}
use Rattle.store_console.specs.Printed.{jobs_in_queue}
use Rattle.store_console.proofs.found_text.jobs_in_queue.Given as goal

abbrev pub invariant-loop-at : goal.invariant-loop-at
invariant-loop-at l = l.count ≡ jobs_in_queue (take l.at l.jobs) l.queue
