use Rattle.std.proofs.Common.{◌≡◌, ◌++◌, flat_map}
use Rattle.trace_console.specs.NodeAnswers.{took_text}
use Rattle.trace_console.proofs.node_answers.push_took.Given as goal

abbrev pub invariant-loop-job : goal.invariant-loop-job
invariant-loop-job l = l.text.items ++ flat_map (took_text l.old.jobs) l.job-iterator
    ≡ l.fn.text.items ++ flat_map (took_text l.old.jobs) l.jobs
