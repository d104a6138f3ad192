use Rattle.std.proofs.Common.{◌≡◌, ◌++◌, flat_map}
use Rattle.trace_console.specs.NodeAnswers.{gone_text}
use Rattle.trace_console.proofs.node_answers.push_gone.Given as goal

abbrev pub invariant-loop-job : goal.invariant-loop-job
invariant-loop-job l = l.text.items ++ flat_map (gone_text l.new.pending) l.job-iterator
    ≡ l.fn.text.items ++ flat_map (gone_text l.new.pending) l.jobs
