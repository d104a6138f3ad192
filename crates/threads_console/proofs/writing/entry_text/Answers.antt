use Rattle.std.proofs.Common.{◌∙◌}
use Rattle.cluster_sim.specs.Traced.{done}
use Rattle.trace_text.proofs.PublicLaws.{entry_written}
use Rattle.threads_console.proofs.Texts.{handled_text}
use Rattle.threads_console.proofs.writing.entry_text.Goals as goal

pub returns : goal.returns
returns c =
    handled_text c.args.place c.args.history.now.turns c.handled.new.event c.in-Some.sent c.in-Some.ensures.some c.into_inner.result.items
    (entry_written (done c.handled.new.event) c.in-Some.sent c.new-out.result c.begin_done.new.out c.write_sent.new.out c.end_entry.new.out
    c.into_inner.result.items (c.new-out.ensures.before ∙ c.clear.ensures.items) c.new-out.ensures.tokens
    c.in_ok-begin_done.ensures c.in_ok-write_sent.ensures c.in_ok-end_entry.ensures c.into_inner.ensures.items)
