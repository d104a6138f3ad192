use Rattle.std.proofs.Common.{◌∙◌}
use Rattle.trace_text.proofs.Printing.{written_text}
use Rattle.trace_text.proofs.Readings.{printed_back}
use Rattle.trace_text.proofs.writing.write_text.Goals as goal

pub returns-clause-text : goal.returns-clause-text
returns-clause-text c =
    written_text c.args.trace.now c.new-out.result c.write_trace.new.out c.into_inner.result.items (c.new-out.ensures.before
    ∙ c.new.ensures.items) c.new-out.ensures.tokens c.in_ok-write_trace.ensures.text c.into_inner.ensures.items

pub returns-clause-reads_back : goal.returns-clause-reads_back
returns-clause-reads_back c writable =
    printed_back c.args.trace.now c.new-out.result c.write_trace.new.out c.into_inner.result.items (c.new-out.ensures.before
    ∙ c.new.ensures.items) c.new-out.ensures.tokens c.in_ok-write_trace.ensures.text c.into_inner.ensures.items
    c.into_inner.ensures.reads_back c.into_inner.ensures.utf8 c.write_trace.ensures.most c.in_ok-write_trace.ensures.fits writable
