use Rattle.trace_text.proofs.Joined.{entry_added}
use Rattle.trace_text.proofs.writing.write_entry.Goals as goal

pub returns-clause-text : goal.returns-clause-text
returns-clause-text c =
    entry_added c.args.entry.now.action c.args.entry.now.sent c.end_entry.result c.args.out.now c.begin_entry.new.out
    c.write_messages.new.out c.end_entry.new.out
    c.in_ok-begin_entry.ensures.text c.in_ok-write_messages.ensures.text c.end_entry.ensures
