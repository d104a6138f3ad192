use Rattle.std.proofs.Common.{[], ap, ◌∙◌}
use Rattle.serde_json.specs.Written.{compact_text}
use Rattle.trace_text.specs.Written.{entry_data}
use Rattle.trace_text.proofs.PublicLaws.{entry_written, no_messages}
use Rattle.threads_console.proofs.writing.quiet_text.Goals as goal

pub returns : goal.returns
returns c =
    entry_written c.quiet_action.result [] c.new-out.result c.begin_entry.new.out c.begin_entry.new.out c.end_entry.new.out
    c.into_inner.result.items (c.new-out.ensures.before ∙ c.new.ensures.items) c.new-out.ensures.tokens
    c.in_ok-begin_entry.ensures.text (no_messages c.begin_entry.new.out) c.in_ok-end_entry.ensures c.into_inner.ensures.items
    ∙ ap (λ d. compact_text (entry_data (record { action = d; sent = [] }))) c.quiet_action.ensures
