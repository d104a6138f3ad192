use Rattle.std.proofs.Common.{ap, ◌∙◌}
use Rattle.serde_json.specs.Written.{compact_text}
use Rattle.node_lock.specs.Seen.{turn_seen}
use Rattle.trace_text.specs.Written.{entry_data}
use Rattle.trace_text.proofs.PublicLaws.{entry_written}
use Rattle.threads_console.proofs.writing.other_text.Goals as goal

pub returns : goal.returns
returns c =
    let entry = c.in-Some.entry in
    record {
      turn = turn_seen entry;
      at = c.in-Some.ensures.some;
      is_text =
          entry_written c.action_of.result entry.sent c.new-out.result c.begin_entry.new.out c.write_sent.new.out c.end_entry.new.out
          c.into_inner.result.items (c.new-out.ensures.before ∙ c.clear.ensures.items) c.new-out.ensures.tokens
          c.in_ok-begin_entry.ensures.text c.in_ok-write_sent.ensures c.in_ok-end_entry.ensures c.into_inner.ensures.items
          ∙ ap (λ d. compact_text (entry_data (record { action = d; sent = entry.sent }))) c.action_of.ensures;
    }
