use Rattle.std.proofs.Common.{◌≡◌, ℕ, ◌++◌, ◌∷◌, [], List, length, refl, sym, ap, ◌∙◌, option_and_then, rules}
use Rattle.std.specs.Option.{option_or}
use Rattle.json.specs.Json.{parse_map}
use Rattle.json.specs.Token.{Token}
use Rattle.trace_text.specs.declared.stream.Entries.{Entries}
use Rattle.trace_text.specs.Pieces.{entries_on, list_then, with_more}
use Rattle.trace_text.specs.Streams.{Listed, items_at}
use Rattle.trace_text.proofs.Steps.{list_ended}
use Rattle.trace_text.proofs.Walks.{opened}
use Rattle.trace_text.proofs.stream.end_list.Goals as goal

pub returns-clause-ok : goal.returns-clause-ok
returns-clause-ok c =
    let h = c.args.histories.now in
    let hs = h.histories.items in
    let e = c.read_entries.new.entries in
    let node : c.len-node.result ≡ length hs = search rules in
    let read = opened _ _ _ c.if-not-branch.false c.in_ok-read_entries.ensures.ok in
    let same : c.replace-entries.result ≡ e = c.replace-entries.ensures.value in
    let pushed : c.push_reserved.new.self.items ≡ hs ++ c.replace-entries.result.history ∷ [] = search rules in
    let after = λ (q : Listed × List Token). parse_map (list_then h.all_lists hs h.bad q.0) (items_at 125 q.1) in
    record {
      at = λ more.
          ap (λ (n : ℕ). option_and_then after (entries_on n h.entries (with_more more c.args.reader.now))) (sym node)
          ∙ ap (option_and_then after) (read.at more)
          ∙ list_ended h (record {
            all_lists = h.all_lists;
            histories = c.push_reserved.new.self;
            bad = c.first-histories.result;
            entries = c.replace-entries.new.dest;
          }) e (with_more more c.read_entries.new.reader) refl
          (pushed ∙ ap (λ (x : Entries). hs ++ x.history ∷ []) same)
          (c.first-histories.ensures ∙ ap (λ (x : Entries). option_or h.bad x.bad) same);
    }
