use Rattle.std.proofs.Common.{◌≡◌, ℕ, Bool, List, length, Option, Some, None, sym, ap, ◌∙◌, arith}
use Rattle.std.specs.Option.{option_or}
use Rattle.std.specs.Prelude.{if◌then◌else◌}
use Rattle.json.specs.Json.{parse_map}
use Rattle.json.specs.Token.{Token}
use Rattle.trace_text.specs.declared.fault.Location.{Location}
use Rattle.trace_text.specs.Pieces.{entries_on, entries_then}
use Rattle.trace_text.specs.Streams.{data_at}
use Rattle.trace_text.proofs.Judged.{added_in, entries_done, entry_bad, entry_more}
use Rattle.trace_text.proofs.Steps.{item_leads, item_wrong, items_done, leads_same, leads_then}
use Rattle.trace_text.proofs.stream.read_entries.Goals as goal

pub entries-init : goal.entries-init
entries-init c = (leads_same (entries_on c.args.node c.args.entries.now) c.args.reader.now, omega arith)

pub returns-in_err-read_entry-clause-err : goal.returns-in_err-read_entry-clause-err
returns-in_err-read_entry-clause-err c =
    let e = c.entries.entries in
    λ refused. c.entries.invariant.0.at None ∙ item_wrong (entries_then c.args.node e.history e.bad) 124 c.entries.reader
    c.take_end_array.new.self (grind arith) (ap (data_at 124) c.in-Some.ensures.value
    ∙ c.in_err-read_entry.ensures.err (grind (arith, refused)))

pub entries-preserved-then-not-branch : goal.entries-preserved-then-not-branch
entries-preserved-then-not-branch c =
    let l = c.entries in
    let h = l.entries.history in
    let node = c.args.node in
    let new = c.read_entry.new.history in
    let read = c.in_ok-read_entry.ensures in
    let front = ap length c.in-Some.ensures.value in
    let place = λ (i : ℕ). option_or l.entries.bad (Some (record { node = node; index = i })) in
    let bad : c.first-entries.result ≡ place (length h) = c.first-entries.ensures ∙ ap place c.len-index.ensures in (
      leads_then l.invariant.0
          (item_leads (entries_then node h l.entries.bad) 124 l.reader c.take_end_array.new.self (grind arith) (added_in h)
          (entries_then node new c.first-entries.result)
          (ap (λ (ts : List Token). parse_map (added_in h) (data_at 124 ts)) c.in-Some.ensures.value ∙ read.ok
          ∙ ap (λ (b : Bool). Some (if b then Some new else None, c.read_entry.new.reader)) c.if-not-branch.true)
          (omega (arith, front, read.shorter))
          (λ d ds is. entry_bad node h new l.entries.bad d ds is ∙ ap (λ (location : Option Location). entries_then node new location ds)
          (sym bad))),
      grind (arith, front, read.shorter, l.invariant.1),
    )

pub entries-preserved : goal.entries-preserved
entries-preserved c =
    let l = c.entries in
    let h = l.entries.history in
    let node = c.args.node in
    let new = c.read_entry.new.history in
    let read = c.in_ok-read_entry.ensures in
    let front = ap length c.in-Some.ensures.value in (
      leads_then l.invariant.0
          (item_leads (entries_then node h l.entries.bad) 124 l.reader c.take_end_array.new.self (grind arith) (added_in h)
          (entries_then node new l.entries.bad)
          (ap (λ (ts : List Token). parse_map (added_in h) (data_at 124 ts)) c.in-Some.ensures.value ∙ read.ok
          ∙ ap (λ (b : Bool). Some (if b then Some new else None, c.read_entry.new.reader)) c.if-not-branch.false)
          (omega (arith, front, read.shorter)) (λ d ds is. entry_more node h new l.entries.bad d ds is)),
      grind (arith, front, read.shorter, l.invariant.1),
    )

pub returns-clause-ok : goal.returns-clause-ok
returns-clause-ok c =
    let e = c.entries.entries in
    leads_then c.entries.invariant.0 (items_done (entries_then c.args.node e.history e.bad) 124 c.entries.reader c.take_end_array.new.self
    (grind arith) (entries_done c.args.node e.history e.bad))
