use Rattle.std.proofs.Common.{ℕ, length, slice_get, option_map, refl, sym, ap, ◌∙◌, arith}
use Rattle.std.proofs.lemmas.Option.{slice_get_read}
use Rattle.trace_text.specs.Tellings.{telling_by}
use Rattle.trace_check.specs.Followed.{before}
use Rattle.trace_check.specs.Orders.{history}
use Rattle.trace_check.proofs.PublicLaws.{may_take}
use Rattle.trace_console.specs.Answers.{entry_so}
use Rattle.trace_console.specs.NodeAnswers.{is_finish}
use Rattle.trace_console.proofs.Answered.{turn_is}
use Rattle.trace_console.proofs.NodeCursors.{node_within}
use Rattle.trace_console.proofs.Tellings.{entry_seen, turn_fact}
use Rattle.trace_console.proofs.answers.false_at.Goals as goal

pub bounds-old-number : goal.bounds-old-number
bounds-old-number c =
    let order = c.args.order.now in
    let now = slice_get_read order (length order) c.args.turn c.index-order-turn.result refl c.requires.more c.index-order-turn.is in
    let within = node_within c.args.trace.now (before order c.args.turn) c.index-order-turn.result
    (may_take c.args.trace.now order c.args.turn c.index-order-turn.result c.requires.legal now) in
    let count = c.requires.old.0 in
    let from = c.from-number.ensures in
    let value = c.number.ensures.value in omega (arith, within, count, from, value)

pub bounds-new-number : goal.bounds-new-number
bounds-new-number c =
    let order = c.args.order.now in
    let now = slice_get_read order (length order) c.args.turn c.index-order-turn.result refl c.requires.more c.index-order-turn.is in
    let within = node_within c.args.trace.now (before order c.args.turn) c.index-order-turn.result
    (may_take c.args.trace.now order c.args.turn c.index-order-turn.result c.requires.legal now) in
    let count = c.requires.new.0 in
    let from = c.from-number.ensures in
    let value = c.number.ensures.value in omega (arith, within, count, from, value)

pub returns-then-branch : goal.returns-then-branch
returns-then-branch c =
    let hs = c.args.trace.now in
    let d = c.args.told.now in
    let order = c.args.order.now in
    let k = c.args.turn in
    let n = c.index-order-turn.result in
    let old = c.index-old-number.result in
    let now = slice_get_read order (length order) k n refl c.requires.more c.index-order-turn.is in
    let finishes = c.is_finish.ensures ∙ ap is_finish (entry_seen c.entry-entry.result (slice_get (history hs n) old.index)
    c.entry-entry.ensures.some c.entry-entry.ensures.none) in
    let fact = turn_fact hs d order k n c.from-number.result c.is_finish.result c.in_ok-is_so.field-0 c.args.old.now c.args.new.now old
    c.index-new-number.result (option_map telling_by c.get-told.result) c.requires.legal now
    (c.from-number.ensures ∙ c.number.ensures.value) c.requires.old c.requires.new c.index-old-number.is c.index-new-number.is
    c.get-told.ensures finishes c.in_ok-is_so.ensures in
    turn_is hs d order k n now ∙ sym fact.0 ∙ c.if-branch.true

pub returns : goal.returns
returns c =
    let hs = c.args.trace.now in
    let d = c.args.told.now in
    let order = c.args.order.now in
    let k = c.args.turn in
    let n = c.index-order-turn.result in
    let old = c.index-old-number.result in
    let now = slice_get_read order (length order) k n refl c.requires.more c.index-order-turn.is in
    let finishes = c.is_finish.ensures ∙ ap is_finish (entry_seen c.entry-entry.result (slice_get (history hs n) old.index)
    c.entry-entry.ensures.some c.entry-entry.ensures.none) in
    let fact = turn_fact hs d order k n c.from-number.result c.is_finish.result c.in_ok-is_so.field-0 c.args.old.now c.args.new.now old
    c.index-new-number.result (option_map telling_by c.get-told.result) c.requires.legal now
    (c.from-number.ensures ∙ c.number.ensures.value) c.requires.old c.requires.new c.index-old-number.is c.index-new-number.is
    c.get-told.ensures finishes c.in_ok-is_so.ensures in
    record { turn = refl; node = now; index = fact.1; other = ap (λ (i : ℕ). entry_so hs d n i) fact.1 ∙ sym fact.0 ∙ c.if-branch.false }
