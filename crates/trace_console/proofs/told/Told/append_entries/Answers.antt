use Rattle.std.proofs.Common.{◌≡◌, ◌<◌, [], None, List, Option, Bor, length, refl, ap, ◌∙◌, arith, rules, slice_set}
use Rattle.std.specs.Prelude.{get_or}
use Rattle.std.proofs.lemmas.List.{get_or_read}
use Rattle.trace_text.specs.Tellings.{TellingData, TellingsData}
use Rattle.trace_check.specs.Claims.{Claim}
use Rattle.trace_console.specs.Told.{row}
use Rattle.trace_console.proofs.Thens.{history_read, one_more, then_there, unwrap_now}
use Rattle.trace_console.proofs.told.Told.append_entries.Goals as goal

pub loop-node-preserved : goal.loop-node-preserved
loop-node-preserved c =
    let hs = c.args.histories.now in
    let node = c.loop-node.node in
    let so = c.loop-node.invariant in
    let old = c.loop-node.self-inside.rows.items in
    let more = c.args.more.now in
    let less : node < length hs = omega (arith, c.loop-node-test.true) in
    let there : node < length old = (let count = so.count in omega (arith, less, count)) in
    let history_is = history_read hs node c.index-histories-node.result less c.index-histories-node.is in
    let many = c.len.ensures ∙ ap (λ (h : List Claim). length h) history_is in
    let first = get_or_read old node c.index_mut.result.now there c.index_mut.ensures.value [] in
    let rows : c.deref.result.now ≡ more = search rules in
    let behind : c.unwrap_or-behind.result.now ≡ row more node =
    ap (λ (r : Bor (List (Option TellingData))). r.now) c.unwrap_or-behind.ensures
    ∙ unwrap_now (λ (r : Bor (List (Option TellingData))). r.now) c.get.result _
    ∙ c.get.ensures.lookup.4 (omega arith) _
    ∙ ap (λ (d : List (Option TellingData)). get_or c.deref.result.now node d) c.new-none.ensures
    ∙ ap (λ (d : TellingsData). row d node) rows in
    one_more hs node c.args.self.now more old (slice_set old node c.append_row.new.row) c.append_row.new.row so less refl
    (then_there None c.len.result _ c.index_mut.result.now _ c.unwrap_or-behind.result.now _ c.append_row.new.row many first behind
    c.in_ok-append_row.ensures)
