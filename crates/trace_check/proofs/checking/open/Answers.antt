use Rattle.std.proofs.Common.{◌≡◌, ℕ, ◌+◌, List, [], ◌∷◌, ◌++◌, length, reverse, sym, ap, ◌∙◌, subst, arith, refl, length-append}
use Rattle.histories.specs.NodeState.{opening}
use Rattle.trace_check.specs.declared.search.NodeCursor.{NodeCursor}
use Rattle.trace_check.specs.Twins.{Twin}
use Rattle.trace_check.specs.Searches.{IsDesk}
use Rattle.trace_check.proofs.Turns.{AreOpen, open_more, desk_opens, desk_same}
use Rattle.trace_check.proofs.checking.open.Goals as goal

pub loop-number-init : goal.loop-number-init
loop-number-init c =
    let none = c.in_ok-seats.ensures.items in (
      ap (λ (ss : List NodeCursor). length ss) none,
      subst (λ (ss : List NodeCursor). AreOpen c.nodes-nodes.result ss) (sym none) (λ n s at.
          absurd cc),
    )

pub loop-number-preserved : goal.loop-number-preserved
loop-number-preserved c =
    let seats = c.loop-number.seats.items in
    let nodes = c.nodes-nodes.result in
    let len = c.loop-number.invariant.0 in
    let pushed = c.in_ok-push.ensures.items in
    let here : c.numbered.result ≡ length seats = c.numbered.ensures ∙ sym len in
    let node_cursor : NodeCursor = record { node_model = c.in_ok-node_model.node_model; place = 0 } in
    let many : length (seats ++ node_cursor ∷ []) ≡ length seats + 1 = length-append seats (node_cursor ∷ []) in (
      ap (λ (ss : List NodeCursor). length ss) pushed ∙ many ∙ ap (λ (k : ℕ). k + 1) len,
      subst (λ (ss : List NodeCursor). AreOpen nodes ss) (sym pushed)
          (open_more nodes seats node_cursor c.loop-number.invariant.1
          (ap (λ (t : Twin). record { node_model = t; place = 0 }) (c.in_ok-node_model.ensures
          ∙ ap (λ (k : ℕ). record { id = k; nodes = nodes; node = opening k }) here))),
    )

pub returns-clause-fits : goal.returns-clause-fits
returns-clause-fits c =
    let hs = c.args.trace.now in
    let size = c.nodes-nodes.ensures.value in
    let len = c.loop-number.invariant.0 in
    let test = c.loop-number-test.false in
    let end = c.loop-number.auto.number-end in
    let count : length c.loop-number.seats.items ≡ length hs = omega (arith, len, test, end, size) in
    subst (λ (order : List ℕ). IsDesk hs c.loop-number.seats.items c.below.result c.new-2.result c.in_ok-with_room.field-0 (reverse order))
    (sym c.in_ok-with_capacity.ensures.items)
    (desk_same hs _ _ _ _ _ _ _ _ [] refl c.below.ensures c.new-2.ensures c.in_ok-with_room.ensures
    (desk_opens hs c.nodes-nodes.result c.loop-number.seats.items size count c.loop-number.invariant.1))
