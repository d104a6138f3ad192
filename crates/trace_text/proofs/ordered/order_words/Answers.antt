use Rattle.std.proofs.Common.{◌<◌, ◌∙◌, length, arith}
use Rattle.std.specs.Prelude.{string_bytes}
use Rattle.trace_text.proofs.Orders.{fits_all, fits_more, turns_all, turns_more}
use Rattle.trace_text.proofs.ordered.order_words.Goals as goal

pub loop-place-preserved : goal.loop-place-preserved
loop-place-preserved c =
    let l = c.loop-place in
    let ns = c.args.order.now.nodes.items in
    let ms = c.args.order.now.messages.items in
    let within : (l.place < length ns) × (l.place < length ms) = (grind arith, grind arith) in
    let both = c.in_ok-push_turn.ensures in (
      turns_more (string_bytes l.text) (string_bytes c.push_turn.new.text) l.place ns ms c.index.result.now c.index-in-loop-place.result.now
          c.index.ensures c.index-in-loop-place.ensures within both.text ∙ l.invariant.0,
      λ rest. l.invariant.1 (fits_more (string_bytes l.text) (string_bytes c.push_turn.new.text) l.place ns ms c.index.result.now
          c.index-in-loop-place.result.now c.index.ensures c.index-in-loop-place.ensures within both.fits.0 both.fits.1 rest),
    )

pub returns-clause-text : goal.returns-clause-text
returns-clause-text c =
    let l = c.loop-place in
    turns_all l.place c.args.order.now.nodes.items c.args.order.now.messages.items (λ a b. grind (arith, a, b))
    (string_bytes l.text) _ l.invariant.0

pub returns-clause-fits : goal.returns-clause-fits
returns-clause-fits c =
    let l = c.loop-place in
    l.invariant.1 (fits_all l.place c.args.order.now.nodes.items c.args.order.now.messages.items (λ a b. grind (arith, a, b)))
