use Rattle.std.proofs.Common.{subst, ◌∙◌}
use Rattle.trace_text.specs.Ordered.{ordered_by}
use Rattle.trace_text.specs.Tokens.{Adds, ordered_tokens}
use Rattle.trace_text.proofs.OrdersBack.{order_again, order_back, ordered_text, trace_again}
use Rattle.trace_text.proofs.ordered.ordered_text.Goals as goal

pub returns-clause-text : goal.returns-clause-text
returns-clause-text c =
    let adds = subst (λ words. Adds c.new-out.result c.write_all.new.out (ordered_tokens c.args.trace.now words))
    (c.deref.ensures ∙ c.in_ok-words.ensures.text) c.in_ok-write_all.ensures.text in
    ordered_text c.args.trace.now (ordered_by c.args.order.now) c.new-out.result c.write_all.new.out c.into_inner.result.items
    (c.new-out.ensures.before ∙ c.new.ensures.items) c.new-out.ensures.tokens adds c.into_inner.ensures.items

pub returns-clause-reads_back : goal.returns-clause-reads_back
returns-clause-reads_back c writable =
    let adds = subst (λ words. Adds c.new-out.result c.write_all.new.out (ordered_tokens c.args.trace.now words))
    (c.deref.ensures ∙ c.in_ok-words.ensures.text) c.in_ok-write_all.ensures.text in
    trace_again c.args.trace.now (ordered_by c.args.order.now) c.new-out.result c.write_all.new.out c.into_inner.result.items
    (c.new-out.ensures.before ∙ c.new.ensures.items) c.new-out.ensures.tokens adds c.into_inner.ensures.items
    c.into_inner.ensures.reads_back c.into_inner.ensures.utf8 c.write_all.ensures.most c.in_ok-write_all.ensures.fits writable

pub returns-clause-order_back : goal.returns-clause-order_back
returns-clause-order_back c even =
    let adds = subst (λ words. Adds c.new-out.result c.write_all.new.out (ordered_tokens c.args.trace.now words))
    (c.deref.ensures ∙ c.in_ok-words.ensures.text) c.in_ok-write_all.ensures.text in
    order_again c.args.trace.now (ordered_by c.args.order.now) c.new-out.result c.write_all.new.out c.into_inner.result.items
    (c.new-out.ensures.before ∙ c.new.ensures.items) c.new-out.ensures.tokens adds c.into_inner.ensures.items
    c.into_inner.ensures.reads_back c.into_inner.ensures.utf8
    (order_back c.numbers.ensures.spelled c.args.order.now.nodes.items c.args.order.now.messages.items c.in_ok-words.ensures.fits even)
