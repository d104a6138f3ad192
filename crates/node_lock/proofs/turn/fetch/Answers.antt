use Rattle.std.proofs.Common.{◌≡◌, length, vec_len, rules, arith, sym, ◌∙◌, None}
use Rattle.node_lock.proofs.Fetching.{takes_at, empty_at, in_ok}
use Rattle.node_lock.proofs.turn.fetch.Goals as goal

pub returns-clause-some : goal.returns-clause-some
returns-clause-some c =
    let long : length c.args.takes.now.items ≡ vec_len c.args.takes.now = search rules in
    let none : c.args.waiting.now ≡ None = search rules in
    takes_at c.take_into.new.place c.args.place c.args.waiting.now c.args.takes.now.items c.index_mut-end.result.now _ c.reserve.new.self
    c.take_into.new.self none (omega (arith, long, c.requires.place)) c.index_mut-end.ensures.value
    (in_ok c.reserve.result _ (sym c.is_err.ensures.value ∙ c.if-is_err.false) c.reserve.ensures.reserved) c.take_into.ensures.taken

pub returns-clause-none : goal.returns-clause-none
returns-clause-none c =
    let long : length c.args.takes.now.items ≡ vec_len c.args.takes.now = search rules in
    let none : c.args.waiting.now ≡ None = search rules in
    empty_at c.take_into.new.place c.args.place c.args.waiting.now c.args.takes.now.items c.index_mut-end.result.now _ c.reserve.new.self
    c.take_into.new.self none (omega (arith, long, c.requires.place)) c.index_mut-end.ensures.value
    (in_ok c.reserve.result _ (sym c.is_err.ensures.value ∙ c.if-is_err.false) c.reserve.ensures.reserved) c.take_into.ensures.empty
