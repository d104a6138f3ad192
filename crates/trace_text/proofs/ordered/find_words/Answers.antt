use Rattle.std.proofs.Common.{option_map, sym, ◌∙◌}
use Rattle.std.proofs.lemmas.Result.{err_from_is_err_and}
use Rattle.trace_text.proofs.Orders.{at_end, behind, words_lacking}
use Rattle.trace_text.proofs.ordered.find_words.Goals as goal

pub returns-in_err-words-clause-err : goal.returns-in_err-words-clause-err
returns-in_err-words-clause-err c =
    let p = err_from_is_err_and c.from_residual-in_err-words.result c.from_residual-in_err-words.ensures.1 in
    rw (p.1, p.2) (words_lacking c.args.reader.now c.open_object.new.reader c.in_err-words.field-0.0 c.in_ok-open_object.ensures.ok
    c.in_err-words.ensures.err)

pub returns-then-is_some-clause-err : goal.returns-then-is_some-clause-err
returns-then-is_some-clause-err c =
    behind c.args.reader.now c.open_object.new.reader c.find_member.new.reader c.next.new.self (option_map (λ s. s.now) c.in_ok-words.words)
    c.next.result c.in_ok-open_object.ensures.ok c.in_ok-words.ensures.ok c.next.ensures.value (sym c.is_some.ensures
    ∙ c.if-is_some.true)

pub returns-clause-ok : goal.returns-clause-ok
returns-clause-ok c =
    at_end c.args.reader.now c.open_object.new.reader c.find_member.new.reader c.next.new.self (option_map (λ s. s.now) c.in_ok-words.words)
    c.next.result c.in_ok-open_object.ensures.ok c.in_ok-words.ensures.ok c.next.ensures.value (sym c.is_some.ensures
    ∙ c.if-is_some.false)
