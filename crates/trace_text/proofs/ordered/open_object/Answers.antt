use Rattle.std.proofs.Common.{ap, ◌∙◌}
use Rattle.trace_text.specs.Ordered.{words_at}
use Rattle.trace_text.proofs.Orders.{no_words, other_words}
use Rattle.trace_text.proofs.ordered.open_object.Goals as goal

pub returns-in_default-clause-err : goal.returns-in_default-clause-err
returns-in_default-clause-err c = ap words_at c.in_default.ensures.value.0 ∙ no_words

pub returns-in_default-token : goal.returns-in_default-token
returns-in_default-token c = record {
  ok = tt;
  err = other_words c.in-Some.token c.args.reader.now c.next.new.self
      c.in_default-token.not-BeginObject c.in-Some.ensures.value;
}
