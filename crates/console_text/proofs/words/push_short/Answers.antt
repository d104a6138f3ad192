use Rattle.std.proofs.Common.{◌≡◌, ◌+◌, arith, length, take, ap, ◌∙◌}
use Rattle.std.specs.Prelude.{decimal}
use Rattle.console_text.proofs.Decimals.{cut_behind, written_over}
use Rattle.console_text.proofs.words.push_short.Goals as goal

pub returns : goal.returns
returns c =
    let from : c.write_digits.result ≡ length c.args.text.now.items = omega arith in
    let grows = c.deref_mut.ensures.value ∙ c.in_ok-extend_from_slice.ensures.items in
    c.truncate.ensures.items
    ∙ ap (take (c.len-start.result + c.digits_of.result)) (written_over c.extend_from_slice.new.self.len c.write_digits.new.buf _
    (omega (arith, c.deref_mut.ensures.len, c.write_digits.auto.buf)))
    ∙ cut_behind c.args.text.now.items _ c.deref_mut.result.now c.write_digits.new.buf (decimal c.args.number) c.write_digits.result
    (c.len-start.result + c.digits_of.result) grows from
    c.write_digits.ensures.start c.write_digits.ensures.before c.write_digits.ensures.written
