use Rattle.std.proofs.Common.{Err, sym, ap, ◌∙◌}
use Rattle.trace_text.specs.declared.stream.Halt.{Halt}
use Rattle.trace_text.specs.Tellings.{tellings_of}
use Rattle.trace_text.proofs.Heard.{told_none, told_not, told_read}
use Rattle.trace_text.proofs.told.read_tellings.Goals as goal

pub returns-in_default : goal.returns-in_default
returns-in_default c = sym (told_none c.args.text.now c.in_default.ensures)

pub returns-in-Ok-read_all : goal.returns-in-Ok-read_all
returns-in-Ok-read_all c =
    let text = c.in-Ok.text.now in
    let same = c.in-Ok.ensures.0 in
    let utf8 = c.in-Ok.ensures.1 in
    sym (ap tellings_of (sym same) ∙ told_read text (rw (sym same) at utf8) c.in_ok-reader.reader c.in_ok-reader.ensures.ok
    c.in-Ok-read_all.told.items c.in-Ok-read_all.ensures.ok)

pub returns-in-Err-NoJson : goal.returns-in-Err-NoJson
returns-in-Err-NoJson c =
    let text = c.in-Ok.text.now in
    let same = c.in-Ok.ensures.0 in
    let utf8 = c.in-Ok.ensures.1 in
    sym (ap tellings_of (sym same) ∙ told_not text (rw (sym same) at utf8) c.in_ok-reader.reader c.in_ok-reader.ensures.ok
    (c.in-Err-NoJson.ensures.err (ap (λ (h : Halt). Err h) c.in-Err-NoJson.field-0-is)))
