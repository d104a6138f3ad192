use Rattle.std.proofs.Common.{◌≡◌, Ok, Err, sym, ap, ◌∙◌, subst, refl}
use Rattle.std.specs.Prelude.{IfOk, IfErr}
use Rattle.json.specs.Lex.{tokens}
use Rattle.trace_text.specs.declared.stream.Halt.{Halt}
use Rattle.trace_text.specs.Drafts.{parted_by}
use Rattle.trace_text.specs.Pieces.{Judgement}
use Rattle.trace_text.specs.Streams.{shaped}
use Rattle.trace_text.specs.Wholes.{IsFaultOf, trace_of}
use Rattle.trace_text.proofs.Judged.{text_none, text_read}
use Rattle.trace_text.proofs.Wholly.{text_not}
use Rattle.trace_text.proofs.stream.read.Goals as goal

pub returns-in_default-clause-err : goal.returns-in_default-clause-err
returns-in_default-clause-err c = text_none c.args.text.now c.in_default.ensures

pub returns-in-Ok-read_text : goal.returns-in-Ok-read_text
returns-in-Ok-read_text c =
    let text = c.in-Ok.text.now in
    let same = c.in-Ok.ensures.0 in
    let utf8 = c.in-Ok.ensures.1 in
    let r = shaped (parted_by c.in-Ok-read_text.parts) in
    let read = ap trace_of (sym same) ∙ text_read text (tokens text) refl r (rw (sym same) at utf8) c.in-Ok-read_text.ensures.ok in
    record {
      ok = subst (λ (o : Judgement). IfOk c.judge.result (λ trace. o ≡ Ok trace)) (sym read) c.judge.ensures.ok;
      err = subst (λ (o : Judgement). IfErr c.judge.result (IsFaultOf o)) (sym read) c.judge.ensures.err;
    }

pub returns-in-Err-NoJson-clause-err : goal.returns-in-Err-NoJson-clause-err
returns-in-Err-NoJson-clause-err c = ap trace_of (sym c.in-Ok.ensures.0)
    ∙ text_not c.in-Ok.text.now (c.in-Err-NoJson.ensures.err (ap (λ (h : Halt). Err h) c.in-Err-NoJson.field-0-is))
