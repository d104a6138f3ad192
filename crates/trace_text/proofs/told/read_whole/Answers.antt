use Rattle.std.proofs.Common.{Some, None, sym, ap, ◌∙◌, refl, arith}
use Rattle.std.proofs.lemmas.Result.{IfOk-weaker}
use Rattle.serde_json.specs.Find.{as_object}
use Rattle.trace_text.specs.Streams.{data_at}
use Rattle.trace_text.specs.Tellings.{TellingsData, whole_told, whole_seen, whole_of}
use Rattle.trace_text.proofs.Steps.{shut}
use Rattle.trace_text.proofs.Walks.{in_object, mapped_on, no_object_in, opened}
use Rattle.trace_text.proofs.told.read_whole.Goals as goal

pub returns-then-not-branch-clause-ok : goal.returns-then-not-branch-clause-ok
returns-then-not-branch-clause-ok c =
    mapped_on as_object whole_of (data_at 127 c.args.reader.now) None c.open_object.new.reader
    (shut _ _ _ c.if-not-branch.true c.in_ok-open_object.ensures.value)
    ∙ ap (λ (ts : TellingsData). Some (ts, c.open_object.new.reader)) (sym c.new.ensures.items)

pub returns-clause-ok : goal.returns-clause-ok
returns-clause-ok c =
    IfOk-weaker c.read_parts.result _ _ (λ told read. in_object 127 (omega arith)
    (opened _ _ _ c.if-not-branch.false c.in_ok-open_object.ensures.value) whole_told whole_seen (λ ds. refl)
    ∙ read) c.read_parts.ensures.ok

pub returns-clause-err : goal.returns-clause-err
returns-clause-err c = λ refused. no_object_in 127 (omega arith) (opened _ _ _ c.if-not-branch.false c.in_ok-open_object.ensures.value)
    (c.read_parts.ensures.err refused)
