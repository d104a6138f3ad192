use Rattle.std.proofs.Common.{Some, None, sym, ap, ◌∙◌, refl, arith}
use Rattle.std.proofs.lemmas.Result.{IfOk-weaker}
use Rattle.serde_json.specs.Find.{as_array}
use Rattle.trace_text.specs.Streams.{data_at}
use Rattle.trace_text.specs.Tellings.{TellingsData, histories_told, lists_told, lists_of}
use Rattle.trace_text.proofs.Steps.{shut}
use Rattle.trace_text.proofs.Walks.{in_list, mapped_on, no_list_in, opened}
use Rattle.trace_text.proofs.told.read_histories.Goals as goal

pub returns-then-not-branch-clause-ok : goal.returns-then-not-branch-clause-ok
returns-then-not-branch-clause-ok c =
    mapped_on as_array lists_of (data_at 126 c.args.reader.now) None c.open_list.new.reader
    (shut _ _ _ c.if-not-branch.true c.in_ok-open_list.ensures.value)
    ∙ ap (λ (ts : TellingsData). Some (ts, c.open_list.new.reader)) (sym c.new.ensures.items)

pub returns-clause-ok : goal.returns-clause-ok
returns-clause-ok c =
    IfOk-weaker c.read_lists.result _ _ (λ told read. in_list 126 (omega arith)
    (opened _ _ _ c.if-not-branch.false c.in_ok-open_list.ensures.value) histories_told lists_told (λ ds. refl)
    ∙ read) c.read_lists.ensures.ok

pub returns-clause-err : goal.returns-clause-err
returns-clause-err c = λ refused. no_list_in 126 (omega arith) (opened _ _ _ c.if-not-branch.false c.in_ok-open_list.ensures.value)
    (c.read_lists.ensures.err refused)
