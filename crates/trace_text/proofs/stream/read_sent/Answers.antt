use Rattle.std.proofs.Common.{◌∙◌, arith, refl}
use Rattle.std.proofs.lemmas.Result.{IfOk-weaker}
use Rattle.trace_text.specs.Entries.{messages_in}
use Rattle.trace_text.specs.Streams.{sent_in}
use Rattle.trace_text.proofs.Walks.{in_list, no_list_in, opened}
use Rattle.trace_text.proofs.stream.read_sent.Goals as goal

pub returns-clause-ok : goal.returns-clause-ok
returns-clause-ok c =
    IfOk-weaker c.read_messages.result _ _ (λ some read. in_list 123 (omega arith)
    (opened _ _ _ c.if-not-branch.false c.in_ok-open_list.ensures.value) sent_in messages_in (λ ds. refl)
    ∙ read) c.read_messages.ensures.ok

pub returns-clause-err : goal.returns-clause-err
returns-clause-err c = λ refused. no_list_in 123 (omega arith) (opened _ _ _ c.if-not-branch.false c.in_ok-open_list.ensures.value)
    (c.read_messages.ensures.err refused)
