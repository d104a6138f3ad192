use Rattle.std.proofs.Common.{Some, None, sym, ap, ◌∙◌, refl, arith}
use Rattle.serde_json.specs.Find.{as_object}
use Rattle.trace_text.specs.Streams.{data_at}
use Rattle.trace_text.specs.Tellings.{TellingData, telling_in, telling_of, telling_seen}
use Rattle.trace_text.proofs.Steps.{shut}
use Rattle.trace_text.proofs.Walks.{in_object, mapped_on, no_object_in, opened}
use Rattle.trace_text.proofs.told.read_telling.Goals as goal

pub returns-then-not-branch-clause-value : goal.returns-then-not-branch-clause-value
returns-then-not-branch-clause-value c =
    mapped_on as_object telling_of (data_at 123 c.args.reader.now) None c.open_object.new.reader
    (shut _ _ _ c.if-not-branch.true c.in_ok-open_object.ensures.value)
    ∙ ap (λ (t : TellingData). Some (t, c.open_object.new.reader)) (sym c.new.ensures)

pub returns-in_err-read_members-clause-value : goal.returns-in_err-read_members-clause-value
returns-in_err-read_members-clause-value c =
    let none = no_object_in 123 (omega arith) (opened _ _ _ c.if-not-branch.false c.in_ok-open_object.ensures.value)
    c.in_err-read_members.ensures.value in
    grind (arith, none)

pub returns-clause-value : goal.returns-clause-value
returns-clause-value c =
    in_object 123 (omega arith) (opened _ _ _ c.if-not-branch.false c.in_ok-open_object.ensures.value) telling_in telling_seen (λ ms. refl)
    ∙ c.in_ok-read_members.ensures.value
