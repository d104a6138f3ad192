use Rattle.std.proofs.Common.{None, ◌∙◌, refl, arith}
use Rattle.serde_json.specs.Find.{as_object}
use Rattle.trace_text.specs.Streams.{data_at}
use Rattle.trace_text.specs.Tellings.{told_in, told_of, told_seen}
use Rattle.trace_text.proofs.Steps.{shut}
use Rattle.trace_text.proofs.Walks.{in_object, mapped_on, no_object_in, opened}
use Rattle.trace_text.proofs.told.read_told.Goals as goal

pub returns-then-not-branch-clause-value : goal.returns-then-not-branch-clause-value
returns-then-not-branch-clause-value c =
    mapped_on as_object told_of (data_at 124 c.args.reader.now) None c.open_object.new.reader
    (shut _ _ _ c.if-not-branch.true c.in_ok-open_object.ensures.value)

pub returns-in_err-find_told-clause-value : goal.returns-in_err-find_told-clause-value
returns-in_err-find_told-clause-value c =
    let none = no_object_in 124 (omega arith) (opened _ _ _ c.if-not-branch.false c.in_ok-open_object.ensures.value)
    c.in_err-find_told.ensures.value in
    grind (arith, none)

pub returns-clause-value : goal.returns-clause-value
returns-clause-value c =
    in_object 124 (omega arith) (opened _ _ _ c.if-not-branch.false c.in_ok-open_object.ensures.value) told_in told_seen (λ ms. refl)
    ∙ c.in_ok-find_told.ensures.value
