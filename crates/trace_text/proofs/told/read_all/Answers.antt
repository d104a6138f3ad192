use Rattle.std.proofs.Common.{List, Some, ap, ◌∙◌, arith}
use Rattle.json.specs.Json.{parse_map}
use Rattle.json.specs.Reads.{token_of}
use Rattle.json.specs.Token.{Token}
use Rattle.trace_text.specs.Tellings.{whole_told}
use Rattle.trace_text.proofs.Wholly.{not_last, not_some}
use Rattle.trace_text.proofs.told.read_all.Goals as goal

pub returns-in_err-told-clause-err : goal.returns-in_err-told-clause-err
returns-in_err-told-clause-err c =
    λ refused. not_some _ (ap (parse_map whole_told) (c.in_err-told.ensures.err (grind (arith, refused))))

pub returns-in-Some-clause-err : goal.returns-in-Some-clause-err
returns-in-Some-clause-err c =
    λ refused. not_last _ c.in_ok-told.told.items (token_of c.in-Some.field-0) c.read_whole.new.reader _ c.in-Some.ensures.value
    c.in_ok-told.ensures.ok

pub returns-in-None-clause-ok : goal.returns-in-None-clause-ok
returns-in-None-clause-ok c =
    c.in_ok-told.ensures.ok ∙ ap (λ (ts : List Token). Some (c.in_ok-told.told.items, ts)) c.in-None.ensures.value.0
