use Rattle.std.proofs.Common.{arith}
use Rattle.trace_text.specs.Fields.{data_of}
use Rattle.trace_text.proofs.Firsts.{no_object, nothing_there}
use Rattle.trace_text.proofs.values.open_object.Goals as goal

pub returns-in_err-token-clause-value : goal.returns-in_err-token-clause-value
returns-in_err-token-clause-value c = let none = nothing_there c.args.depth c.args.reader.now (grind arith) in grind (arith, none)

pub returns-clause-value : goal.returns-clause-value
returns-clause-value c =
    no_object c.args.depth c.next.new.self c.in_ok-token.token c.args.reader.now (data_of c.in_ok-read_rest.field-0) c.read_rest.new.reader
    (grind arith) c.in_ok-read_rest.ensures.value c.in_default.not-BeginObject
