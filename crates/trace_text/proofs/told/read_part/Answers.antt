use Rattle.std.proofs.Common.{codes, arith}
use Rattle.trace_text.specs.Fields.{data_of, plain}
use Rattle.trace_text.specs.Streams.{data_at}
use Rattle.trace_text.specs.Tellings.{histories_told}
use Rattle.trace_text.proofs.Heard.{put_other}
use Rattle.trace_text.proofs.told.read_part.Goals as goal

pub returns-in_ok-read_field-clause-ok : goal.returns-in_ok-read_field-clause-ok
returns-in_ok-read_field-clause-ok c =
    put_other (codes "histories") histories_told c.args.told.now.items c.args.key.now (data_at 126 c.args.reader.now)
    c.read_field.new.reader plain (data_of c.in_ok-read_field.field-0) (grind arith) c.in_ok-read_field.ensures.value
