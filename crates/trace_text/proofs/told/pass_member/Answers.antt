use Rattle.std.proofs.Common.{Some, option_map, codes, arith}
use Rattle.serde_json.specs.Data.{Data}
use Rattle.trace_text.specs.Fields.{data_of, plain}
use Rattle.trace_text.specs.Streams.{data_at}
use Rattle.trace_text.specs.Tellings.{TellingData, telling_by, telling_in}
use Rattle.trace_text.proofs.Heard.{put_other, put_there}
use Rattle.trace_text.proofs.Walks.{mapped_on}
use Rattle.trace_text.proofs.told.pass_member.Goals as goal

pub returns-in_ok-read_telling-clause-value : goal.returns-in_ok-read_telling-clause-value
returns-in_ok-read_telling-clause-value c =
    let read = c.in_ok-read_telling.ensures.value in
    let o = data_at 123 c.args.reader.now in
    let r = c.read_telling.new.reader in
    let t = telling_by c.in_ok-read_telling.field-0 in
    put_there (codes "told") (λ (d : Data). Some (telling_in d)) (option_map telling_by c.args.told.now) c.args.key.now o r (Some t)
    (grind arith) (mapped_on telling_in (λ (x : TellingData). Some x) o t r read)

pub returns-in_ok-read_field-clause-value : goal.returns-in_ok-read_field-clause-value
returns-in_ok-read_field-clause-value c =
    put_other (codes "told") (λ (d : Data). Some (telling_in d)) (option_map telling_by c.args.told.now) c.args.key.now
    (data_at 123 c.args.reader.now) c.read_field.new.reader plain (data_of c.in_ok-read_field.field-0) (grind arith)
    c.in_ok-read_field.ensures.value
