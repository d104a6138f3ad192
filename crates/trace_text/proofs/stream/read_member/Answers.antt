use Rattle.std.proofs.Common.{◌≡◌, Some, false, codes, bytes_eq, ap, ◌∙◌, rules}
use Rattle.trace_text.specs.Fields.{FieldData, data_of, fields_by, fields_put}
use Rattle.trace_text.specs.Drafts.{drafted_by}
use Rattle.trace_text.specs.Streams.{data_at}
use Rattle.trace_text.proofs.Judged.{field_put}
use Rattle.trace_text.proofs.stream.read_member.Goals as goal

pub returns-in_ok-field-clause-ok : goal.returns-in_ok-field-clause-ok
returns-in_ok-field-clause-ok c =
    let r = c.read_field.new.reader in
    let old = drafted_by c.args.draft.now in
    let key = c.args.key.now in
    let x = data_of c.in_ok-field.field in
    let other : bytes_eq key (codes "sent") ≡ false = search rules in
    let put : fields_put old.0 key x ≡ fields_by c.put.new.self = search rules in
    field_put old key (data_at 123 c.args.reader.now) x r other c.in_ok-field.ensures.value
    ∙ ap (λ (f : FieldData). Some ((f, old.1), r)) put
