use Rattle.std.proofs.Common.{◌≡◌, Some, sym, ap, ◌∙◌, arith, rules}
use Rattle.trace_text.specs.Fields.{data_of}
use Rattle.trace_text.specs.Streams.{data_at}
use Rattle.trace_text.specs.Tellings.{TellingData, telling_by, telling_put, telling_seen, text_said}
use Rattle.trace_text.proofs.Heard.{put_text, telling_law, text_put}
use Rattle.trace_text.proofs.Walks.{key_missing, member_missing, member_on, members_begun, members_done}
use Rattle.trace_text.proofs.told.read_members.Goals as goal

pub members-init : goal.members-init
members-init c = members_begun 122 telling_seen c.args.reader.now (sym c.new-telling.ensures)

pub returns-in_err-key-clause-value : goal.returns-in_err-key-clause-value
returns-in_err-key-clause-value c = let none = key_missing c.members.invariant c.in_err-key.ensures.value in grind (arith, none)

pub members-preserved : goal.members-preserved
members-preserved c =
    let key = c.in-Some.key.now in
    let old = telling_by c.members.telling in
    let r = c.read_field.new.reader in
    let put : telling_put old key (text_said c.of.result) ≡ telling_by c.put.new.self = search rules in
    member_on c.members.invariant key c.next_key.new.self (grind arith) put_text telling_law
    (text_put old key (data_at 122 c.next_key.new.self) (data_of c.in_ok-field.field) r _ c.in_ok-field.ensures.value c.of.ensures
    ∙ ap (λ (t : TellingData). Some (t, r)) put)
    c.in_ok-field.ensures.shorter

pub returns-in_err-field-clause-value : goal.returns-in_err-field-clause-value
returns-in_err-field-clause-value c =
    let none = member_missing c.members.invariant c.in-Some.key.now c.next_key.new.self (grind arith) c.in_err-field.ensures.value in
    grind (arith, none)

pub returns-clause-value : goal.returns-clause-value
returns-clause-value c = members_done c.members.invariant c.next_key.new.self (grind arith)
