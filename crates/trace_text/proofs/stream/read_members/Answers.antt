use Rattle.std.proofs.Common.{None, sym, ap, arith}
use Rattle.trace_text.specs.Fields.{FieldData}
use Rattle.trace_text.specs.Streams.{drafted_in, drafted_put}
use Rattle.trace_text.proofs.Members.{drafted_law}
use Rattle.trace_text.proofs.Walks.{key_missing, member_missing, member_on, members_begun, members_done}
use Rattle.trace_text.proofs.stream.read_members.Goals as goal

pub members-init : goal.members-init
members-init c = members_begun 123 drafted_in c.args.reader.now (ap (λ (f : FieldData). (f, None)) (sym c.clear.ensures))

pub returns-in_err-key-clause-err : goal.returns-in_err-key-clause-err
returns-in_err-key-clause-err c = λ _. key_missing c.members.invariant c.in_err-key.ensures.value

pub members-preserved : goal.members-preserved
members-preserved c =
    member_on c.members.invariant c.in-Some.key.now c.next_key.new.self (grind arith) drafted_put drafted_law c.in_ok-read_member.ensures.ok
    c.in_ok-read_member.ensures.shorter

pub returns-in_err-read_member-clause-err : goal.returns-in_err-read_member-clause-err
returns-in_err-read_member-clause-err c =
    λ refused. member_missing c.members.invariant c.in-Some.key.now c.next_key.new.self (grind arith)
    (c.in_err-read_member.ensures.err (grind (arith, refused)))

pub returns-clause-ok : goal.returns-clause-ok
returns-clause-ok c = members_done c.members.invariant c.next_key.new.self (grind arith)
