use Rattle.std.proofs.Common.{sym, arith}
use Rattle.trace_text.specs.Tellings.{whole_put, whole_seen}
use Rattle.trace_text.proofs.Heard.{whole_law}
use Rattle.trace_text.proofs.Walks.{key_missing, member_missing, member_on, members_begun, members_done}
use Rattle.trace_text.proofs.told.read_parts.Goals as goal

pub members-init : goal.members-init
members-init c = members_begun 126 whole_seen c.args.reader.now (sym c.new-told.ensures.items)

pub returns-in_err-key-clause-err : goal.returns-in_err-key-clause-err
returns-in_err-key-clause-err c = λ _. key_missing c.members.invariant c.in_err-key.ensures.value

pub members-preserved : goal.members-preserved
members-preserved c =
    member_on c.members.invariant c.in-Some.key.now c.next_key.new.self (grind arith) whole_put whole_law c.in_ok-read_part.ensures.ok
    c.in_ok-read_part.ensures.shorter

pub returns-in_err-read_part-clause-err : goal.returns-in_err-read_part-clause-err
returns-in_err-read_part-clause-err c =
    λ refused. member_missing c.members.invariant c.in-Some.key.now c.next_key.new.self (grind arith)
    (c.in_err-read_part.ensures.err (grind (arith, refused)))

pub returns-clause-ok : goal.returns-clause-ok
returns-clause-ok c = members_done c.members.invariant c.next_key.new.self (grind arith)
