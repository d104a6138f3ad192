use Rattle.std.proofs.Common.{refl, arith}
use Rattle.trace_text.specs.Tellings.{told_put, told_seen}
use Rattle.trace_text.proofs.Heard.{told_law}
use Rattle.trace_text.proofs.Walks.{key_missing, member_missing, member_on, members_begun, members_done}
use Rattle.trace_text.proofs.told.find_told.Goals as goal

pub members-init : goal.members-init
members-init c = members_begun 123 told_seen c.args.reader.now refl

pub returns-in_err-key-clause-value : goal.returns-in_err-key-clause-value
returns-in_err-key-clause-value c = let none = key_missing c.members.invariant c.in_err-key.ensures.value in grind (arith, none)

pub members-preserved : goal.members-preserved
members-preserved c =
    member_on c.members.invariant c.in-Some.key.now c.next_key.new.self (grind arith) told_put told_law c.in_ok-pass_member.ensures.value
    c.in_ok-pass_member.ensures.shorter

pub returns-in_err-pass_member-clause-value : goal.returns-in_err-pass_member-clause-value
returns-in_err-pass_member-clause-value c =
    let none = member_missing c.members.invariant c.in-Some.key.now c.next_key.new.self (grind arith) c.in_err-pass_member.ensures.value in
    grind (arith, none)

pub returns-clause-value : goal.returns-clause-value
returns-clause-value c = members_done c.members.invariant c.next_key.new.self (grind arith)
