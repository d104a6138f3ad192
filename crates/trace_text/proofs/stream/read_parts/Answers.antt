use Rattle.std.proofs.Common.{None, ap, ◌∙◌, arith, option_and_then}
use Rattle.json.specs.Json.{parse_map}
use Rattle.trace_text.specs.Drafts.{parted_by}
use Rattle.trace_text.specs.Pieces.{parts_on, then_parts}
use Rattle.trace_text.specs.Streams.{parted_put}
use Rattle.trace_text.proofs.Grow.{object_wrong}
use Rattle.trace_text.proofs.Steps.{key_leads, leads_same, leads_then, members_done, members_on, shut}
use Rattle.trace_text.proofs.Walks.{opened}
use Rattle.trace_text.proofs.stream.read_parts.Goals as goal

pub members-init : goal.members-init
members-init c = leads_same (parts_on (parted_by c.args.parts.now)) c.args.reader.now

pub returns-in_err-key-clause-err : goal.returns-in_err-key-clause-err
returns-in_err-key-clause-err c = λ _. c.members.invariant.at None
    ∙ object_wrong (parted_by c.members.parts) c.members.reader c.in_err-key.ensures.value

pub returns-in_err-read_part-clause-err : goal.returns-in_err-read_part-clause-err
returns-in_err-read_part-clause-err c =
    let s = parted_by c.members.parts in
    let k = c.in-Some.key.now in
    λ refused. c.members.invariant.at None ∙ (key_leads s k c.members.reader c.next_key.new.self (grind arith)).at None
    ∙ ap (λ o. option_and_then then_parts (parse_map (parted_put s k) o)) (c.in_err-read_part.ensures.err (grind (arith, refused)))

pub returns-then-not-branch-clause-ok : goal.returns-then-not-branch-clause-ok
returns-then-not-branch-clause-ok c =
    leads_then c.members.invariant (leads_then (key_leads (parted_by c.members.parts) c.in-Some.key.now c.members.reader c.next_key.new.self
    (grind arith)) (shut _ _ _ c.if-not-branch.true c.in_ok-read_part.ensures.ok))

pub members-preserved : goal.members-preserved
members-preserved c =
    leads_then c.members.invariant
    (leads_then (key_leads (parted_by c.members.parts) c.in-Some.key.now c.members.reader c.next_key.new.self (grind arith))
    (members_on _ _ c.in-Some.key.now (opened _ _ _ c.if-not-branch.false c.in_ok-read_part.ensures.ok)))

pub returns-clause-ok : goal.returns-clause-ok
returns-clause-ok c = leads_then c.members.invariant (members_done (parted_by c.members.parts) c.members.reader c.next_key.new.self
    (grind arith))
