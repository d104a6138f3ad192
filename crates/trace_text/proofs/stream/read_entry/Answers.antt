use Rattle.std.proofs.Common.{◌≡◌, ◌-◌, ◌++◌, ◌∷◌, [], ℕ, List, Bool, Option, Some, None, option_map, length, take, sym, ap, ◌∙◌, arith}
use Rattle.std.specs.Prelude.{if◌then◌else◌}
use Rattle.std.proofs.Math.Seq.{take-length}
use Rattle.json.specs.Reads.{token_of}
use Rattle.wire_msg.specs.Envelope.{Envelope}
use Rattle.trace_check.specs.declared.lent_action.ActionRef.{ActionRef}
use Rattle.trace_check.specs.Claims.{Claim}
use Rattle.trace_check.specs.Kept.{part}
use Rattle.trace_check.specs.LentActions.{action_lent}
use Rattle.trace_text.specs.Drafts.{drafted_by}
use Rattle.trace_text.proofs.Judged.{claim_some, entry_read, no_action, no_sent}
use Rattle.trace_text.proofs.Walks.{no_object_in, opened}
use Rattle.trace_text.proofs.stream.read_entry.Goals as goal

pub returns-in_err-read_members-clause-err : goal.returns-in_err-read_members-clause-err
returns-in_err-read_members-clause-err c =
    λ refused. no_object_in 124 (omega arith) (opened _ _ _ c.if-not-branch.false c.in_ok-enter_object.ensures.value)
    (c.in_err-read_members.ensures.err (grind (arith, refused)))

pub returns-then-not-draft-clause-ok : goal.returns-then-not-draft-clause-ok
returns-then-not-draft-clause-ok c =
    let is = opened _ _ _ c.if-not-branch.false c.in_ok-enter_object.ensures.value in
    let draft = c.read_members.new.draft in
    let none = no_sent (drafted_by draft) (ap (λ (b : Bool). if b then Some draft.sent.messages else None) c.if-not-draft.true) in
    entry_read (token_of c.args.token ∷ c.args.reader.now) c.enter_object.new.reader c.read_members.new.reader (drafted_by draft) None
    c.args.history.now is c.in_ok-read_members.ensures.ok none

pub returns-in-Ok-None-clause-ok : goal.returns-in-Ok-None-clause-ok
returns-in-Ok-None-clause-ok c =
    let is = opened _ _ _ c.if-not-branch.false c.in_ok-enter_object.ensures.value in
    let draft = c.read_members.new.draft in
    entry_read (token_of c.args.token ∷ c.args.reader.now) c.enter_object.new.reader c.read_members.new.reader (drafted_by draft) None
    c.args.history.now is c.in_ok-read_members.ensures.ok
    (no_action (drafted_by draft) (sym c.in-Ok-None.ensures.action
    ∙ ap (λ (o : Option ActionRef). option_map action_lent o) c.in-Ok-None.field-0-is))

pub returns-in_ok-push_lent-in-Ok-Some-clause-ok : goal.returns-in_ok-push_lent-in-Ok-Some-clause-ok
returns-in_ok-push_lent-in-Ok-Some-clause-ok c =
    let is = opened _ _ _ c.if-not-branch.false c.in_ok-enter_object.ensures.value in
    let draft = c.read_members.new.draft in
    let done = action_lent c.in-Ok-Some.action in
    let sent = draft.sent.messages in
    let r = c.read_members.new.reader in
    let old = c.args.history.now in
    let all : (drafted_by draft).1 ≡ Some sent = ap (λ (b : Bool). if b then Some sent else None) c.if-not-draft.false in
    let front : length sent - 0 ≡ length sent = omega arith in
    let lent : c.part-sent.result ≡ sent = c.part-sent.ensures ∙ ap (λ (n : ℕ). part 0 n sent) c.len.ensures
    ∙ ap (λ (n : ℕ). take n sent) front ∙ take-length sent in
    let claim : Claim = record { action = done; sent = sent } in
    entry_read (token_of c.args.token ∷ c.args.reader.now) c.enter_object.new.reader r (drafted_by draft)
    (Some claim) old is c.in_ok-read_members.ensures.ok (claim_some (drafted_by draft) done sent (sym c.in-Ok-Some.ensures.action
    ∙ ap (λ (o : Option ActionRef). option_map action_lent o) c.in-Ok-Some.field-0-is) all)
    ∙ ap (λ (ms : List Envelope). Some (Some (old ++ (record { action = done; sent = ms }) ∷ []), r)) (sym lent)
    ∙ ap (λ (h : List Claim). Some (Some h, r)) (sym c.in_ok-push_lent-in-Ok-Some.ensures.added)
