use Rattle.std.proofs.Common.{[], ◌∷◌, ◌++◌, List, refl, ap, ◌∙◌, arith}
use Rattle.trace_check.specs.Claims.{Claim}
use Rattle.trace_check.specs.Given.{action_given, sent_given}
use Rattle.trace_check.specs.Traces.{claim}
use Rattle.trace_check.proofs.Pushed.{small, said, all_stand}
use Rattle.trace_check.proofs.history.History.put_in.Goals as goal

pub stored_action-requires : goal.stored_action-requires
stored_action-requires c =
    let was = c.self.inside in
    let many = c.len.ensures in
    let first = c.in_ok-make_room.ensures.few in
    let second = c.in_ok-make_room.ensures.short in
    small was.entries.items was.entries.items was.entries.items _ was.messages.messages _ _ _ was.payloads.items _
    (action_given c.args.given.now) (sent_given c.args.given.now) _ c.keep_action-action.ensures.few refl
    c.in_ok-make_room.ensures.messages c.in_ok-make_room.ensures.payloads
    c.keep_action-action.ensures.messages c.keep_sent.ensures c.keep_action-action.ensures.payloads c.keep_action-action.ensures.value
    (omega (arith, many, first)) (omega (arith, second))

pub returns-clause-added : goal.returns-clause-added
returns-clause-added c =
    let was = c.self.inside in
    said _ was.entries.items _ _ was.messages.messages _ _ _ was.payloads.items _ (action_given c.args.given.now)
    (sent_given c.args.given.now) _ c.keep_action-action.ensures.few c.in_ok-make_room.ensures.entries
    c.in_ok-make_room.ensures.messages c.in_ok-make_room.ensures.payloads
    c.keep_action-action.ensures.messages c.keep_sent.ensures c.keep_action-action.ensures.payloads c.keep_action-action.ensures.value _
    c.stored_action.ensures c.len-start.ensures c.len-2.ensures c.push_reserved.ensures.items c.self.invariant
    ∙ ap (λ (cs : List Claim). cs ++ claim (action_given c.args.given.now) (sent_given c.args.given.now) ∷ []) c.self.view_is

pub invariant_of-self-2 : goal.invariant_of-self-2
invariant_of-self-2 c =
    let was = c.self.inside in
    all_stand _ was.entries.items _ _ was.messages.messages _ _ _ was.payloads.items _ (action_given c.args.given.now)
    (sent_given c.args.given.now) _ c.keep_action-action.ensures.few c.in_ok-make_room.ensures.entries
    c.in_ok-make_room.ensures.messages c.in_ok-make_room.ensures.payloads
    c.keep_action-action.ensures.messages c.keep_sent.ensures c.keep_action-action.ensures.payloads c.keep_action-action.ensures.value _
    c.stored_action.ensures c.len-start.ensures c.len-2.ensures c.push_reserved.ensures.items c.self.invariant
