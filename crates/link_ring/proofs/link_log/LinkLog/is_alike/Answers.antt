use Rattle.std.proofs.Common.{◌≡◌, subst, slice_get}
use Rattle.message_list.specs.PackedMessages.{MessagesKept}
use Rattle.link_ring.proofs.Passing.{all_passed, alike, passed_read}
use Rattle.link_ring.proofs.link_log.LinkLog.is_alike.Goals as goal

pub returns-in-Short : goal.returns-in-Short
returns-in-Short c = λ yes.
    let was = c.self.inside in
    let others = c.other.inside in
    let place = c.args.place in
    let own = c.in-Some-Some.own.now in
    let their = c.in-Some-Some.others.now in
    let first = c.in-Some-Some.ensures.lookup in
    let second = c.in-Some-Some.ensures'.lookup in
    let here = passed_read c.deref.result.now was.passed.items place own c.deref.ensures.value first.3.0 first.1 in
    let there = passed_read c.deref-2.result.now others.passed.items place their c.deref-2.ensures.value second.3.0 second.1 in
    let ours = all_passed was.long.messages was.passed.items in
    subst (λ (log : MessagesKept). slice_get log.messages place ≡ slice_get c.args.other.now.messages place) c.self.view_is
    (subst (λ (log : MessagesKept). slice_get ours place ≡ slice_get log.messages place) c.other.view_is
    (alike was.long.messages others.long.messages was.passed.items others.passed.items place own their c.in-Short.field-0
    here there (c.is_as.ensures.0 yes) c.in-Short.is))
