use Rattle.std.proofs.Common.{◌≡◌, List, sym, ◌∙◌, subst}
use Rattle.std.proofs.lemmas.Option.{same_Some}
use Rattle.wire_msg.specs.Envelope.{Envelope}
use Rattle.trace_check.specs.Posts.{Posts}
use Rattle.trace_check.proofs.Keyed.{posts_put}
use Rattle.trace_check.proofs.sent_messages.SentMessages.add.Goals as goal

pub returns : goal.returns
returns c = λ m at.
    let new = c.insert.new.self.keys in
    let same : c.in-Some.message ≡ m = same_Some _ _ (sym c.in-Some.is ∙ c.lend.ensures ∙ at) in
    subst (λ (e : Envelope). Posts c.args.self.now new e) same
    (subst (λ (old : List Envelope). Posts old new c.in-Some.message) c.self.view_is
    (posts_put c.self.inside.messages.keys new c.in-Some.message c.in-Ok.field-0 c.in-Ok.ensures.keys c.in-Ok.ensures.added))
