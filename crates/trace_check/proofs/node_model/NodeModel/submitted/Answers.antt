use Rattle.std.proofs.Common.{◌≡◌, Option, Vec, Global, length, sym, subst, arith}
use Rattle.std.proofs.lemmas.Bool.Decides.{nat_tests}
use Rattle.std.specs.Prelude.{MatchOption, true}
use Rattle.wire_msg.specs.declared.message.Message.{Message}
use Rattle.histories.specs.declared.history_event.HistoryEvent.TheVariants.{Did}
use Rattle.histories.specs.Possible.{IsPossible}
use Rattle.trace_check.specs.Twins.{Judged, RestsAt}
use Rattle.trace_check.proofs.Rests.{rests_still}
use Rattle.trace_check.proofs.node_model.NodeModel.submitted.Goals as goal

pub invariant_of-self : goal.invariant_of-self
invariant_of-self c =
    let old = c.args.self.now in
    let new = c.stepped.new.self in
    let event = c.args.event.now in
    let empty = c.is_empty.ensures in
    let is_empty = c.if-is_empty.true in
    let none : length c.in-Some.messages.items ≡ 0 = grind (arith, nat_tests, empty, is_empty) in
    let made = subst (λ (o : Option (Vec Message Global)). MatchOption o (IsPossible old.id old.nodes old.node (Did event) → ⊥)
    (λ messages. Judged old new (Did event) messages.items true)) c.in-Some.is c.in_ok-made.ensures.made in (
      c.self-2.invariant.0,
      c.self-2.invariant.1,
      λ is. subst RestsAt (sym c.self-2.view_is)
          (rests_still old new event c.in-Some.messages.items c.requires (subst RestsAt c.self.view_is (c.self.invariant.2 is)) made
          c.in_ok-made.ensures.id c.in_ok-made.ensures.nodes none),
    )
