use Rattle.std.proofs.Common.{Option, [], OnOk, Result, Ok, Err, refl, sym, subst}
use Rattle.wire_msg.specs.Envelope.{Envelope}
use Rattle.histories.specs.declared.history_event.HistoryEvent.TheVariants.{NoOp}
use Rattle.histories.specs.declared.history_event.NoOpKind.TheVariants.{Nothing}
use Rattle.node_lock.specs.Asking.{asked_by}
use Rattle.node_lock.specs.Doing.{TurnDid}
use Rattle.node_lock.proofs.Losing.{none_noted}
use Rattle.node_lock.proofs.Taking.{nothing_sent}
use Rattle.node_lock.proofs.Wearing.{rests_area}
use Rattle.node_lock.proofs.turn.Site.receive.Goals as goal

on_ok : {A E P Q R : Type 0} (result : Result A E) → OnOk result P → OnOk result Q → (P → Q → R) → OnOk result R
on_ok (Ok x) p q f = f p q
on_ok (Err e) p q f = tt

pub returns-in-None-clause-taken : goal.returns-in-None-clause-taken
returns-in-None-clause-taken c =
    let node = c.args.self.now.node in
    on_ok c.rest.result c.rest.ensures.taken c.rest.ensures.number (λ turns number. (
      record { what = NoOp Nothing; sent = [] },
      record {
        did = subst (λ (o : Option Envelope). TurnDid node (asked_by o) (NoOp Nothing) [] node) (sym c.in-None.is) (refl, refl, refl);
        id = refl;
        nodes = refl;
        sent = nothing_sent _;
        turns = turns;
        lost = none_noted _ _ _ _ c.rest.ensures.lost;
        number = number;
        area = rests_area _;
      },
    ))
