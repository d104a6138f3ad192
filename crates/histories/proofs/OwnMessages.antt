-- Each message that a node sends has the node as its sender.
use Rattle.std.proofs.Common.{◌≡◌, ℕ, List, [], ◌∷◌, sym, subst}
use Rattle.job_model.specs.Answer.{answer_to}
use Rattle.wire_msg.specs.Envelope.{Envelope}
use Rattle.histories.specs.NodeState.{NodeState, wants_at}
use Rattle.histories.specs.declared.history_event.HistoryEvent.{HistoryEvent}
use Rattle.histories.specs.declared.history_event.HistoryEvent.TheVariants.{Did}
use Rattle.histories.specs.After.{after, sent_at}
use Rattle.histories.specs.History.{sent_in}
use Rattle.histories.specs.Ends.{AreOf, HistorySendsItsOwn}
use Rattle.histories.proofs.Among.{each_append, each_more}
use Rattle.histories.proofs.Reaches.{AnySaid, Goes, any_reaches}

entry_of : (self nodes : ℕ) (s : NodeState) (what : HistoryEvent) → AreOf self (sent_at self nodes s what)
entry_of self nodes s (Did event) = each_more (Goes AnySaid self) (λ (m : Envelope). m.sender ≡ self) (sent_at self nodes s (Did event))
    (λ m goes. goes.0)
    (any_reaches nodes self s.durable.pending event (answer_to s.durable (wants_at self nodes s event)) s.state).sent
entry_of self nodes s what = tt

-- each message that a history sends
pub senders : HistorySendsItsOwn
senders self nodes s [] follows = tt
senders self nodes s (e ∷ es) follows =
    each_append (λ (m : Envelope). m.sender ≡ self) e.sent (sent_in es)
    (subst (λ (ms : List Envelope). AreOf self ms) (sym follows.1) (entry_of self nodes s e.what))
    (senders self nodes (after self nodes s e.what) es follows.2)
