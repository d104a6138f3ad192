-- What the step of an act is, by what comes of it: an event, a rest or a compaction at a node, a change of the network, or a denial.
use Rattle.std.proofs.Common.{◌≡◌, ◌⊎◌, ℕ, Bool, true, false, List, slice_get, refl, sym, ap, subst, inl, inr, Option, Some, None}
use Rattle.std.specs.Prelude.{if◌then◌else◌, ◌&&◌, nat_lt, option_map, Result, Ok, Err, MatchResult}
use Rattle.wire_msg.specs.Envelope.{Envelope}
use Rattle.node_core.specs.declared.event.Event.{Event}
use Rattle.node_core.specs.declared.event.Event.TheVariants as on
use Rattle.node_core.specs.declared.fault.Refusal.{Refusal}
use Rattle.histories.specs.declared.history_event.HistoryEvent.{HistoryEvent}
use Rattle.histories.specs.declared.history_event.HistoryEvent.TheVariants.{NoOp, Crashed}
use Rattle.histories.specs.declared.history_event.NoOpKind.TheVariants.{Nothing}
use Rattle.histories.specs.HistoryEvent.{brought, AreAddressed}
use Rattle.schedule.specs.declared.act.Act.{Act}
use Rattle.schedule.specs.declared.act.Act.TheVariants as act
use Rattle.sim_net.specs.declared.fault.NetFault.{NetFault}
use Rattle.sim_net.specs.Network.{Network, message_at, delivery, after_lost, after_cut, after_mend}
use Rattle.runs.specs.declared.outcome.ActRefusal.{ActRefusal}
use Rattle.runs.specs.declared.outcome.ActRefusal.TheVariants.{Node, Net as OfNet, Stranger}
use Rattle.runs.specs.World.{World}
use Rattle.runs.specs.Step.{Step, Takes, Changes, Denies}
use Rattle.runs.specs.Run.{IsBrought}
use Rattle.runs.specs.Acts.{At, IsStepBy}
use Rattle.runs.specs.Events.{event_at}
use Rattle.runs.proofs.Bringing.{BringsBy}
use Rattle.runs.proofs.Runs.{comes_sent}

-- the event of an act, and its node, where these were sent
abbrev pub event_by : List Envelope → Act → Option (ℕ × Event)
event_by sent (act.Deliver k) = option_map (λ (m : Envelope). (m.receiver, on.Deliver m)) (slice_get sent k)
event_by sent a = event_at a

-- equal pairs have equal parts
pub same_event : (m n : ℕ) (x event : Event) → ◌≡◌ {A = Option (ℕ × Event)} (Some (m, x)) (Some (n, event)) → (m ≡ n) × (x ≡ event)
same_event m n x event is =
    (let both : ◌≡◌ {A = ℕ × Event} (m, x) (n, event) = cc is in (ap (λ (p : ℕ × Event). p.0) both, ap (λ (p : ℕ × Event). p.1) both))

-- the act is this event at this node, which is brought what comes under this number
pub record IsEvent (w : World) (a : Act) (n k : ℕ) (event : Event) : Type 0 where
  pub is : event_by w.net.sent a ≡ Some (n, event)
  pub comes : IsBrought w k (brought (Some event))
  pub addressed : AreAddressed n (brought (Some event))

-- what no node refuses, the network refuses, or it is at a node outside the cluster
abbrev pub NoFault : ActRefusal → Type 0
NoFault why = (fault : Refusal) → why ≡ Node fault → ⊥

-- what comes of no event at a node, where C says what of a compaction
abbrev pub Rests : (ℕ → HistoryEvent → Type 0) → ℕ → HistoryEvent → Type 0
Rests C n what = C n what ⊎ ((what ≡ NoOp Nothing) ⊎ (what ≡ Crashed))

-- what holds of all these holds of the step of each act
module _ (E : ℕ → Event → HistoryEvent → Type 0) (C : ℕ → HistoryEvent → Type 0) (nodes : ℕ) (w : World) (Q : Act → Step → Type 0)
    (happens : (a : Act) (n k : ℕ) (event : Event) (what : HistoryEvent) → nat_lt n nodes ≡ true → IsEvent w a n k event → E n event what
    → Q a (Takes n k what))
    (rests : (a : Act) (n : ℕ) (what : HistoryEvent) → nat_lt n nodes ≡ true → event_by w.net.sent a ≡ None → Rests C n what
    → Q a (Takes n 0 what))
    (changes : (a : Act) (net : Network) → event_by w.net.sent a ≡ None → net.sent ≡ w.net.sent → Q a (Changes net))
    (denies : (a : Act) (n : ℕ) (why : ActRefusal) → NoFault why → Q a (Denies n why)) where
  at_node : (a : Act) (known : Bool) (n k : ℕ) (P : HistoryEvent → Type 0) (step : Step)
      → ((what : HistoryEvent) → known ≡ true → P what → Q a (Takes n k what)) → At known n k P step → Q a step
  at_node a true n k P step f h = subst (Q a) (sym h.1) (f h.0 refl h.2)
  at_node a false n k P step f h = subst (Q a) (sym h) (denies a 0 Stranger (λ fault is. absurd cc))

  event_here : (a : Act) (n k : ℕ) (event : Event) (step : Step) → IsEvent w a n k event → At (nat_lt n nodes) n k (E n event) step
      → Q a step
  event_here a n k event step is h = at_node a (nat_lt n nodes) n k (E n event) step (λ what known e. happens a n k event what known is e) h

  delivers : (k : ℕ) (d : Result Envelope NetFault) (step : Step) → delivery w.net k ≡ d → BringsBy E nodes w.net k d step
      → Q (act.Deliver k) step
  delivers k (Ok m) step is h = event_here (act.Deliver k) m.receiver k (on.Deliver m) step (record {
    is = ap (option_map {U = ℕ × Event} (λ (x : Envelope). (x.receiver, on.Deliver x))) (comes_sent w.net k m is);
    comes = (is, tt);
    addressed = (refl, tt);
  }) h
  delivers k (Err why) step is h = subst (Q (act.Deliver k)) (sym h) (denies _ _ (OfNet why) (λ fault no. absurd cc))

  loses : (k : ℕ) (d : Result Envelope NetFault) (step : Step)
      → MatchResult d (λ (m : Envelope). step ≡ Changes (after_lost w.net k)) (λ (why : NetFault). step ≡ Denies 0 (OfNet why))
      → Q (act.Lose k) step
  loses k (Ok m) step h = subst (Q (act.Lose k)) (sym h) (changes (act.Lose k) _ refl refl)
  loses k (Err why) step h = subst (Q (act.Lose k)) (sym h) (denies (act.Lose k) 0 (OfNet why) (λ fault no. absurd cc))

  links : (a : Act) (known : Bool) (net : Network) (step : Step) → event_by w.net.sent a ≡ None → net.sent ≡ w.net.sent
      → step ≡ (if known then Changes net else Denies 0 Stranger) → Q a step
  links a true net step none same h = subst (Q a) (sym h) (changes a net none same)
  links a false net step none same h = subst (Q a) (sym h) (denies a 0 Stranger (λ fault no. absurd cc))

  pub by_act : (a : Act) (step : Step) → IsStepBy E C nodes w.net a step → Q a step
  by_act (act.Timer n timer) step h = event_here _ n 0 (on.Timer timer) step (record { is = refl; comes = tt; addressed = tt }) h
  by_act (act.Deliver k) step h = delivers k (delivery w.net k) step refl h
  by_act (act.Lose k) step h = loses k (message_at w.net k) step h
  by_act (act.Cut x y) step h = links (act.Cut x y) (nat_lt x nodes && nat_lt y nodes) (after_cut w.net x y) step refl refl h
  by_act (act.Mend x y) step h = links (act.Mend x y) (nat_lt x nodes && nat_lt y nodes) (after_mend w.net x y) step refl refl h
  by_act (act.Submit n work) step h = event_here _ n 0 (on.Submit work) step (record { is = refl; comes = tt; addressed = tt }) h
  by_act (act.Finish n origin id) step h = event_here _ n 0 (on.Finish origin id) step (record { is = refl; comes = tt; addressed = tt }) h
  by_act (act.Arm n calls) step h = at_node (act.Arm n calls) (nat_lt n nodes) n 0 (λ (what : HistoryEvent). what ≡ NoOp Nothing) step
      (λ what known is. rests _ n what known refl (inr (inl is))) h
  by_act (act.Crash n fill) step h = at_node (act.Crash n fill) (nat_lt n nodes) n 0 (λ (what : HistoryEvent). what ≡ Crashed) step
      (λ what known is. rests _ n what known refl (inr (inr is))) h
  by_act (act.Recover n) step h = event_here _ n 0 on.Recover step (record { is = refl; comes = tt; addressed = tt }) h
  by_act (act.Compact n) step h = at_node (act.Compact n) (nat_lt n nodes) n 0 (C n) step
      (λ what known c. rests _ n what known refl (inl c)) h

-- what an act is denied, no node refuses
pub no_fault : (E : ℕ → Event → HistoryEvent → Type 0) (C : ℕ → HistoryEvent → Type 0) (nodes : ℕ) (w : World) (a : Act) (named : ℕ)
    (why : ActRefusal) → IsStepBy E C nodes w.net a (Denies named why) → NoFault why
no_fault E C nodes w a named why h = by_act E C nodes w Denied (λ a n k event what known is e. tt) (λ a n what known none is. tt)
    (λ a net none same. tt) (λ a n why no. no) a (Denies named why) h
  where
    Denied : Act → Step → Type 0
    Denied a (Denies n why) = NoFault why
    Denied a _ = Unit {0}
