-- The step of an act that may come where it does is allowed: it is brought the message that the act delivers, and the network keeps what
-- was sent.
use Rattle.std.proofs.Common.{◌≡◌, ℕ, sym, subst, inl, inr, Option, Some}
use Rattle.node_core.specs.declared.event.Event.{Event}
use Rattle.histories.specs.NodeState.{NodeState}
use Rattle.histories.specs.declared.history_event.HistoryEvent.{HistoryEvent}
use Rattle.histories.specs.declared.history_event.HistoryEvent.TheVariants.{NoOp, Crashed}
use Rattle.histories.specs.HistoryEvent.{IsOf, event_of, brought, AreAddressed}
use Rattle.histories.specs.Possible.{IsOfSlots}
use Rattle.schedule.specs.declared.act.Act.{Act}
use Rattle.sim_net.specs.Network.{Network}
use Rattle.runs.specs.World.{World, node_in}
use Rattle.runs.specs.Step.{Step, Takes, Changes, Denies}
use Rattle.runs.specs.Run.{IsAllowed, IsBrought}
use Rattle.runs.specs.Acts.{IsCompaction, IsStepOf, IsLawful}
use Rattle.runs.proofs.Acting.{Rests, by_act}
use Rattle.runs.specs.Growth.{StepOfSlots}
use Rattle.runs.proofs.Runs.{node_there}

pub lawful_of : (slots nodes : ℕ) (w : World) (step : Step) → IsAllowed nodes w step → StepOfSlots slots nodes w step
    → IsLawful slots nodes w step
lawful_of slots nodes w (Takes n number what) may fits =
    (may.0, may.1, may.2, subst (λ (x : NodeState). IsOfSlots slots n nodes x what) (node_there w.states n may.0 may.1) fits)
lawful_of slots nodes w _ may fits = tt

pub slots_of : (slots nodes : ℕ) (w : World) (step : Step) → IsLawful slots nodes w step → StepOfSlots slots nodes w step
slots_of slots nodes w (Takes n number what) may = subst (λ (x : NodeState). IsOfSlots slots n nodes x what)
    (sym (node_there w.states n may.0 may.1)) may.3
slots_of slots nodes w _ may = tt

abbrev Comes : World → ℕ → ℕ → Option Event → Type 0
Comes w n number event = IsBrought w number (brought event) × AreAddressed n (brought event)

comes_by : (w : World) (n number : ℕ) (event : Option Event) (what : HistoryEvent) → event_of what ≡ event → Comes w n number event
    → Comes w n number (event_of what)
comes_by w n number event what is comes = subst (Comes w n number) (sym is) comes

-- it happens as it may: a node is brought what comes, and the network keeps what was sent
abbrev Happens : World → Step → Type 0
Happens w (Takes n number what) = Comes w n number (event_of what)
Happens w (Changes net) = net.sent ≡ w.net.sent
Happens w (Denies n why) = Unit {0}

rests_there : (w : World) (n m number : ℕ) (what : HistoryEvent) → Rests (λ (n : ℕ). IsCompaction (node_in w.states n)) n what
    → Comes w m number (event_of what)
rests_there w n m number (NoOp rest) h = (tt, tt)
rests_there w n m number Crashed h = (tt, tt)
rests_there w n m number _ h = elim h [ inl none ↦ absurd none | inr rest ↦ elim rest [ inl is ↦ absurd cc | inr is ↦ absurd cc ] ]

happens_there : (nodes : ℕ) (w : World) (a : Act) (step : Step) → IsStepOf nodes w a step → Happens w step
happens_there nodes w = by_act (λ (n : ℕ) (event : Event). IsOf event) (λ (n : ℕ). IsCompaction (node_in w.states n)) nodes w
    (λ (a : Act). Happens w)
    (λ a n k event what known is of. comes_by w n k (Some event) what of (is.comes, is.addressed))
    (λ a n what known none rest. rests_there w n n 0 what rest) (λ a net none same. same) (λ a n why no. tt)

pub sent_there : (nodes : ℕ) (w : World) (a : Act) (net : Network) → IsStepOf nodes w a (Changes net) → net.sent ≡ w.net.sent
sent_there nodes w a net h = happens_there nodes w a (Changes net) h

pub allowed_of : (slots nodes : ℕ) (w : World) (a : Act) (step : Step) → IsStepOf nodes w a step → IsLawful slots nodes w step
    → IsAllowed nodes w step
allowed_of slots nodes w a (Takes n number what) h may =
    (let comes = happens_there nodes w a (Takes n number what) h in (may.0, may.1, may.2, comes.0, comes.1))
allowed_of slots nodes w a (Changes net) h may = sent_there nodes w a net h
allowed_of slots nodes w a (Denies n why) h may = tt
