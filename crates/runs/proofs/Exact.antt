-- What an act is, is exact: the network and the nodes can't refuse at will.
use Rattle.std.proofs.Common.{◌≡◌, ◌≢◌, ◌++◌, ℕ, Bool, true, false, arith, slice_get, List, [], ◌∷◌, refl, sym, ◌∙◌, subst, Some, None}
use Rattle.std.specs.Prelude.{if◌then◌else◌, ◌==◌, ◌<◌, nat_lt, Result, Ok, Err}
use Rattle.std.proofs.lemmas.Bool.Decides.{nat_tests}
use Rattle.node_core.specs.declared.event.Event.TheVariants as on
use Rattle.node_core.specs.declared.fault.Refusal.TheVariants.{Core, Full, Exhausted, AreaExhausted}
use Rattle.histories.specs.NodeState.{NodeState}
use Rattle.wire_msg.specs.Envelope.{Envelope}
use Rattle.schedule.specs.declared.act.Act.{Act}
use Rattle.sim_net.specs.declared.fault.NetFault.{NetFault}
use Rattle.sim_net.specs.Network.{Network, delivery}
use Rattle.runs.specs.World.{World, node_in}
use Rattle.runs.specs.declared.outcome.ActRefusal.{ActRefusal}
use Rattle.runs.specs.Step.{Step, Takes as TakesStep, Changes, Denies, world_after}
use Rattle.runs.specs.Run.{RunFrom, history_in}
use Rattle.runs.specs.Acts.{At, IsRunOf}
use Rattle.runs.proofs.Bringing.{Brings}
use Rattle.runs.specs.Exact.{NoIdleDenial, OneOutcome, ActsRun, RunsOfSlots}
use Rattle.histories.specs.declared.history_event.HistoryEvent.{HistoryEvent}
use Rattle.histories.specs.After.{after, sent_at}
use Rattle.histories.specs.Possible.{IsOfSlots}
use Rattle.histories.specs.History.{FollowsSlots}
use Rattle.histories.specs.HistoryEvent.{IsOf}
use Rattle.histories.proofs.PublicLaws.{eq_nat}
use Rattle.runs.proofs.Runs.{node_there, state_here, state_elsewhere}
use Rattle.runs.proofs.Lawful.{allowed_of, slots_of}

not_denied : (known : Bool) (n k : ℕ) (P : HistoryEvent → Type 0) (named : ℕ) (why : ActRefusal) → known ≡ true
    → At known n k P (Denies named why) → ⊥
not_denied true n k P named why is h = absurd cc (h.1)
not_denied false n k P named why is h = absurd cc

no_idle : (nodes : ℕ) (net : Network) (d : Result Envelope NetFault) (k : ℕ) (m : Envelope) (named : ℕ) (why : ActRefusal) → d ≡ Ok m
    → m.receiver < nodes → Brings nodes net k d (Denies named why) → ⊥
no_idle nodes net (Ok x) k m named why is within h =
    let same : x ≡ m = cc is in
    let known : nat_lt x.receiver nodes ≡ true = rw same (grind (arith, nat_tests, within)) in
    not_denied (nat_lt x.receiver nodes) x.receiver k (IsOf (on.Deliver x)) named why known h
no_idle nodes net (Err y) k m named why is within h = absurd cc

pub no_idle_denial : NoIdleDenial
no_idle_denial nodes w k m named why is within h = no_idle nodes w.net (delivery w.net k) k m named why is within h

pub one_outcome : OneOutcome
one_outcome slots self nodes s event (Core fault) taken fits refused of_slots =
    (let both : None ≡ Some fault = sym taken.1.by_core ∙ refused in absurd cc)
one_outcome slots self nodes s event Full taken fits refused of_slots = absurd (fits of_slots)
one_outcome slots self nodes s event Exhausted taken fits refused of_slots = absurd (taken.1.not_spent refused.1)
one_outcome slots self nodes s event AreaExhausted taken fits refused of_slots = refl

acts_run : (nodes slots : ℕ) (acts : List Act) (steps : List Step) (w : World) → IsRunOf nodes slots w acts steps → RunFrom nodes w steps
acts_run nodes slots [] [] w h = tt
acts_run nodes slots (a ∷ acts) (step ∷ steps) w h = (
  allowed_of slots nodes w a step h.0 h.1,
  acts_run nodes slots acts steps (world_after nodes w step) h.2,
)
acts_run nodes slots _ _ w h = absurd h

pub all_acts_run : ActsRun
all_acts_run nodes slots w acts steps h = acts_run nodes slots acts steps w h

slots_follow : (slots n nodes : ℕ) (acts : List Act) (steps : List Step) (w : World) (s : NodeState) → slice_get w.states n ≡ Some s
    → IsRunOf nodes slots w acts steps → FollowsSlots slots n nodes s (history_in n nodes w steps)
slots_follow slots n nodes [] [] w s at run = tt
slots_follow slots n nodes [] (step ∷ steps) w s at run = absurd run
slots_follow slots n nodes (a ∷ acts) [] w s at run = absurd run
slots_follow slots n nodes (a ∷ acts) (TakesStep m number what ∷ steps) w s at run =
    pick (m == n) refl (λ t u. slots_follow slots n nodes acts steps (world_after nodes w (TakesStep m number what)) t u run.2)
  where
    pick : (b : Bool) → (m == n) ≡ b
        → ((t : NodeState) → slice_get (world_after nodes w (TakesStep m number what)).states n ≡ Some t
        → FollowsSlots slots n nodes t (history_in n nodes (world_after nodes w (TakesStep m number what)) steps))
        → FollowsSlots slots n nodes s ((if b then record { what = what; sent = sent_at m nodes (node_in w.states m) what } ∷ [] else [])
        ++ history_in n nodes (world_after nodes w (TakesStep m number what)) steps)
    pick true is rest =
        let same : m ≡ n = eq_nat m n is in
        let here : slice_get w.states m ≡ Some s = subst (λ (j : ℕ). slice_get w.states j ≡ Some s) (sym same) at in
        let of_slots : IsOfSlots slots m nodes s what = subst (λ (x : NodeState). IsOfSlots slots m nodes x what)
        (node_there w.states m s here) (slots_of slots nodes w (TakesStep m number what) run.1) in (
          subst (λ (j : ℕ). IsOfSlots slots j nodes s what) same of_slots,
          rest (after n nodes s what) (state_here m n nodes what w.states s same at),
        )
    pick false is rest =
        let ne : n ≢ m = grind (arith, nat_tests) in
        rest s (state_elsewhere m n nodes what w.states ne ∙ at)
slots_follow slots n nodes (a ∷ acts) (Changes net ∷ steps) w s at run =
    slots_follow slots n nodes acts steps (world_after nodes w (Changes net)) s at run.2
slots_follow slots n nodes (a ∷ acts) (Denies named why ∷ steps) w s at run = slots_follow slots n nodes acts steps w s at run.2

pub runs_of_slots : RunsOfSlots
runs_of_slots nodes slots w acts steps run n s at = slots_follow slots n nodes acts steps w s at run
