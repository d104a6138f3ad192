-- The counts of the groups that a node leads rise.
use Rattle.std.proofs.Common.{◌≡◌, ◌≢◌, ℕ, ◌≤◌, List, [], ◌∷◌, ◌++◌, length, refl, sym, ◌∙◌, ap, subst, inl, inr, arith, Option, Some, None}
use Rattle.std.proofs.Common.{append_assoc}
use Rattle.group_task.specs.Group.{Group}
use Rattle.group_task.specs.Assignment.{Assignment}
use Rattle.job_model.specs.declared.node_command.NodeCommand.{NodeCommand as Command}
use Rattle.job_model.specs.declared.node_command.NodeCommand.TheVariants.{Raise, Put, Done}
use Rattle.job_model.specs.Durable.{Durable}
use Rattle.job_model.specs.Fold.{after_wanted}
use Rattle.wire_msg.specs.Envelope.{Envelope}
use Rattle.node_core.specs.declared.phase.Phase.{Phase}
use Rattle.node_core.specs.declared.phase.Phase.TheVariants.{Down, Election, Reorganization, Normal}
use Rattle.node_core.specs.State.{State}
use Rattle.node_core.specs.Words.{own_group}
use Rattle.histories.specs.Book.{IsInGroup}
use Rattle.histories.specs.NodeState.{NodeState, wants_at}
use Rattle.histories.specs.HistoryEvent.{Entry}
use Rattle.histories.specs.declared.history_event.HistoryEvent.{HistoryEvent}
use Rattle.histories.specs.declared.history_event.HistoryEvent.TheVariants.{Did, Faulted, Crashed, Recovered, RaiseFailed}
use Rattle.histories.specs.After.{after, raised}
use Rattle.histories.specs.Possible.{IsPossible}
use Rattle.histories.specs.History.{Follows, replay}
use Rattle.histories.proofs.PublicLaws.{AnyGroup, AnyWork, GroupMove, assigns, calls, completes, entry_does, falls, joins, starts_alone}
use Rattle.histories.proofs.PublicLaws.{settled_grows, stays, takes, wanted_grows}
use Rattle.processes.specs.Files.{at_first}
use Rattle.processes.specs.Jobs.{LeaderCountsRise}
use Rattle.processes.proofs.Jobs.{replay_both}

-- who leads a group gave it the count of its disk
abbrev GivesLast : ℕ → State → ℕ → Type 0
GivesLast self s counter = s.phase ≢ Down → s.coordinator ≡ self → s.group ≡ own_group self counter

abbrev LeadsLast : ℕ → NodeState → Type 0
LeadsLast self s = GivesLast self s.state s.durable.counter

up_by : (p q : Phase) → p ≡ q → q ≢ Down → p ≢ Down
up_by p q is up down = up (sym is ∙ down)

moved : (self before now : ℕ) (old new : State) (came : List Envelope) (given : List ℕ) (made : List Assignment)
    → GroupMove self old came given made new → (given ≡ [] → now ≡ before)
    → ((k : ℕ) → given ≡ k ∷ [] → now ≡ k) → GivesLast self old before → GivesLast self new now
moved self before now old new came given made (stays ph co gr ta gi ma) same raised h up leads =
    gr ∙ h (up_by old.phase new.phase (sym ph) up) (sym co ∙ leads) ∙ ap (own_group self) (sym (same gi))
moved self before now old new came given made (falls ph gi ma) same raised h up leads = absurd (up ph)
moved self before now old new came given made (starts_alone k gi is ma) same raised h up leads = ap (λ (s : State). s.group) is
    ∙ ap (own_group self) (sym (raised k gi))
moved self before now old new came given made (calls k gi ph co gr ma) same raised h up leads = gr ∙ ap (own_group self) (sym (raised k gi))
moved self before now old new came given made (joins group ne ph co gr gi ma) same raised h up leads = absurd (ne (sym co ∙ leads))
moved self before now old new came given made (assigns members ph has ta co gr either gi ma) same raised h up leads =
    gr ∙ h (λ down. (let both : Election ≡ Down = sym ph ∙ down in absurd cc)) (sym co ∙ leads) ∙ ap (own_group self) (sym (same gi))
moved self before now old new came given made (takes m task ph is body from of has ta co gr normal gi ma) same raised h up leads =
    gr ∙ h (λ down. (let both : Reorganization ≡ Down = sym ph ∙ down in absurd cc)) (sym co ∙ leads) ∙ ap (own_group self) (sym (same gi))
moved self before now old new came given made (completes ph own ta co gr normal gi ma) same raised h up leads =
    gr ∙ h (λ down. (let both : Reorganization ≡ Down = sym ph ∙ down in absurd cc)) own ∙ ap (own_group self) (sym (same gi))

none_raised : (d : Durable) (wants : Option Command) → raised d wants ≡ [] → (after_wanted d wants).counter ≡ d.counter
none_raised d None is = refl
none_raised d (Some Raise) is = absurd cc
none_raised d (Some (Put work)) is = refl
none_raised d (Some (Done id)) is = refl

one_raised : (d : Durable) (wants : Option Command) (k : ℕ) → raised d wants ≡ k ∷ [] → (after_wanted d wants).counter ≡ k
one_raised d None k is = absurd cc
one_raised d (Some Raise) k is = cc is
one_raised d (Some (Put work)) k is = absurd cc
one_raised d (Some (Done id)) k is = absurd cc

leads_after : (self nodes : ℕ) (s : NodeState) (what : HistoryEvent) → IsPossible self nodes s what → LeadsLast self s
    → LeadsLast self (after self nodes s what)
leads_after self nodes s (Did event) may h =
    let row = entry_does AnyGroup AnyWork AnyWork self nodes s (Did event) may in
    moved self s.durable.counter (after self nodes s (Did event)).durable.counter s.state _ _ _ row.made row.moves
    (none_raised s.durable (wants_at self nodes s event)) (one_raised s.durable (wants_at self nodes s event)) h
leads_after self nodes s (Faulted event) may h = λ up leads. absurd (up refl)
leads_after self nodes s Crashed may h = λ up leads. absurd (up refl)
leads_after self nodes s (Recovered kept) may h = λ up leads. refl
leads_after self nodes s (RaiseFailed kept) may h = λ up leads. absurd (up refl)
leads_after self nodes s what may h = h

counter_more : (self nodes : ℕ) (s : NodeState) (what : HistoryEvent) → s.durable.counter ≤ (after self nodes s what).durable.counter
counter_more self nodes s (Did event) = wanted_grows s.durable (wants_at self nodes s event)
counter_more self nodes s (Recovered kept) = omega (arith, settled_grows kept s)
counter_more self nodes s (RaiseFailed kept) = settled_grows kept s
counter_more self nodes s what = omega arith

all_more : (self nodes : ℕ) (s : NodeState) (es : List Entry) → s.durable.counter ≤ (replay self nodes s es).durable.counter
all_more self nodes s [] = omega arith
all_more self nodes s (e ∷ es) = omega (arith, counter_more self nodes s e.what, all_more self nodes (after self nodes s e.what) es)

all_lead : (self nodes : ℕ) (s : NodeState) (es fs : List Entry) → Follows self nodes s (es ++ fs) → LeadsLast self s
    → LeadsLast self (replay self nodes s es)
all_lead self nodes s [] fs follows h = h
all_lead self nodes s (e ∷ es) fs follows h = all_lead self nodes (after self nodes s e.what) es fs follows.2
    (leads_after self nodes s e.what follows.0 h)

is_up : (phase : Phase) → IsInGroup phase → phase ≢ Down
is_up phase either down = elim either [
  | inl e ↦ (let both : Reorganization ≡ Down = sym e ∙ down in absurd cc)
  | inr e ↦ (let both : Normal ≡ Down = sym e ∙ down in absurd cc)
]

pub leader_counts_rise : LeaderCountsRise
leader_counts_rise cluster over n two in_v in_w leads_v leads_w =
    let nodes = length cluster in
    let s = at_first n two.node.file in
    let follows = over.follows n two.node two.at in
    let none : LeadsLast n s = λ up leads. absurd (up refl) in
    let again : Follows n nodes s ((two.first ++ two.more) ++ two.rest) =
    subst (λ (es : List Entry). Follows n nodes s es) (sym two.whole) follows in
    let whole : Follows n nodes s (two.first ++ (two.more ++ two.rest)) =
    subst (λ (es : List Entry). Follows n nodes s es) (append_assoc two.first two.more two.rest) again in
    let v = all_lead n nodes s two.first (two.more ++ two.rest) whole none (is_up _ in_v) leads_v in
    let w = all_lead n nodes s (two.first ++ two.more) two.rest again none (is_up _ in_w) leads_w in
    let more : (replay n nodes s two.first).durable.counter ≤ (replay n nodes s (two.first ++ two.more)).durable.counter =
    subst (λ (x : NodeState). (replay n nodes s two.first).durable.counter ≤ x.durable.counter)
    (sym (replay_both n nodes s two.first two.more)) (all_more n nodes (replay n nodes s two.first) two.more) in
    omega (arith, more, ap (λ (g : Group). g.count) v, ap (λ (g : Group). g.count) w)
