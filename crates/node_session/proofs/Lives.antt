-- The processes of a node, one after another, are one history.
use Rattle.std.proofs.Common.{◌≡◌, ℕ, List, [], ◌∷◌, ◌++◌, refl, sym, subst}
use Rattle.histories.specs.NodeState.{NodeState}
use Rattle.histories.specs.HistoryEvent.{Entry}
use Rattle.histories.specs.declared.history_event.HistoryEvent.TheVariants.{Crashed}
use Rattle.histories.specs.After.{after}
use Rattle.histories.specs.History.{Follows, FollowsSlots, replay}
use Rattle.node_session.specs.Chains.{entries_in}
use Rattle.node_session.specs.Stamping.{life_begun, life_left}
use Rattle.node_session.specs.Lives.{LivesFollow, entries_over}
use Rattle.node_session.proofs.Histories.{one}

abbrev IsHistory : ℕ → ℕ → ℕ → NodeState → List Entry → NodeState → Type 0
IsHistory self nodes slots s es t = Follows self nodes s es × FollowsSlots slots self nodes s es × (replay self nodes s es ≡ t)

both : (self nodes slots : ℕ) (s : NodeState) (es fs : List Entry) (t u : NodeState) → IsHistory self nodes slots s es t
    → IsHistory self nodes slots t fs u → IsHistory self nodes slots s (es ++ fs) u
both self nodes slots s [] fs t u first second = subst (λ (x : NodeState). IsHistory self nodes slots x fs u) (sym first.2) second
both self nodes slots s (e ∷ es) fs t u first second =
    let behind = both self nodes slots (after self nodes s e.what) es fs t u (first.0.2, first.1.1, first.2) second in
    ((first.0.0, first.0.1, behind.0), (first.1.0, behind.1), behind.2)

pub lives_follow : LivesFollow
lives_follow self nodes slots s [] lives = (tt, tt, refl)
lives_follow self nodes slots s (life ∷ more) lives =
    let here = one self nodes slots (life_begun self nodes s life) life.lines life.all lives.0 lives.1 in
    let later = lives_follow self nodes slots (life_left self nodes s life) more lives.2 in
    let all = both self nodes slots (after self nodes s Crashed) (entries_in self nodes (after self nodes s Crashed) life.all)
    (entries_over self nodes (life_left self nodes s life) more) (life_left self nodes s life) _ here later in
    ((tt, refl, all.0), (tt, all.1), all.2)
