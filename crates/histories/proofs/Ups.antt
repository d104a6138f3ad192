-- An event leaves a node that is up, up.
use Rattle.std.proofs.Common.{◌≡◌, ℕ, false, List}
use Rattle.job_model.specs.declared.job.Job.{Job}
use Rattle.node_core.specs.declared.event.Event.{Event}
use Rattle.node_core.specs.State.{State, is_down}
use Rattle.node_core.specs.Effects.{effect_of}
use Rattle.histories.proofs.Reaches.{any_reaches}

pub stays_up : (nodes self : ℕ) (pending : List Job) (event : Event) (answer : ℕ) (s : State) → is_down s.phase ≡ false
    → is_down (effect_of nodes self pending event answer s).state.phase ≡ false
stays_up nodes self pending event answer s up = (any_reaches nodes self pending event answer s).up up
