use Rattle.std.proofs.Common.{ℕ, List, [], ◌∷◌, refl}
use Rattle.wire_msg.specs.Envelope.{Envelope}
use Rattle.node_core.specs.State.{State}
use Rattle.node_core.specs.Quiet.{IsQuiet}
use Rattle.node_core.specs.Start.{alone}
use Rattle.node_core.proofs.PublicLaws.{quiet_wants, stays_quiet}
use Rattle.invite_console.specs.Answer.{delivery, first_count, next_count, state_after}
use Rattle.invite_console.proofs.answers.needs_no_disk.Goals as goal

quiet_still : (nodes self : ℕ) (before : List Envelope) (s : State) → IsQuiet s → IsQuiet (state_after nodes self before s)
quiet_still nodes self [] s quiet = quiet
quiet_still nodes self (m ∷ before) s quiet =
    quiet_still nodes self before (delivery nodes self m s).state (stays_quiet self m.sender m.body next_count s quiet)

pub returns : goal.returns
returns c id nodes before m = quiet_wants id m (state_after nodes id before (alone id first_count))
    (quiet_still nodes id before (alone id first_count) refl)
