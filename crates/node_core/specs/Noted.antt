-- What the changes make that are told in a few words.
use Rattle.std.specs.Prelude.{ℕ, List, true, if◌then◌else◌, Some}
use Rattle.node_core.specs.declared.state_update.StateUpdate.{StateUpdate}
use Rattle.node_core.specs.declared.state_update.StateUpdate.TheVariants.{Found, Accepted, Joined, Shared, Told, Awaited}
use Rattle.node_core.specs.declared.phase.Phase.{Phase}
use Rattle.node_core.specs.declared.phase.Phase.TheVariants.{Reorganization, Normal}
use Rattle.node_core.specs.State.{State}
use Rattle.node_core.specs.Words.{is_empty}
use Rattle.node_core.specs.Start.{entering}

-- the phase of a coordinator that waits for these
abbrev pub waiting_for : List ℕ → Phase
waiting_for unready = if is_empty unready then Normal else Reorganization

abbrev pub noted : StateUpdate → State → State
noted (Found found) s = record s { found = found; checking = true }
noted (Accepted up) s = record s { up = up }
noted (Joined group) s = entering Reorganization group
noted (Shared task) s = record s { task = Some task; unready = s.up; phase = waiting_for s.up }
noted (Told task) s = record s { task = Some task; phase = Normal }
noted (Awaited unready) s = record s { unready = unready; phase = waiting_for unready }
