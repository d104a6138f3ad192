-- A worker takes no more turns than the history has, so that the number of a turn fits into a line.
use Rattle.std.proofs.Common.{◌≡◌, ◌+◌, ◌<◌, ◌≤◌, List, [], ◌∷◌, length, ap, arith}
use Rattle.node_lock.specs.declared.held.TheConstants.{MOST_ENTRIES}
use Rattle.node_lock.specs.declared.worker.Turns.{Turns}
use Rattle.node_lock.specs.declared.worker.Worker.{Worker}
use Rattle.node_lock.specs.declared.worker.Worker.TheVariants.{Intake, Clock, Operator}
use Rattle.node_lock.specs.HeldView.{HeldView, HeldInvariant}
use Rattle.node_lock.specs.History.{Turn, PlanStep}
use Rattle.node_lock.specs.Path.{Path}
use Rattle.node_lock.specs.Planned.{Planned, no_turns, turns_of, with_turn}

one_more : (c : Turns) (by w : Worker) → turns_of (with_turn c by) w ≤ turns_of c w + 1
one_more c Intake Intake = omega arith
one_more c Intake Clock = omega arith
one_more c Intake Operator = omega arith
one_more c Clock Intake = omega arith
one_more c Clock Clock = omega arith
one_more c Clock Operator = omega arith
one_more c Operator Intake = omega arith
one_more c Operator Clock = omega arith
one_more c Operator Operator = omega arith

none_yet : (w : Worker) → turns_of no_turns w ≤ 0
none_yet Intake = omega arith
none_yet Clock = omega arith
none_yet Operator = omega arith

few_since : (p : Planned) (c d : Turns) (ts : List Turn) (w : Worker) → Path (PlanStep p) c ts d → turns_of d w ≤ turns_of c w + length ts
few_since p c d [] w same = let e : turns_of c w ≡ turns_of d w = ap (λ (x : Turns). turns_of x w) same in omega (arith, e)
few_since p c d (t ∷ ts) w path =
    let rest = few_since p path.0 d ts w path.2 in
    let step : turns_of path.0 w ≡ turns_of (with_turn c t.worker) w = ap (λ (x : Turns). turns_of x w) path.1.turns in
    let one = one_more c t.worker w in
    omega (arith, rest, step, one)

few_of : (h : HeldView) (w : Worker) → HeldInvariant h → length h.history < MOST_ENTRIES → turns_of h.turns w < 4294967296
few_of h w k few =
    let since = few_since h.plans no_turns h.turns h.history w k.turns in
    let none = none_yet w in
    omega (arith, since, none, few)

-- where the history isn't full, the number of each worker's next turn is below 2^32
pub few_turns : (h : HeldView) → HeldInvariant h → length h.history < MOST_ENTRIES
    → (h.turns.intake < 4294967296) × (h.turns.clock < 4294967296) × (h.turns.operator < 4294967296)
few_turns h k few = (few_of h Intake k few, few_of h Clock k few, few_of h Operator k few)
