-- Why a run wasn't gathered, by the plans and the gate.
use Rattle.std.specs.Prelude.{◌≡◌, ◌==◌, if◌then◌else◌, ℕ, ◌+◌, ◌<◌, ◌≤◌, ⊤, Bool, IsTrue, List, length, slice_get, Some}
use Rattle.node_lock.specs.declared.held.TheConstants.{MOST_ENTRIES}
use Rattle.node_lock.specs.declared.worker.Worker.{Worker}
use Rattle.node_lock.specs.declared.worker.Worker.TheVariants.{Intake, Clock, Operator}
use Rattle.node_lock.specs.Planned.{Planned, plan_len}
use Rattle.node_threads.specs.declared.fault.ThreadsFault.{ThreadsFault}
use Rattle.node_threads.specs.declared.fault.ThreadsFault.TheVariants.{GateShut, Unfinished, NoMemory, Unpaired}

-- the workers of a node, in their order
abbrev pub worker_by : ℕ → Worker
worker_by n = if n == 0 then Intake else (if n == 1 then Clock else Operator)

-- how many turns a node's workers are to take in all
abbrev pub planned : Planned → ℕ
planned p = length p.intake + length p.clock + length p.operator

-- a history has room for all turns of each of the first nodes
abbrev pub FirstFit : ℕ → List Planned → Type 0
FirstFit n plans = (m : ℕ) (p : Planned) → m < n → slice_get plans m ≡ Some p → planned p ≤ MOST_ENTRIES

-- the gate may shut for a worker of some node, and the nodes before that one have plans that fit
pub record IsShut (may_shut : ℕ → Worker → Bool) (plans : List Planned) : Type 0 where
  pub node : ℕ
  pub worker : Worker
  pub within : node < length plans
  pub shut : IsTrue (may_shut node worker)
  pub before : FirstFit node plans

-- the node is the first whose plans don't fit, and the worker has turns to take
pub record IsUnfinished (plans : List Planned) (n : ℕ) (w : Worker) : Type 0 where
  pub plan : Planned
  pub at : slice_get plans n ≡ Some plan
  pub many : MOST_ENTRIES < planned plan
  pub some : 0 < plan_len plan w
  pub before : FirstFit n plans

-- the fault has its reason
abbrev pub IsReason : (ℕ → Worker → Bool) → List Planned → ThreadsFault → Type 0
IsReason may_shut plans GateShut = IsShut may_shut plans
IsReason may_shut plans (Unfinished n w) = IsUnfinished plans n w
IsReason may_shut plans NoMemory = ⊤
IsReason may_shut plans Unpaired = ⊤
