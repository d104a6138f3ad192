-- What processes answer of jobs: a job that a node takes, and the jobs that it tells later.
use Rattle.std.specs.Prelude.{ℕ, ◌+◌, codes, decimal, ◌≡◌, ◌≢◌, ◌⊎◌, false, List, [], ◌∷◌, ◌++◌, length, slice_get, Some, Ok, Err}
use Rattle.job_model.specs.declared.job.Job.{Job}
use Rattle.node_core.specs.declared.event.Event.{Event}
use Rattle.node_core.specs.declared.event.Event.TheVariants as on
use Rattle.node_core.specs.State.{is_down}
use Rattle.histories.specs.Lists.{IsAmong}
use Rattle.histories.specs.NodeState.{NodeState}
use Rattle.durable_node.specs.declared.fault.NodeFault.{NodeFault}
use Rattle.durable_node.specs.declared.fault.NodeFault.TheVariants as fault
use Rattle.node_session.specs.declared.asked.Asked.TheVariants as ask
use Rattle.node_session.specs.Chains.{LineOutcome, after_turns, event_line_end}
use Rattle.node_session.specs.Lines.{At, after_line, plain_answer}
use Rattle.node_session.specs.Seals.{asked_under}
use Rattle.node_session.specs.Sending.{sent_turns}
use Rattle.node_session.specs.Text.{ok_line, pending_line}
use Rattle.processes.specs.Files.{at_first}
use Rattle.processes.specs.Jobs.{WasFinished}
use Rattle.processes.specs.Processes.{NodeProcesses, AreProcessesOf, Process, begun, histories_of, left}

-- x stands before y in the list
abbrev pub StandsBefore : {A : Type 0} → A → A → List A → Type 0
StandsBefore x y [] = ⊥
StandsBefore x y (z ∷ zs) = ((x ≡ z) × IsAmong y zs) ⊎ StandsBefore x y zs

-- ---- lines

-- a line, where a process was before it, and what came of it
pub record LineAt : Type 0 where
  pub at : At
  pub line : List ℕ
  pub came : LineOutcome

abbrev pub lines_in : ℕ → ℕ → At → List (List ℕ) → List LineOutcome → List LineAt
lines_in self nodes a [] all = []
lines_in self nodes a (line ∷ lines) [] = []
lines_in self nodes a (line ∷ lines) (came ∷ all) = record {
  at = a;
  line = line;
  came =
      came;
} ∷ lines_in self nodes (after_line self nodes a line came) lines all

-- those of all processes of a node, in their order
abbrev pub lines_of_all : ℕ → ℕ → NodeState → List Process → List LineAt
lines_of_all self nodes s [] = []
lines_of_all self nodes s (p ∷ ps) = lines_in self nodes (begun self nodes s p) p.life.lines p.life.all
    ++ lines_of_all self nodes (left self nodes s p) ps

abbrev pub lines_at : List NodeProcesses → ℕ → NodeProcesses → List LineAt
lines_at cluster n node = lines_of_all n (length cluster) (at_first n node.file) node.processes

-- the state that a line leaves
abbrev pub left_by : ℕ → ℕ → LineAt → NodeState
left_by self nodes x = after_turns self nodes x.at.state x.came.turns

-- the line submits this work, and is answered `ok N id ID`
pub record IsAccepted (self nodes : ℕ) (x : LineAt) (job : Job) : Type 0 where
  pub asked : asked_under x.at.seal x.line ≡ ask.Event (on.Submit job.work)
  pub answered : x.at.stopped ≡ false
  pub ended : event_line_end self nodes x.at.state x.came.turns ≡ Ok (Some job.id)

-- ---- the law

-- Where a node answered that it took a job, it has this job pending behind each later line that leaves it up, in that process and in each
-- later one, so it is counted in each `keeps` line; unless a node was told that the job is finished, which had the job of this keeper and
-- id in hand and owned its queue.
abbrev pub AcceptedIsKept : Type 0
AcceptedIsKept = (cluster : List NodeProcesses) → AreProcessesOf cluster → (n : ℕ) (node : NodeProcesses) → slice_get cluster n ≡ Some node
    →
    (x y : LineAt) → StandsBefore x y (lines_at cluster n node) → (job : Job) → IsAccepted n (length cluster) x job →
    is_down (left_by n (length cluster) y).state.phase ≡ false
    → IsAmong job (left_by n (length cluster) y).durable.pending ⊎ WasFinished (histories_of cluster) n job.id

-- a request for an event that is refused, where no device failed, leaves its node as it was, and hands out nothing
abbrev pub RefusedChangesNothing : Type 0
RefusedChangesNothing = (cluster : List NodeProcesses) → AreProcessesOf cluster → (n : ℕ) (node : NodeProcesses)
    → slice_get cluster n ≡ Some node → (x : LineAt) → IsAmong x (lines_at cluster n node) →
    (event : Event) → asked_under x.at.seal x.line ≡ ask.Event event → x.at.stopped ≡ false → (why : NodeFault) → why ≢ fault.Device
    → event_line_end n (length cluster) x.at.state x.came.turns ≡ Err why →
    (left_by n (length cluster) x ≡ x.at.state) × (sent_turns n (length cluster) x.at.state x.came.turns ≡ [])

-- ---- as text

-- the text has this piece
abbrev pub HasPiece : List ℕ → List ℕ → Type 0
HasPiece text piece = (front : List ℕ) × (back : List ℕ) × (text ≡ front ++ piece ++ back)

-- the answer to a line, before its messages are sealed
abbrev pub text_of : ℕ → ℕ → LineAt → List ℕ
text_of self nodes x = plain_answer self nodes x.at (asked_under x.at.seal x.line) x.came

-- the line asks a node that is up for its jobs
pub record AsksJobs (x : LineAt) : Type 0 where
  pub asked : asked_under x.at.seal x.line ≡ ask.Jobs
  pub answered : x.at.stopped ≡ false
  pub up : is_down x.at.state.state.phase ≡ false

-- a job that a node took was answered `ok N id ID`
abbrev pub AcceptedIsAnswered : Type 0
AcceptedIsAnswered = (self nodes : ℕ) (x : LineAt) (job : Job) → IsAccepted self nodes x job
    → (front : List ℕ) × (text_of self nodes x ≡ front ++ ok_line (x.at.count + 1) (codes " id " ++ decimal job.id))

-- and each later answer to `jobs` has the line `pending ID ..` of it, unless it was finished
abbrev pub AcceptedIsTold : Type 0
AcceptedIsTold = (cluster : List NodeProcesses) → AreProcessesOf cluster → (n : ℕ) (node : NodeProcesses) → slice_get cluster n ≡ Some node
    →
    (x y : LineAt) → StandsBefore x y (lines_at cluster n node) → (job : Job) → IsAccepted n (length cluster) x job → AsksJobs y →
    HasPiece (text_of n (length cluster) y) (pending_line job) ⊎ WasFinished (histories_of cluster) n job.id
