-- What comes of lines, one after another, and the answers to them.
use Rattle.std.specs.Prelude.{ℕ, List, [], ◌∷◌, ◌++◌, Bool, true, false, Option}
use Rattle.node_timers.specs.Retransmission.{Waits}
use Rattle.histories.specs.NodeState.{NodeState}
use Rattle.node_session.specs.declared.asked.Asked.{Asked}
use Rattle.node_session.specs.Chains.{LineOutcome, IsNone, IsTold, MayCome, after_turns, is_failed, line_end, next, waits_begun}
use Rattle.node_session.specs.Chains.{waits_turns}
use Rattle.node_session.specs.Seals.{Seals, asked_under, life_of, sealed_behind, taken_under, written}
use Rattle.node_session.specs.Text.{answer}

-- where a session is
pub record At : Type 0 where
  -- the device failed: no line is answered any more
  pub stopped : Bool
  -- how many requests there were
  pub count : ℕ
  pub state : NodeState
  -- the messages that it waits for
  pub waits : Waits
  -- what it keeps under a key
  pub seal : Option Seals

-- ---- one line

-- the answer before its messages are sealed
abbrev pub plain_answer : ℕ → ℕ → At → Asked → LineOutcome → List ℕ
plain_answer self nodes a asked came = answer self nodes (next a.count asked) a.state a.waits asked came

-- how it is written: the messages go with the count that the node keeps behind the line
abbrev pub written_answer : ℕ → ℕ → At → Asked → Option Seals → LineOutcome → List ℕ
written_answer self nodes a asked seal came = written seal (life_of (after_turns self nodes a.state came.turns))
    (plain_answer self nodes a asked came)

abbrev pub after_asked : ℕ → ℕ → At → Asked → Option Seals → LineOutcome → At
after_asked self nodes a asked seal came = record {
  stopped = is_failed (line_end self nodes a.state came.turns);
  count = next a.count asked;
  state = after_turns self nodes a.state came.turns;
  waits = waits_turns self nodes a.state came.turns (waits_begun asked a.waits);
  seal = sealed_behind seal (life_of (after_turns self nodes a.state came.turns)) (plain_answer self nodes a asked came);
}

-- no line is answered once the device failed
abbrev pub answer_by : ℕ → ℕ → Bool → At → List ℕ → LineOutcome → List ℕ
answer_by self nodes true a line came = []
answer_by self nodes false a line came = written_answer self nodes a (asked_under a.seal line) (taken_under a.seal line) came

abbrev pub after_by : ℕ → ℕ → Bool → At → List ℕ → LineOutcome → At
after_by self nodes true a line came = a
after_by self nodes false a line came = after_asked self nodes a (asked_under a.seal line) (taken_under a.seal line) came

-- the answer to a line, of which this came
abbrev pub answer_at : ℕ → ℕ → At → List ℕ → LineOutcome → List ℕ
answer_at self nodes a line came = answer_by self nodes a.stopped a line came

-- and where the session is behind it
abbrev pub after_line : ℕ → ℕ → At → List ℕ → LineOutcome → At
after_line self nodes a line came = after_by self nodes a.stopped a line came

-- nothing comes of a line once the device failed
abbrev pub Comes : ℕ → ℕ → ℕ → Bool → NodeState → Asked → LineOutcome → Type 0
Comes self nodes slots true s asked came = IsNone came.turns
Comes self nodes slots false s asked came = MayCome self nodes slots s asked came.turns
    × IsTold asked (after_turns self nodes s came.turns) came.due

-- this may come of it
abbrev pub ComesOf : ℕ → ℕ → ℕ → At → List ℕ → LineOutcome → Type 0
ComesOf self nodes slots a line came = Comes self nodes slots a.stopped a.state (asked_under a.seal line) came

-- ---- several

abbrev pub after_lines : ℕ → ℕ → At → List (List ℕ) → List LineOutcome → At
after_lines self nodes a [] all = a
after_lines self nodes a (line ∷ lines) [] = a
after_lines self nodes a (line ∷ lines) (came ∷ all) = after_lines self nodes (after_line self nodes a line came) lines all

abbrev pub answers : ℕ → ℕ → At → List (List ℕ) → List LineOutcome → List ℕ
answers self nodes a [] all = []
answers self nodes a (line ∷ lines) [] = []
answers self nodes a (line ∷ lines) (came ∷ all) = answer_at self nodes a line came
    ++ answers self nodes (after_line self nodes a line came) lines all

-- these came of these lines, one for each
abbrev pub AreOf : ℕ → ℕ → ℕ → At → List (List ℕ) → List LineOutcome → Type 0
AreOf self nodes slots a [] [] = Unit {0}
AreOf self nodes slots a [] (came ∷ all) = ⊥
AreOf self nodes slots a (line ∷ lines) [] = ⊥
AreOf self nodes slots a (line ∷ lines) (came ∷ all) = ComesOf self nodes slots a line came
    × AreOf self nodes slots (after_line self nodes a line came) lines all
