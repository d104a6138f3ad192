-- The premises can be met.
use Rattle.std.proofs.Common.{◌≡◌, ℕ, zero, suc, true, false, List, [], ◌∷◌, slice_get, refl, sym, subst, inl, inr, arith, codes, Some}
use Rattle.std.proofs.Common.{None}
use Rattle.job_model.specs.Durable.{formatted}
use Rattle.wire_msg.specs.Envelope.{Envelope}
use Rattle.wire_msg.specs.declared.body.Body.TheVariants as says
use Rattle.node_core.specs.declared.event.Event.TheVariants as on
use Rattle.node_core.specs.declared.timer.Timer.TheVariants as timer
use Rattle.node_core.specs.NodeStep.{IsTaken}
use Rattle.node_core.specs.Start.{alone}
use Rattle.node_core.specs.Timers.{timed}
use Rattle.histories.specs.Lists.{IsAmong}
use Rattle.histories.specs.declared.history_event.HistoryEvent.TheVariants.{Did, NoOp, Recovered}
use Rattle.histories.specs.declared.history_event.NoOpKind.TheVariants.{Compacted}
use Rattle.hex.specs.Hex.{decode_pairs}
use Rattle.wire_msg.specs.Reading.{answer_at, below_at, body_at, message_of, named_at, short_at, truth_at, whole_at}
use Rattle.node_core.specs.Messages.{delivered}
use Rattle.durable_node.specs.Changes.{view_of}
use Rattle.durable_node.specs.declared.group_view.GroupView.{GroupView}
use Rattle.node_session.specs.Asked.{asked_of}
use Rattle.node_session.specs.declared.asked.Asked.TheVariants as ask
use Rattle.node_session.specs.Turns.{Goes}
use Rattle.node_session.specs.Chains.{LineOutcome}
use Rattle.processes.specs.Files.{IsFormatted, at_first}
use Rattle.processes.specs.Happening.{ProcessesHappen}
use Rattle.processes.specs.Processes.{NodeProcesses, AreProcesses, AreProcessesOf, Process, WasPrinted, delivered_to, handed_by}

-- a node recovers, and all is written anew
abbrev up : LineOutcome
up = record { turns = Goes (Recovered false) ∷ Goes (NoOp Compacted) ∷ []; due = None }

abbrev question : Envelope
question = record { sender = 0; receiver = 1; body = says.AreYouCoordinator }

abbrev answer : Envelope
answer = record { sender = 1; receiver = 0; body = says.Coordinator true }

abbrev asks : LineOutcome
asks = record { turns = Goes (Did (on.Timer timer.Check)) ∷ []; due = None }

abbrev hears : Envelope → LineOutcome
hears m = record { turns = Goes (Did (on.Deliver m)) ∷ []; due = None }

abbrev process : List (List ℕ) → List LineOutcome → Process
process lines all = record {
  kept = false;
  keyed = false;
  life = record { own = []; other = None; drawn = []; unit = 0; lines = lines; all = all };
}

abbrev one : NodeProcesses
one = record {
  file = formatted;
  slots = 4;
  processes = process (codes "recover" ∷ codes "check" ∷ []) (up ∷ asks ∷ [])
      ∷ process (codes "recover" ∷ codes "deliver 01020100000101" ∷ []) (up ∷ hears answer ∷ []) ∷ [];
}

abbrev other : NodeProcesses
other = record {
  file = formatted;
  slots = 4;
  processes = process (codes "recover" ∷ codes "deliver 010100010000" ∷ []) (up ∷ hears question ∷ []) ∷ [];
}

new : IsFormatted formatted
new = record { first = refl; within = omega arith; jobs = omega arith }

question_read : asked_of (codes "deliver 010100010000") ≡ ask.Event (on.Deliver question)
unfolding decode_pairs message_of whole_at below_at body_at short_at named_at answer_at
question_read = refl

answer_read : asked_of (codes "deliver 01020100000101") ≡ ask.Event (on.Deliver answer)
unfolding decode_pairs message_of whole_at below_at body_at short_at named_at answer_at truth_at
answer_read = refl

asks_taken : IsTaken 2 0 (alone 0 1) (record { counter = 1; next = 0; pending = [] }) (on.Timer timer.Check)
asks_taken = record { by_core = refl; not_spent = λ e. e }

hears_answer : IsTaken 2 0 (alone 0 2) (record { counter = 2; next = 0; pending = [] }) (on.Deliver answer)
hears_answer = record { by_core = refl; not_spent = λ e. e }

hears_question : IsTaken 2 1 (alone 1 1) (record { counter = 1; next = 0; pending = [] }) (on.Deliver question)
hears_question = record { by_core = refl; not_spent = λ e. e }

one_runs : AreProcesses 0 2 4 (at_first 0 formatted) one.processes
unfolding timed delivered decode_pairs message_of whole_at below_at body_at short_at named_at answer_at truth_at
one_runs = (
  (λ e. e),
  ((((refl, (refl, (λ e. e), omega arith), tt), (tt, refl, tt)), refl), ((((refl, ((λ e. refl), asks_taken), (λ e. e)), tt), refl), tt)),
  ((tt, (tt, tt)), ((tt, tt), tt)),
  (
    (λ e. e),
    (
      (((refl, (refl, (λ e. e), omega arith), tt), (tt, refl, tt)), refl),
      ((((refl, ((λ e. refl), hears_answer), (λ e. e)), tt), refl), tt),
    ),
    ((tt, (tt, tt)), ((tt, tt), tt)),
    tt,
  ),
)

other_runs : AreProcesses 1 2 4 (at_first 1 formatted) other.processes
unfolding timed delivered decode_pairs message_of whole_at below_at body_at short_at named_at answer_at
other_runs = (
  (λ e. e),
  (
    (((refl, (refl, (λ e. e), omega arith), tt), (tt, refl, tt)), refl),
    ((((refl, ((λ e. refl), hears_question), (λ e. e)), tt), refl), tt),
  ),
  ((tt, (tt, tt)), ((tt, tt), tt)),
  tt,
)

-- what each hands out
question_handed : IsAmong question (handed_by 0 2 (at_first 0 formatted) one.processes)
unfolding timed
question_handed = inl refl

answer_handed : IsAmong answer (handed_by 1 2 (at_first 1 formatted) other.processes)
unfolding delivered decode_pairs message_of whole_at below_at body_at short_at named_at answer_at
answer_handed = inl refl

-- and is to deliver
question_brought : delivered_to 1 2 (at_first 1 formatted) other.processes ≡ question ∷ []
unfolding delivered decode_pairs message_of whole_at below_at body_at short_at named_at answer_at
question_brought = refl

answer_brought : delivered_to 0 2 (at_first 0 formatted) one.processes ≡ answer ∷ []
unfolding timed delivered decode_pairs message_of whole_at below_at body_at short_at named_at answer_at truth_at
answer_brought = refl

abbrev cluster : List NodeProcesses
cluster = one ∷ other ∷ []

-- node n of the two
by_node : (P : ℕ → NodeProcesses → Type 0) → P 0 one → P 1 other → (n : ℕ) (node : NodeProcesses) → slice_get cluster n ≡ Some node
    → P n node
by_node P first second zero node at = (let same : one ≡ node = cc at in subst (P 0) same first)
by_node P first second (suc zero) node at = (let same : other ≡ node = cc at in subst (P 1) same second)
by_node P first second (suc (suc n)) node at = absurd cc

only_brought : (x m : Envelope) (ms : List Envelope) → ms ≡ x ∷ [] → WasPrinted cluster x → IsAmong m ms → WasPrinted cluster m
only_brought x m ms is printed i =
    let here : IsAmong m (x ∷ []) = subst (λ (l : List Envelope). IsAmong m l) is i in
    elim here [ inl e ↦ subst (WasPrinted cluster) (sym e) printed | inr none ↦ absurd none ]

are : AreProcessesOf cluster
are = record {
  files = by_node (λ n node. IsFormatted node.file) new new;
  processes = by_node (λ n node. AreProcesses n 2 node.slots (at_first n node.file) node.processes) one_runs other_runs;
  delivers = by_node (λ n node. (m : Envelope) → IsAmong m (delivered_to n 2 (at_first n node.file) node.processes) → WasPrinted cluster m)
      (λ m i. only_brought answer m (delivered_to 0 2 (at_first 0 formatted) one.processes) answer_brought (
        1,
        other,
        refl,
        answer_handed,
      ) i)
      (λ m i. only_brought question m (delivered_to 1 2 (at_first 1 formatted) other.processes) question_brought (
        0,
        one,
        refl,
        question_handed,
      ) i);
}

abbrev alone_view : ℕ → GroupView
alone_view self = view_of (alone self 1)

pub processes_happen : ProcessesHappen
processes_happen = record {
  one = one;
  other = other;
  are = are;
  again = refl;
  asked = (question, refl, subst (λ (ms : List Envelope). IsAmong question ms) (sym question_brought) (inl refl));
  answered = (answer, refl, subst (λ (ms : List Envelope). IsAmong answer ms) (sym answer_brought) (inl refl));
  told = (alone_view 0, (one, refl, inl refl));
  told_too = (alone_view 1, (other, refl, inl refl));
}
