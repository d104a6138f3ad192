-- What processes answer of jobs, as text.
use Rattle.std.proofs.Common.{◌≡◌, ℕ, ◌+◌, Bool, true, false, List, [], ◌∷◌, ◌++◌, length, sym, ◌∙◌, ap, subst, inl, inr}
use Rattle.std.proofs.Common.{append_assoc}
use Rattle.std.specs.List.{flat_map}
use Rattle.job_model.specs.declared.job.Job.{Job}
use Rattle.node_core.specs.declared.event.Event.TheVariants as on
use Rattle.node_core.specs.State.{is_down}
use Rattle.histories.specs.Lists.{IsAmong}
use Rattle.histories.specs.NodeState.{NodeState}
use Rattle.node_session.specs.declared.asked.Asked.{Asked}
use Rattle.node_session.specs.Turns.{CallEnd}
use Rattle.node_session.specs.Chains.{next}
use Rattle.node_session.specs.Serving.{OneHistory}
use Rattle.node_session.specs.Text.{answer, event_closing, hand_line, jobs_by, no_news, ok_line, pending_line, turns_text}
use Rattle.processes.specs.Files.{at_first}
use Rattle.processes.specs.Answers.{AcceptedIsAnswered, AcceptedIsTold, HasPiece, lines_at, text_of}
use Rattle.processes.proofs.Answers.{accepted_is_kept, all_come, asked_may, last_among}
use Rattle.processes.proofs.Following.{none_left}

-- ---- the answer to what was taken

pub accepted_is_answered : AcceptedIsAnswered
accepted_is_answered self nodes x job it =
    let front = turns_text no_news self nodes x.at.state x.came.turns in (
      front,
      ap (λ (a : Asked). answer self nodes (next x.at.count a) x.at.state x.at.waits a x.came) it.asked
          ∙ ap (λ (e : CallEnd). front ++ event_closing (x.at.count + 1) (on.Submit job.work) e) it.ended,
    )

-- ---- the answer to `jobs`

piece_of : (jobs : List Job) (job : Job) → IsAmong job jobs → HasPiece (flat_map pending_line jobs) (pending_line job)
piece_of [] job i = absurd i
piece_of (first ∷ jobs) job i = elim i [
  | inl e ↦ ([], flat_map pending_line jobs, ap (λ (x : Job). pending_line x ++ flat_map pending_line jobs) (sym e))
  | inr k ↦ (let it = piece_of jobs job k in (
    pending_line first ++ it.0,
    it.1,
    ap (λ (text : List ℕ). pending_line first ++ text) it.2
        ∙ (sym (append_assoc (pending_line first) (it.0 ++ pending_line job) it.1)
        ∙ ap (λ (text : List ℕ). text ++ it.1) (sym (append_assoc (pending_line first) it.0 (pending_line job)))),
  ))
]

piece_in_front : (text more piece : List ℕ) → HasPiece text piece → HasPiece (text ++ more) piece
piece_in_front text more piece it = (it.0, it.1 ++ more, ap (λ (x : List ℕ). x ++ more) it.2 ∙ append_assoc (it.0 ++ piece) it.1 more)

up_jobs : (b : Bool) (s : NodeState) (job : Job) → b ≡ false → IsAmong job s.durable.pending → HasPiece (jobs_by b s) (pending_line job)
up_jobs true s job up i = absurd cc
up_jobs false s job up i = piece_in_front (flat_map pending_line s.durable.pending) (flat_map hand_line s.state.hand) (pending_line job)
    (piece_of s.durable.pending job i)

pub accepted_is_told : OneHistory → AcceptedIsTold
accepted_is_told one cluster are n node at x y before job accepted asks =
    let nodes = length cluster in
    let line = all_come n nodes node.slots (at_first n node.file) node.processes y (are.processes n node at)
    (last_among x y (lines_at cluster n node) before) in
    let same = none_left n nodes y.at.state y.came.turns (asked_may n nodes node.slots y line asks.answered asks.asked) in
    let text : text_of n nodes y ≡ jobs_by (is_down y.at.state.state.phase) y.at.state ++ ok_line (y.at.count + 1) [] =
    ap (λ (a : Asked). answer n nodes (next y.at.count a) y.at.state y.at.waits a y.came) asks.asked in
    let either = accepted_is_kept one cluster are n node at x y before job accepted
    (ap (λ (s : NodeState). is_down s.state.phase) same ∙ asks.up) in
    elim either [
      | inl kept ↦ inl (subst (λ (t : List ℕ). HasPiece t (pending_line job)) (sym text)
          (piece_in_front (jobs_by (is_down y.at.state.state.phase) y.at.state) (ok_line (y.at.count + 1) []) (pending_line job)
          (up_jobs (is_down y.at.state.state.phase) y.at.state job asks.up
          (subst (λ (s : NodeState). IsAmong job s.durable.pending) same kept))))
      | inr finished ↦ inr finished
    ]
