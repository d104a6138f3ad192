-- What a node tells of an entry, by its states before and behind it, as texts.
use Rattle.std.specs.Prelude.{ℕ, ◌==◌, Bool, true, false, List, [], ◌++◌, length, codes, decimal, if◌then◌else◌, Option, Some, None}
use Rattle.std.specs.List.{flat_map}
use Rattle.console_text.specs.Words.{work_text}
use Rattle.job_model.specs.Durable.{Durable}
use Rattle.job_model.specs.Fold.{is_pending}
use Rattle.job_model.specs.declared.job.Job.{Job}
use Rattle.node_core.specs.declared.event.Event.TheVariants as on
use Rattle.node_core.specs.declared.in_hand.InHand.{InHand}
use Rattle.node_core.specs.Held.{holds}
use Rattle.node_core.specs.State.{State, is_down}
use Rattle.node_words.specs.Words.{group_text, ids_text, phase_text}
use Rattle.trace_check.specs.declared.trace.TraceAction.{TraceAction}
use Rattle.trace_check.specs.declared.trace.TraceAction.TheVariants as action
use Rattle.trace_check.specs.Claims.{Claim}
use Rattle.trace_console.specs.Stands.{members_of}

-- its phase, its coordinator, the number of its group and the members; of a node that is down its phase alone
abbrev pub group_by : Bool → State → List ℕ
group_by true s = codes "Down"
group_by false s = phase_text s.phase ++ codes " " ++ decimal s.coordinator ++ codes " " ++ group_text s.group ++ codes " "
    ++ ids_text (members_of s.task)

unfoldable pub group_answer : State → List ℕ
group_answer s = group_by (is_down s.phase) s

-- ---- the jobs that came into its hand, each with the node that keeps it and its id there, its queue, its payload and its priority

unfoldable pub job_text : InHand → List ℕ
job_text job = decimal job.origin ++ codes " " ++ decimal job.id ++ codes " " ++ work_text job.work.queue job.work.payload job.work.priority
    ++ codes ";"

-- a job in hand that wasn't before
abbrev pub took_text : List InHand → InHand → List ℕ
took_text old job = if holds old job.origin job.id then [] else job_text job

abbrev pub took_answer : State → State → List ℕ
took_answer old new = flat_map (took_text old.hand) new.hand

-- ---- the jobs that left its hand; who finishes a job knows that it did

unfoldable pub pair_text : InHand → List ℕ
pair_text job = decimal job.origin ++ codes " " ++ decimal job.id ++ codes ";"

abbrev pub dropped_text : List InHand → InHand → List ℕ
dropped_text new job = if holds new job.origin job.id then [] else pair_text job

abbrev pub dropped_answer : Bool → State → State → List ℕ
dropped_answer true old new = []
dropped_answer false old new = flat_map (dropped_text new.hand) old.hand

abbrev pub is_finishing : TraceAction → Bool
is_finishing (action.Done (on.Finish origin id)) = true
is_finishing action = false

abbrev pub is_finish : Option Claim → Bool
is_finish None = false
is_finish (Some c) = is_finishing c.action

-- ---- its own jobs

unfoldable pub own_text : ℕ → List ℕ
own_text id = decimal id ++ codes ";"

abbrev pub own_id : List Job → ℕ → List ℕ
own_id new id = if is_pending new id then [] else own_text id

-- a job that was pending, and isn't any more
abbrev pub gone_text : List Job → Job → List ℕ
gone_text new job = own_id new job.id

abbrev pub gone_answer : Durable → Durable → List ℕ
gone_answer old new = flat_map (gone_text new.pending) old.pending

-- the id of a job that it was given
abbrev pub id_answer : Durable → Durable → List ℕ
id_answer old new = if new.next == old.next then [] else decimal old.next

-- its counter, the id of its next job, and how many jobs are pending
unfoldable pub kept_answer : Durable → List ℕ
kept_answer d = decimal d.counter ++ codes " " ++ decimal d.next ++ codes " " ++ decimal (length d.pending)
