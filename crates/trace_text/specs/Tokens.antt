-- The tokens that a trace is written by.
use Rattle.std.specs.Prelude.{ℕ, ◌≡◌, ◌==◌, if◌then◌else◌, List, [], ◌∷◌, ◌++◌, length, codes, decimal}
use Rattle.hex.specs.Hex.{encode_lower}
use Rattle.json.specs.Token.{Token}
use Rattle.json.specs.Token as token
use Rattle.json.specs.Written.{Written}
use Rattle.job_model.specs.declared.work.Work.{Work}
use Rattle.wire_msg.specs.Envelope.{Envelope}
use Rattle.wire_msg.specs.Spelling.{spelling}
use Rattle.node_core.specs.declared.event.Event.{Event}
use Rattle.node_core.specs.declared.event.Event.TheVariants as on
use Rattle.trace_check.specs.declared.trace.TraceAction.{TraceAction}
use Rattle.trace_check.specs.declared.trace.TraceAction.TheVariants as action
use Rattle.trace_check.specs.Claims.{Claim}
use Rattle.trace_text.specs.Written.{fault_name, action_name}

-- these tokens are added
pub record Adds (old new : Written) (ts : List Token) : Type 0 where
  pub before : new.before ≡ old.before
  pub tokens : new.tokens ≡ old.tokens ++ ts

-- a priority, left out where it is 0
abbrev pub priority_tokens : ℕ → List Token
priority_tokens priority = if priority == 0 then [] else token.key (codes "priority") ∷ token.number (decimal priority) ∷ []

-- where a job stands: its priority and its queue
abbrev pub rank_tokens : Work → List Token
rank_tokens work = priority_tokens work.priority ++ token.key (codes "queue") ∷ token.number (decimal work.queue) ∷ []

abbrev pub work_tokens : Work → List Token
work_tokens work = token.key (codes "payload") ∷ token.string (encode_lower work.payload) ∷ rank_tokens work

abbrev pub event_tokens : Event → List Token
event_tokens (on.Timer timer) = []
event_tokens (on.Deliver m) = token.key (codes "msg") ∷ token.string (encode_lower (spelling m)) ∷ []
event_tokens (on.Submit work) = work_tokens work
event_tokens (on.Finish origin id) = token.key (codes "id") ∷ token.number (decimal id) ∷ token.key (codes "origin") ∷ token.number
    (decimal origin) ∷ []
event_tokens on.Recover = []

abbrev pub action_tokens : TraceAction → List Token
action_tokens action.Nothing = []
action_tokens (action.Done event) = event_tokens event
action_tokens (action.Faulted event) = token.key (codes "fault") ∷ token.string (codes "device") ∷ event_tokens event
action_tokens action.Crashed = []
action_tokens (action.Recovered kept) = token.key (codes "kept") ∷ token.boolean kept ∷ []
action_tokens (action.NotRecovered kept fault) = token.key (codes "fault") ∷ token.string (fault_name fault) ∷ token.key (codes "kept") ∷
    token.boolean kept ∷ []

abbrev pub message_tokens : List Envelope → List Token
message_tokens [] = []
message_tokens (m ∷ ms) = token.string (encode_lower (spelling m)) ∷ message_tokens ms

-- an entry up to the messages that it sent, and behind them
abbrev pub head_tokens : TraceAction → List Token
head_tokens d = token.begin_object ∷ token.key (codes "do") ∷ token.string (action_name d) ∷ (action_tokens d
    ++ token.key (codes "sent") ∷ token.begin_array ∷ [])

abbrev pub end_tokens : List Token
end_tokens = token.end_array ∷ token.end_object ∷ []

abbrev pub entry_tokens : Claim → List Token
entry_tokens c =
    token.begin_object ∷ token.key (codes "do") ∷ token.string (action_name c.action)
    ∷ (action_tokens c.action ++ token.key (codes "sent") ∷ token.begin_array ∷ (message_tokens c.sent
    ++ token.end_array ∷ token.end_object ∷ []))

abbrev pub entries_tokens : List Claim → List Token
entries_tokens [] = []
entries_tokens (c ∷ cs) = entry_tokens c ++ entries_tokens cs

abbrev pub history_tokens : List Claim → List Token
history_tokens h = token.begin_array ∷ (entries_tokens h ++ token.end_array ∷ [])

abbrev pub histories_tokens : List (List Claim) → List Token
histories_tokens [] = []
histories_tokens (h ∷ hs) = history_tokens h ++ histories_tokens hs

abbrev pub trace_tokens : List (List Claim) → List Token
trace_tokens hs =
    token.begin_object ∷ token.key (codes "histories") ∷ token.begin_array
    ∷ (histories_tokens hs ++ token.end_array ∷ token.key (codes "nodes") ∷ token.number (decimal (length hs)) ∷ token.end_object ∷ [])

-- the same, with this text of its order
abbrev pub ordered_tokens : List (List Claim) → List ℕ → List Token
ordered_tokens hs text =
    token.begin_object ∷ token.key (codes "histories") ∷ token.begin_array
    ∷ (histories_tokens hs
    ++ token.end_array ∷ token.key (codes "nodes") ∷ token.number (decimal (length hs)) ∷ token.key (codes "order") ∷ token.string text ∷
    token.end_object ∷ [])
