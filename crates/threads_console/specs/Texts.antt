-- The histories of a run as a trace: each turn is an entry, in its place.
use Rattle.std.specs.Prelude.{ℕ, ◌≡◌, Bool, false, List, [], ◌∷◌, ◌++◌, Some, map, slice_get}
use Rattle.serde_json.specs.View.{items_of}
use Rattle.serde_json.specs.Written.{compact_text, items_text}
use Rattle.node_lock.specs.History.{Turn}
use Rattle.node_lock.specs.declared.line.Quiet.{Quiet}
use Rattle.node_lock.specs.declared.line.Quiet.TheVariants.{Rested, Crashed}
use Rattle.node_lock.specs.Kept.{Log, what_quiet}
use Rattle.trace_check.specs.Claims.{Claim}
use Rattle.cluster_sim.specs.Traced.{claim_of, action_of}
use Rattle.trace_text.specs.Written.{entry_data, history_data}
use Rattle.trace_text.specs.Parts.{trace_head}
use Rattle.threads_console.specs.declared.writing.Known.{Known}

-- the entry of a turn says what came of it and what it sent, as the traces of schedules do
abbrev pub turn_claim : Turn → Claim
turn_claim t = claim_of t.entry

abbrev pub log_claims : Log → List Claim
log_claims log = map turn_claim log.turns

-- the entries of each node, by its number
abbrev pub run_claims : List Log → List (List Claim)
run_claims logs = map log_claims logs

-- ---- for the code

-- the entry of a quiet turn
abbrev pub quiet_claim : Quiet → Claim
quiet_claim q = record { action = action_of (what_quiet q); sent = [] }

-- the texts of the entries of quiet turns
pub record AreKnown (known : Known) : Type 0 where
  pub rested : known.rested.items ≡ compact_text (entry_data (quiet_claim Rested))
  pub crashed : known.crashed.items ≡ compact_text (entry_data (quiet_claim Crashed))

-- the text of the entry of the turn at this place
pub record IsTextAt (place : ℕ) (turns : List Turn) (text : List ℕ) : Type 0 where
  pub turn : Turn
  pub at : slice_get turns place ≡ Some turn
  pub is_text : text ≡ compact_text (entry_data (turn_claim turn))

-- the texts of items, parted by commas, and the bracket behind them
abbrev pub entries_text : Bool → List Turn → List ℕ
entries_text later turns = items_text later (items_of (map entry_data (map turn_claim turns)))

abbrev pub histories_text : Bool → List Log → List ℕ
histories_text later logs = items_text later (items_of (map history_data (run_claims logs)))

-- the text of a trace, but for the bracket behind its histories and what stands behind that
abbrev pub IsMostText : List Log → List ℕ → Type 0
IsMostText logs text = text ++ 93 ∷ [] ≡ trace_head ++ histories_text false logs
