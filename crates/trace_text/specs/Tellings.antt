-- What the entries of a trace say that their nodes told.
use Rattle.std.specs.Prelude.{ℕ, ◌+◌, ◌≤◌, ◌≡◌, ⊤, Bool, true, false, List, [], ◌∷◌, ◌++◌, length, take, drop, Option, Some}
use Rattle.std.specs.Prelude.{None, option_map, if◌then◌else◌, codes, slice_get}
use Rattle.std.specs.Str.{bytes_eq, is_utf8}
use Rattle.serde_json.specs.Data.{Data, Items, Members, no_items, item}
use Rattle.serde_json.specs.Find.{as_array, as_object, as_str, get_member}
use Rattle.serde_json.specs.Read.{read as read_text}
use Rattle.trace_text.specs.declared.telling.Said.{Said}
use Rattle.trace_text.specs.declared.telling.Said.TheVariants as said
use Rattle.trace_text.specs.declared.telling.Telling.{Telling}
use Rattle.trace_text.specs.declared.telling.StoredText.{StoredText}
use Rattle.trace_text.specs.declared.telling.StoredText.TheVariants as stored
use Rattle.trace_text.specs.declared.telling.StoredTelling.{StoredTelling}

-- a field: left out, or a text, or no text
abbrev pub SaidData : Type 0
SaidData = Option (Option (List ℕ))

-- what was told behind an entry, field by field; what is no object has none
pub record TellingData : Type 0 where
  pub object : Bool
  pub group : SaidData
  pub took : SaidData
  pub dropped : SaidData
  pub gone : SaidData
  pub id : SaidData
  pub kept : SaidData

-- ---- what a JSON value says

abbrev pub text_under : List ℕ → Members → SaidData
text_under key ms = option_map as_str (get_member key ms)

abbrev pub telling_seen : Members → TellingData
telling_seen ms = record {
  object = true;
  group = text_under (codes "group") ms;
  took = text_under (codes "took") ms;
  dropped = text_under (codes "dropped") ms;
  gone = text_under (codes "gone") ms;
  id = text_under (codes "id") ms;
  kept = text_under (codes "kept") ms;
}

abbrev pub no_fields : Bool → TellingData
no_fields object = record {
  object = object;
  group = None;
  took = None;
  dropped = None;
  gone = None;
  id = None;
  kept = None;
}

abbrev pub telling_of : Option Members → TellingData
telling_of None = no_fields false
telling_of (Some ms) = telling_seen ms

abbrev pub telling_in : Data → TellingData
telling_in d = telling_of (as_object d)

-- an entry; None where it says nothing
abbrev pub told_seen : Members → Option TellingData
told_seen ms = option_map telling_in (get_member (codes "told") ms)

abbrev pub told_of : Option Members → Option TellingData
told_of None = None
told_of (Some ms) = told_seen ms

abbrev pub told_in : Data → Option TellingData
told_in d = told_of (as_object d)

-- the entries of a history
abbrev pub entries_told : Items → List (Option TellingData)
entries_told no_items = []
entries_told (item d ds) = told_in d ∷ entries_told ds

abbrev pub history_of : Option Items → List (Option TellingData)
history_of None = []
history_of (Some ds) = entries_told ds

abbrev pub history_told : Data → List (Option TellingData)
history_told d = history_of (as_array d)

-- the histories
abbrev pub TellingsData : Type 0
TellingsData = List (List (Option TellingData))

abbrev pub lists_told : Items → TellingsData
lists_told no_items = []
lists_told (item d ds) = history_told d ∷ lists_told ds

abbrev pub lists_of : Option Items → TellingsData
lists_of None = []
lists_of (Some ds) = lists_told ds

abbrev pub histories_told : Data → TellingsData
histories_told d = lists_of (as_array d)

abbrev pub if_histories : Option Data → TellingsData
if_histories None = []
if_histories (Some d) = histories_told d

abbrev pub whole_seen : Members → TellingsData
whole_seen ms = if_histories (get_member (codes "histories") ms)

abbrev pub whole_of : Option Members → TellingsData
whole_of None = []
whole_of (Some ms) = whole_seen ms

-- what is told in a text's value
abbrev pub whole_told : Data → TellingsData
whole_told d = whole_of (as_object d)

-- what is told in a text; None where it is no JSON
abbrev pub tellings_of : List ℕ → Option TellingsData
tellings_of text = if is_utf8 text then option_map whole_told (read_text text) else None

-- what is told at a place, if something is
abbrev pub told_there : Option (Option TellingData) → Option TellingData
told_there None = None
told_there (Some told) = told

abbrev pub told_at : List (Option TellingData) → ℕ → Option TellingData
told_at tellings place = told_there (slice_get tellings place)

-- ---- one more member: of equal keys the last counts

abbrev pub telling_put : TellingData → List ℕ → Option (List ℕ) → TellingData
telling_put t key text =
    if bytes_eq key (codes "group") then record t { group = Some text } else
    if bytes_eq key (codes "took") then record t { took = Some text } else
    if bytes_eq key (codes "dropped") then record t { dropped = Some text } else
    if bytes_eq key (codes "gone") then record t { gone = Some text } else
    if bytes_eq key (codes "id") then record t { id = Some text } else
    if bytes_eq key (codes "kept") then record t { kept = Some text } else t

abbrev pub told_put : Option TellingData → List ℕ → Data → Option TellingData
told_put old key d = if bytes_eq key (codes "told") then Some (telling_in d) else old

abbrev pub whole_put : TellingsData → List ℕ → Data → TellingsData
whole_put old key d = if bytes_eq key (codes "histories") then histories_told d else old

-- ---- what was read, wherever it lies in memory

abbrev pub text_said : Said → Option (List ℕ)
text_said (said.Text text) = Some text.now
text_said said.Other = None

abbrev pub telling_by : Telling → TellingData
telling_by t = record {
  object = t.is_object;
  group = option_map text_said t.group;
  took = option_map text_said t.took;
  dropped = option_map text_said t.dropped;
  gone = option_map text_said t.gone;
  id = option_map text_said t.id;
  kept = option_map text_said t.kept;
}

-- ---- how it is kept: the texts of a history stand in a list of bytes

abbrev pub text_stored : List ℕ → StoredText → SaidData
text_stored texts stored.Missing = None
text_stored texts stored.Other = Some None
text_stored texts (stored.Text start len) = Some (Some (take len (drop start texts)))

abbrev pub TextStands : ℕ → StoredText → Type 0
TextStands many stored.Missing = ⊤
TextStands many stored.Other = ⊤
TextStands many (stored.Text start len) = start + len ≤ many

-- a field is kept so among these texts
pub record IsKept (texts : List ℕ) (kept : StoredText) (field : SaidData) : Type 0 where
  pub value : text_stored texts kept ≡ field
  pub stands : TextStands (length texts) kept

abbrev pub telling_stored : List ℕ → StoredTelling → TellingData
telling_stored texts t = record {
  object = t.is_object;
  group = text_stored texts t.group;
  took = text_stored texts t.took;
  dropped = text_stored texts t.dropped;
  gone = text_stored texts t.gone;
  id = text_stored texts t.id;
  kept = text_stored texts t.kept;
}

pub record TellingStands (many : ℕ) (t : StoredTelling) : Type 0 where
  pub group : TextStands many t.group
  pub took : TextStands many t.took
  pub dropped : TextStands many t.dropped
  pub gone : TextStands many t.gone
  pub id : TextStands many t.id
  pub kept : TextStands many t.kept

abbrev pub told_stored : List ℕ → Option StoredTelling → Option TellingData
told_stored texts told = option_map (telling_stored texts) told

abbrev pub ToldStands : ℕ → Option StoredTelling → Type 0
ToldStands many None = ⊤
ToldStands many (Some t) = TellingStands many t

pub record TellingKept (texts : List ℕ) (t : StoredTelling) (told : TellingData) : Type 0 where
  pub value : telling_stored texts t ≡ told
  pub stands : TellingStands (length texts) t

pub record ToldKept (texts : List ℕ) (t : Option StoredTelling) (told : Option TellingData) : Type 0 where
  pub value : told_stored texts t ≡ told
  pub stands : ToldStands (length texts) t

-- more texts came behind these
abbrev pub Grows : List ℕ → List ℕ → Type 0
Grows old new = (more : List ℕ) × (new ≡ old ++ more)
