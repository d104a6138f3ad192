-- A text read piece by piece: what comes of what was read so far, if the reading goes on at some tokens.
use Rattle.std.specs.Prelude.{ℕ, suc, ◌+◌, ◌≡◌, ◌==◌, ⊤, Bool, true, false, MatchBool, cond, List, [], ◌∷◌, ◌++◌, length, Option, Some}
use Rattle.std.specs.Prelude.{None, option_and_then, if◌then◌else◌, Result, Ok, Err}
use Rattle.json.specs.Align.{is_good}
use Rattle.json.specs.Json as json
use Rattle.json.specs.Json.{parse_map, members, value}
use Rattle.json.specs.Token.{Token}
use Rattle.serde_json.specs.Data.{Data, Items, item}
use Rattle.serde_json.specs.Read.{converted, of_json}
use Rattle.trace_check.specs.Claims.{Claim}
use Rattle.trace_text.specs.declared.fault.Location.{Location}
use Rattle.trace_text.specs.declared.stream.Entries.{Entries}
use Rattle.trace_text.specs.declared.stream.Histories.{Histories}
use Rattle.trace_text.specs.declared.stream.Parts.{Parts}
use Rattle.trace_text.specs.Streams.{Judged, Listed, Parted, data_at, items_at, parted_put, shaped}
use Rattle.trace_text.specs.Wholes.{all_lists, count_items, entries_from, first_history, histories_from, in_shape, shape_in}

-- ---- the pieces of a text

abbrev pub NoBackslash : List ℕ → Type 0
NoBackslash [] = ⊤
NoBackslash (x ∷ xs) = ((x == 92) ≡ false) × NoBackslash xs

-- a text is cut behind an object, at the comma in front of another one
pub record IsCut (text piece behind : List ℕ) : Type 0 where
  pub front : List ℕ
  pub back : List ℕ
  pub whole : text ≡ front ++ 125 ∷ 44 ∷ 123 ∷ back
  pub first : piece ≡ front ++ 125 ∷ []
  pub later : behind ≡ 123 ∷ back
  pub plain : NoBackslash front

-- some tokens and more behind them; behind a bad one nothing counts
abbrev pub joined : List Token → List Token → List Token
joined [] more = more
joined (t ∷ ts) more = t ∷ cond (is_good t) (joined ts more) []

abbrev pub with_more : Option (List Token) → List Token → List Token
with_more None ts = ts
with_more (Some more) ts = joined ts more

-- what `old` makes of the tokens before, `new` makes of those behind, whatever follows both
pub record Leads {A : Type 0} (old new : List Token → Option A) (before behind : List Token) : Type 0 where
  pub at : (more : Option (List Token)) → old (with_more more before) ≡ new (with_more more behind)

-- what was being read is over, or it is paused where the tokens end
abbrev pub Comes : {A : Type 0} → Bool → (List Token → Option A) → (List Token → Option A) → (List Token → Option A) → List Token
    → List Token → Type 0
Comes ended old done paused before behind = MatchBool ended (Leads old done before behind) (Leads old paused before [])

-- nothing more follows than these tokens
abbrev pub over : {A : Type 0} → A → List Token → Option (A × List Token)
over a ts = Some (a, ts)

-- there is no value with nothing behind it
abbrev pub IsNone : {A : Type 0} → (List Token → Option (A × List Token)) → List Token → Type 0
IsNone {A} read ts = (a : A) → read ts ≡ Some (a, []) → ⊥

-- ---- a list of entries

abbrev pub after_good : {A : Type 0} → List A → Result (List A) (Option Location) → Result (List A) (Option Location)
after_good xs (Err location) = Err location
after_good xs (Ok ys) = Ok (xs ++ ys)

abbrev pub entries_then : ℕ → List Claim → Option Location → Items → Listed
entries_then node h None ds = after_good h (entries_from node (length h) ds)
entries_then node h (Some location) ds = Err (Some location)

abbrev pub entries_on : ℕ → Entries → List Token → Option (Listed × List Token)
entries_on node e ts = parse_map (entries_then node e.history e.bad) (items_at 124 ts)

-- ---- the lists

abbrev pub histories_then : List (List Claim) → Option Location → Items → Result (List (List Claim)) (Option Location)
histories_then hs None ds = after_good hs (histories_from (length hs) ds)
histories_then hs (Some location) ds = Err (Some location)

abbrev pub lists_then : Bool → List (List Claim) → Option Location → Items → Judged
lists_then false hs bad ds = None
lists_then true hs bad ds = if all_lists ds then Some (length hs + count_items ds, histories_then hs bad ds) else None

abbrev pub lists_on : Histories → List Token → Option (Judged × List Token)
lists_on h ts = parse_map (lists_then h.all_lists h.histories.items h.bad) (items_at 125 ts)

-- at an item that isn't read
abbrev pub list_on : Histories → List Token → Option (Judged × List Token)
list_on h ts =
    option_and_then (λ (q : Data × List Token). parse_map (λ (ds : Items). lists_then h.all_lists h.histories.items h.bad (item q.0 ds))
    (items_at 125 q.1)) (data_at 125 ts)

-- with a list more
abbrev pub listed_then : List (List Claim) → Option Location → Listed → Items → Result (List (List Claim)) (Option Location)
listed_then hs None r ds = after_good hs (first_history r (histories_from (length hs + 1) ds))
listed_then hs (Some location) r ds = Err (Some location)

abbrev pub list_then : Bool → List (List Claim) → Option Location → Listed → Items → Judged
list_then false hs bad r ds = None
list_then true hs bad r ds = if all_lists ds then Some (length hs + suc (count_items ds), listed_then hs bad r ds) else None

-- in a list, behind an entry
abbrev pub open_on : Histories → List Token → Option (Judged × List Token)
open_on h ts =
    option_and_then (λ (q : Listed × List Token). parse_map (list_then h.all_lists h.histories.items h.bad q.0) (items_at 125 q.1))
    (entries_on (length h.histories.items) h.entries ts)

-- ---- the whole

abbrev pub parted_then : Parted → json.Members → Option Parted
parted_then s json.no_members = Some s
parted_then s (json.member k j ms) = option_and_then (λ (d : Data). parted_then (parted_put s k d) ms) (of_json j)

abbrev pub parts_on : Parted → List Token → Option (Parted × List Token)
parts_on s ts = converted (parted_then s) (members (value 126) (length ts) ts)

abbrev pub then_parts : Parted × List Token → Option (Parted × List Token)
then_parts q = parts_on q.0 q.1

-- at the value of a member
abbrev pub put_on : Parted → List ℕ → List Token → Option (Parted × List Token)
put_on s key ts = parse_map (parted_put s key) (data_at 126 ts)

-- in a list of entries
abbrev pub whole_on : Option ℕ → Histories → List Token → Option (Parted × List Token)
whole_on nodes h ts = option_and_then (λ (q : Judged × List Token). parts_on (nodes, q.0) q.1) (open_on h ts)

abbrev pub open_parts_on : Parts → List Token → Option (Parted × List Token)
open_parts_on p ts = option_and_then (λ (h : Histories). whole_on p.nodes h ts) p.histories

abbrev pub Judgement : Type 0
Judgement = Result (List (List Claim)) (Option Location)

abbrev pub open_text_on : Parts → List Token → Option (Judgement × List Token)
open_text_on p ts = parse_map shaped (open_parts_on p ts)

-- at the beginning of the text, where no list was begun
abbrev pub begun_on : Option ℕ → Option Histories → List Token → Option (Judgement × List Token)
begun_on nodes None ts = parse_map (λ (d : Data). in_shape (shape_in d)) (data_at 127 ts)
begun_on nodes (Some h) ts = parse_map shaped (whole_on nodes h ts)

abbrev pub text_on : Parts → List Token → Option (Judgement × List Token)
text_on p ts = begun_on p.nodes p.histories ts
