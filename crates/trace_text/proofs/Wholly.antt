-- A text piece by piece: what is read of each leads to what its rest is.
use Rattle.std.proofs.Common.{◌≡◌, ℕ, true, List, [], ◌∷◌, ◌++◌, length, Option, Some, None, is_some, Err, option_map, option_and_then}
use Rattle.std.proofs.Common.{inl, inr, refl, sym, ap, ◌∙◌, arith}
use Rattle.std.proofs.lemmas.Bool.{false≢true}
use Rattle.std.specs.Prelude.{IsSome}
use Rattle.json.specs.Token.{Token, end_array, end_object}
use Rattle.json.specs.Lex.{tokens}
use Rattle.json.specs.Json as json
use Rattle.json.specs.Json.{if_last, parse_map, value}
use Rattle.serde_json.specs.Data.{Data, Items, no_items}
use Rattle.serde_json.specs.Read.{converted, of_json}
use Rattle.trace_text.specs.declared.stream.Histories.{Histories}
use Rattle.trace_text.specs.declared.stream.Parts.{Parts}
use Rattle.trace_text.specs.Pieces.{IsCut, IsNone, Judgement, Leads, begun_on, entries_then, list_then, open_text_on, parts_on, text_on}
use Rattle.trace_text.specs.Pieces.{whole_on, with_more}
use Rattle.trace_text.specs.Streams.{Judged, Listed, Parted, items_at, shaped}
use Rattle.trace_text.specs.Wholes.{in_shape, shape_in, trace_of}
use Rattle.trace_text.proofs.Cut.{Follows, cut_tokens}
use Rattle.trace_text.proofs.Firsts.{nothing_there}
use Rattle.trace_text.proofs.Grow.{object_over}
use Rattle.trace_text.proofs.Texts.{bad_text}
use Rattle.trace_text.proofs.Turns.{item_refused, items_over}

-- ---- a reading that stands in a list of entries can still end, and hasn't

abbrev ending : List Token
ending = end_array ∷ end_array ∷ end_object ∷ []

list_ends : (depth : ℕ) (r : List Token) → items_at depth (end_array ∷ r) ≡ Some (no_items, r)
list_ends depth r = items_over (value depth) (length (end_array ∷ r)) (end_array ∷ r) r (omega arith) refl

module _ (nodes : Option ℕ) (h : Histories) where
  abbrev entries : Items → Listed
  entries ds = entries_then (length h.histories.items) h.entries.history h.entries.bad ds

  abbrev lists : Listed → Items → Judged
  lists r ds = list_then h.all_lists h.histories.items h.bad r ds

  abbrev after_list : Listed × List Token → Option (Judged × List Token)
  after_list q = parse_map (lists q.0) (items_at 125 q.1)

  abbrev after_lists : Judged × List Token → Option (Parted × List Token)
  after_lists q = parts_on (nodes, q.0) q.1

  whole_ends : is_some (whole_on nodes h ending) ≡ true
  whole_ends =
      rw (list_ends 124 (end_array ∷ end_object ∷ []), list_ends 125 (end_object ∷ [])) (ap is_some (object_over (
        nodes,
        lists (entries no_items) no_items,
      ) (end_object ∷ []) [] refl))

  whole_goes : whole_on nodes h [] ≡ None
  whole_goes = rw (item_refused (value 124) 0 [] refl (nothing_there 124 [] refl)) refl

some_mapped : {A B : Type 0} (f : A → B) (o : Option (A × List Token)) → is_some (parse_map f o) ≡ is_some o
some_mapped f None = refl
some_mapped f (Some q) = refl

not_over : (nodes : Option ℕ) (lists : Option Histories) → IsSome lists → begun_on nodes lists ending ≡ begun_on nodes lists [] → ⊥
not_over nodes None some same = absurd (false≢true some)
not_over nodes (Some h) some same =
    false≢true (sym (ap (λ (o : Option (Parted × List Token)). is_some (parse_map shaped o)) (whole_goes nodes h)) ∙ ap is_some (sym same)
    ∙ some_mapped shaped (whole_on nodes h ending) ∙ whole_ends nodes h)

-- ---- a piece, and the rest of the text

piece_follows : (text piece behind : List ℕ) → IsCut text piece behind → Follows (tokens piece) (tokens text) (tokens behind)
piece_follows text piece behind c =
    let follows : Follows (tokens (c.front ++ 125 ∷ [])) (tokens (c.front ++ 125 ∷ 44 ∷ 123 ∷ c.back)) (tokens (123 ∷ c.back)) =
    cut_tokens c.front c.back c.plain in rw (← c.whole, ← c.first, ← c.later) at follows

as_text : (nodes : Option ℕ) (lists : Option Histories) (ts : List Token) → IsSome lists
    → parse_map shaped (option_and_then (λ (h : Histories). whole_on nodes h ts) lists) ≡ begun_on nodes lists ts
as_text nodes None ts some = absurd (false≢true some)
as_text nodes (Some h) ts some = refl

pub piece_on : (old new : Parts) (text piece behind : List ℕ) → IsCut text piece behind
    → Leads (text_on old) (open_text_on new) (tokens piece) [] → IsSome new.histories
    → text_on old (tokens text) ≡ text_on new (tokens behind)
piece_on old new text piece behind cut paused some = by (piece_follows text piece behind cut)
  where
    leads : Leads (text_on old) (text_on new) (tokens piece) []
    leads = record { at = λ more. paused.at more ∙ as_text new.nodes new.histories (with_more more []) some }

    by : Follows (tokens piece) (tokens text) (tokens behind) → text_on old (tokens text) ≡ text_on new (tokens behind)
    by (inl e) = ap (text_on old) e ∙ leads.at (Some (tokens behind))
    by (inr same) = absurd (not_over new.nodes new.histories some (sym (leads.at (Some ending)) ∙ ap (text_on old) (same ending)
        ∙ leads.at (Some [])))

-- ---- the last piece

pub paused_none : (p : Parts) → open_text_on p [] ≡ None
paused_none p = by p.histories
  where
    by : (o : Option Histories) → parse_map shaped (option_and_then (λ (h : Histories). whole_on p.nodes h []) o) ≡ None
    by None = refl
    by (Some h) = ap (parse_map shaped) (whole_goes p.nodes h)

pub not_some : {A : Type 0} (o : Option (A × List Token)) → o ≡ None → (a : A) → o ≡ Some (a, []) → ⊥
not_some o none a some = false≢true (sym (ap is_some none) ∙ ap is_some some)

abbrev rest_in : {A : Type 0} → Option (A × List Token) → List Token
rest_in None = []
rest_in (Some q) = q.1

pub not_last : {A : Type 0} (o : Option (A × List Token)) (b : A) (t : Token) (r s : List Token) → r ≡ t ∷ s → o ≡ Some (b, r) → (a : A)
    → o ≡ Some (a, []) → ⊥
not_last o b t r s more is a some = let long : length (t ∷ s) ≡ length {A = Token} [] = ap length (sym more ∙ ap rest_in (sym is ∙ some)) in
    omega (arith, long)

-- ---- a text with no value, or with something behind it

none_by : (o : Option Data) → ((r : Judgement) → parse_map (λ (d : Data). in_shape (shape_in d)) (option_map {U = Data
    × List Token} (λ d. (d, [])) o) ≡ Some (r, []) → ⊥) → o ≡ None
none_by None h = refl
none_by (Some d) h = absurd (h (in_shape (shape_in d)) refl)

not_by : (o : Option (json.Json × List Token)) → ((r : Judgement)
    → parse_map (λ (d : Data). in_shape (shape_in d)) (converted of_json o) ≡ Some (r, []) → ⊥)
    → option_and_then of_json (option_and_then (λ p. if_last p.0 p.1) o) ≡ None
not_by None h = refl
not_by (Some (j, [])) h = none_by (of_json j) h
not_by (Some (j, t ∷ ts)) h = refl

pub text_not : (text : List ℕ) → IsNone (begun_on None None) (tokens text) → trace_of text ≡ Err None
text_not text none = bad_text text (λ utf8. not_by (value 127 (tokens text)) none)
