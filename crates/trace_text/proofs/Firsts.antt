-- The value that begins with a token.
use Rattle.std.proofs.Common.{◌≡◌, ℕ, zero, suc, ◌-◌, ◌<◌, Bool, List, [], ◌∷◌, length, Option, Some, None, option_map, MatchResult, refl}
use Rattle.std.proofs.Common.{sym, ap, ap₂, ◌∙◌}
use Rattle.std.specs.Option.{ok_or}
use Rattle.json.specs.Token.{Token}
use Rattle.json.specs.Json as json
use Rattle.json.specs.Json.{parse_map, value}
use Rattle.json.specs.Reads.{token_of}
use Rattle.json.specs.declared.reader.Invalid.{Invalid}
use Rattle.json.specs.declared.token.Token.{Token as Read}
use Rattle.json.specs.declared.token.Token.TheVariants as front
use Rattle.json.proofs.Grammar.{value_is}
use Rattle.serde_json.specs.Data.{Data, Num, null, boolean, number, string, array, object, Items, Members, no_members}
use Rattle.serde_json.specs.Find.{as_array, as_object}
use Rattle.serde_json.specs.Read.{of_json, of_items, of_members, converted, number_of}
use Rattle.trace_text.proofs.Turns.{converted_array, converted_object}
use Rattle.trace_text.specs.declared.fields.Field.{Field}
use Rattle.trace_text.specs.Fields.{data_of, plain}
use Rattle.trace_text.specs.Streams.{behind, data_at, items_at, members_at}
use Rattle.trace_text.proofs.Walks.{behind_some, in_list, in_object}

module _ (depth : ℕ) (ts : List Token) where
  pub text_there : (text : List ℕ) → parse_map plain (data_at depth (Token.string text ∷ ts)) ≡ Some (string text, ts)
  text_there text = rw (value_is depth (Token.string text ∷ ts)) refl

  pub flag_there : (b : Bool) → parse_map plain (data_at depth (Token.boolean b ∷ ts)) ≡ Some (boolean b, ts)
  flag_there b = rw (value_is depth (Token.boolean b ∷ ts)) refl

  pub null_there : parse_map plain (data_at depth (Token.null ∷ ts)) ≡ Some (null, ts)
  null_there = rw (value_is depth (Token.null ∷ ts)) refl

  number_is : (text : List ℕ) (o : Option Num) → number_of text ≡ o
      → data_at depth (Token.number text ∷ ts) ≡ option_map (λ (d : Data). (d, ts)) (option_map number o)
  number_is text o is = rw (value_is depth (Token.number text ∷ ts), is) refl

  number_by : (text : List ℕ) (o : Option Num) (d : Data) → number_of text ≡ o → Some d ≡ option_map (λ (n : Num). plain (number n)) o
      → parse_map plain (data_at depth (Token.number text ∷ ts)) ≡ Some (d, ts)
  number_by text None d is said = absurd (cc)
  number_by text (Some n) d is said = rw (number_is text (Some n) is) (ap (option_map (λ (x : Data). (x, ts))) (sym said))

  no_number_by : (text : List ℕ) (o : Option Num) → number_of text ≡ o → None ≡ option_map (λ (n : Num). plain (number n)) o
      → data_at depth (Token.number text ∷ ts) ≡ None
  no_number_by text None is said = number_is text None is
  no_number_by text (Some n) is said = absurd (cc)

  pub list_there : (r : List Token) → 0 < depth → behind (items_at (depth - 1) ts) ≡ Some r
      → parse_map plain (data_at depth (Token.begin_array ∷ ts)) ≡ Some (null, r)
  list_there r some passed =
      let ds = behind_some (items_at (depth - 1) ts) r passed in
      in_list depth some {ts = Token.begin_array ∷ ts} {r = ts} refl plain (λ (x : Items). null) (λ x. refl)
      ∙ ap (parse_map (λ (x : Items). null)) ds.1

  pub object_there : (r : List Token) → 0 < depth → behind (members_at (depth - 1) ts) ≡ Some r
      → parse_map plain (data_at depth (Token.begin_object ∷ ts)) ≡ Some (null, r)
  object_there r some passed =
      let ms = behind_some (members_at (depth - 1) ts) r passed in
      in_object depth some {ts = Token.begin_object ∷ ts} {r = ts} refl plain (λ (x : Members). null) (λ x. refl)
      ∙ ap (parse_map (λ (x : Members). null)) ms.1

  pub number_first : (t : Token) (text : List ℕ) (o : Option Field) → t ≡ Token.number text
      → option_map data_of o ≡ option_map (λ (n : Num). plain (number n)) (number_of text)
      → MatchResult (ok_or o (record {})) (λ (field : Field). parse_map plain (data_at depth (t ∷ ts)) ≡ Some (data_of field, ts))
      (λ (e : Invalid). data_at depth (t ∷ ts) ≡ None)
  number_first t text None is said = rw is (no_number_by text (number_of text) refl said)
  number_first t text (Some field) is said = rw is (number_by text (number_of text) (data_of field) refl said)

pub nothing_there : (depth : ℕ) (ts : List Token) → ts ≡ [] → data_at depth ts ≡ None
nothing_there depth ts empty = ap (data_at depth) empty ∙ ap (converted of_json) (value_is depth [])

-- too deep
pub too_deep : (depth : ℕ) (ts all : List Token) → depth ≡ 0 → all ≡ Token.begin_array ∷ ts → data_at depth all ≡ None
unfolding value
too_deep depth ts all none is = ap₂ data_at none is

pub too_deep_object : (depth : ℕ) (ts all : List Token) → depth ≡ 0 → all ≡ Token.begin_object ∷ ts → data_at depth all ≡ None
unfolding value
too_deep_object depth ts all none is = ap₂ data_at none is

-- ---- a value that begins with another token is no list, or no object

abbrev none_of : {A : Type 0} → Data → Option A
none_of d = None

numbers : {A : Type 0} (f : Data → Option A) (ts : List Token) (o : Option Num) → ((n : Num) → f (number n) ≡ None)
    → parse_map f (option_map (λ (d : Data). (d, ts)) (option_map number o))
    ≡ parse_map none_of (option_map (λ (d : Data). (d, ts)) (option_map number o))
numbers f ts None law = refl
numbers f ts (Some n) law = ap (λ a. Some (a, ts)) (law n)

under : {A B : Type 0} (f : Data → Option A) (g : B → Data) (o : Option (B × List Token)) → ((b : B) → f (g b) ≡ None)
    → parse_map f (parse_map g o) ≡ parse_map none_of (parse_map g o)
under f g None law = refl
under f g (Some p) law = ap (λ a. Some (a, p.1)) (law p.0)

abbrev inner_items : ℕ → List Token → Option (json.Items × List Token)
inner_items zero ts = None
inner_items (suc d) ts = json.items (value d) (length ts) ts

abbrev inner_members : ℕ → List Token → Option (json.Members × List Token)
inner_members zero ts = None
inner_members (suc d) ts = json.members (value d) (length ts) ts

abbrev of_object : Option (json.Members × List Token) → Option (Members × List Token)
of_object o = converted (λ (ms : json.Members). of_members ms no_members) o

module _ (depth : ℕ) (ts : List Token) where
  object_is : data_at depth (Token.begin_object ∷ ts) ≡ parse_map object (of_object (inner_members depth ts))
  object_is = ap (converted of_json) (value_is depth (Token.begin_object ∷ ts)) ∙ converted_object (inner_members depth ts)

  list_is : data_at depth (Token.begin_array ∷ ts) ≡ parse_map array (converted of_items (inner_items depth ts))
  list_is = ap (converted of_json) (value_is depth (Token.begin_array ∷ ts)) ∙ converted_array (inner_items depth ts)

  -- a reading that finds nothing in a scalar finds nothing in a value that begins with another token than its own
  module _ {A : Type 0} (f : Data → Option A) (of_null : f null ≡ None) (of_boolean : (b : Bool) → f (boolean b) ≡ None)
      (of_number : (n : Num) → f (number n) ≡ None) (of_string : (s : List ℕ) → f (string s) ≡ None) where
    abbrev FindsNone : Read → Type 0
    FindsNone t = parse_map f (data_at depth (token_of t ∷ ts)) ≡ parse_map none_of (data_at depth (token_of t ∷ ts))

    other_than : (t : Read) → (t ≡ front.BeginArray → FindsNone front.BeginArray) → (t ≡ front.BeginObject → FindsNone front.BeginObject)
        → FindsNone t
    other_than front.BeginObject at_list at_object = at_object refl
    other_than front.BeginArray at_list at_object = at_list refl
    other_than (front.String s) at_list at_object = rw (value_is depth (Token.string s.now ∷ ts), of_string s.now) refl
    other_than (front.Number s) at_list at_object = rw (value_is depth (Token.number s.now ∷ ts)) (numbers f ts (number_of s.now) of_number)
    other_than (front.Bool b) at_list at_object = rw (value_is depth (Token.boolean b ∷ ts), of_boolean b) refl
    other_than front.Null at_list at_object = rw (value_is depth (Token.null ∷ ts), of_null) refl
    other_than t at_list at_object = rw (value_is depth (token_of t ∷ ts)) refl

  passed : {A B : Type 0} (f : Data → Option A) (g : Data → B) (b : B) (r : List Token) (o : Option (Data × List Token))
      → parse_map f o ≡ parse_map none_of o → parse_map g o ≡ Some (b, r) → parse_map f o ≡ Some (None, r)
  passed f g b r None same there = absurd (cc)
  passed f g b r (Some p) same there = same ∙ ap (λ o. option_map (λ q. (None, q)) (behind o)) there

  module _ (t : Read) (all : List Token) (d : Data) (r : List Token) (is : all ≡ token_of t ∷ ts)
      (there : parse_map plain (data_at depth (token_of t ∷ ts)) ≡ Some (d, r)) where
    pub no_list : (t ≡ front.BeginArray → ⊥) → parse_map as_array (data_at depth all) ≡ Some (None, r)
    no_list other =
        ap (λ xs. parse_map as_array (data_at depth xs)) is
        ∙ passed as_array plain d r (data_at depth (token_of t ∷ ts))
        (other_than as_array refl (λ b. refl) (λ n. refl) (λ s. refl) t (λ same. absurd (other same))
        (λ same. rw object_is (under as_array object (of_object (inner_members depth ts)) (λ ms. refl)))) there

    pub no_object : (t ≡ front.BeginObject → ⊥) → parse_map as_object (data_at depth all) ≡ Some (None, r)
    no_object other =
        ap (λ xs. parse_map as_object (data_at depth xs)) is
        ∙ passed as_object plain d r (data_at depth (token_of t ∷ ts))
        (other_than as_object refl (λ b. refl) (λ n. refl) (λ s. refl) t
        (λ same. rw list_is (under as_object array (converted of_items (inner_items depth ts)) (λ ds. refl)))
        (λ same. absurd (other same))) there
