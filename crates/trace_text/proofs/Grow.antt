-- What a parse takes from the front of some tokens it takes from the front of more, and the count that bounds its turns plays no part.
use Rattle.std.proofs.Common.{◌≡◌, ℕ, zero, suc, ◌-◌, ◌<◌, ◌≤◌, Bool, true, cond, List, [], ◌∷◌, length, Option, Some, None, option_map}
use Rattle.std.proofs.Common.{option_and_then, refl, sym, ap, ◌∙◌, arith}
use Rattle.std.proofs.lemmas.Option.{some_pair_parts}
use Rattle.json.specs.Token.{Token}
use Rattle.json.specs.Json as json
use Rattle.json.specs.Json.{Json, Parse, parse_map, after_end_array, read_key, items_step, members_step, items, members, value_with, value}
use Rattle.json.proofs.Grammar.{Takes, left, skip_value-shorter, read_key-shorter, closed_array, read_key_is, items_end, items_fail}
use Rattle.json.proofs.Grammar.{items_more, members_end, members_no_key, members_more}
use Rattle.json.specs.Align.{is_good}
use Rattle.serde_json.specs.Data.{Data, Items, item, Members, no_members, put}
use Rattle.serde_json.specs.Read.{of_json, of_items, of_members, converted}
use Rattle.trace_text.specs.Pieces.{joined, with_more, parted_then, parts_on, then_parts}
use Rattle.trace_text.specs.Streams.{Parted, data_at, items_at, parted_in, parted_put}
use Rattle.trace_text.proofs.Members.{parted_law}
use Rattle.trace_text.proofs.Turns.{with_item, without_item}
use Rattle.trace_text.proofs.Walks.{mapped_some, mapped_twice}

-- ---- more tokens

-- a parse takes the same of more tokens
abbrev pub Grows : {A : Type 0} → Parse A → Type 0
Grows {A} p = (ts r more : List Token) (a : A) → p ts ≡ Some (a, r) → p (joined ts more) ≡ Some (a, joined r more)

-- and in any number of turns that is enough
abbrev GrowsBy : {A : Type 0} → (ℕ → Parse A) → ℕ → Type 0
GrowsBy {A} p n = (m : ℕ) (ts r more : List Token) (a : A) → length (joined ts more) ≤ m → p n ts ≡ Some (a, r)
    → p m (joined ts more) ≡ Some (a, joined r more)

still_open : (ts more : List Token) → 0 < length ts → after_end_array ts ≡ None → after_end_array (joined ts more) ≡ None
still_open [] more some e = absurd (omega (arith, some))
still_open (Token.end_array ∷ ts) more some e = absurd (cc)
still_open (_ ∷ ts) more some e = refl

closes_still : (ts r more : List Token) → after_end_array ts ≡ Some r → after_end_array (joined ts more) ≡ Some (joined r more)
closes_still ts r more e = rw (closed_array ts r e) refl

keys_still : (ts r more : List Token) (k : Option (List ℕ)) → read_key ts ≡ Some (k, r)
    → read_key (joined ts more) ≡ Some (k, joined r more)
keys_still ts r more None e = rw (read_key_is ts None r e) refl
keys_still ts r more (Some k) e = rw (read_key_is ts (Some k) r e) refl

rest_joined : {A : Type 0} (a b : A) (r s more : List Token) → ◌≡◌ {A = Option (A × List Token)} (Some (a, r)) (Some (b, s))
    → ◌≡◌ {A = Option (A × List Token)} (Some (a, joined r more)) (Some (b, joined s more))
rest_joined a b r s more e = let same = some_pair_parts a b r s e in rw (same.0, same.1) refl

module _ (p : Parse Json) (takes : Takes p) where
  shorter : (ts r : List Token) (j : Json) → p ts ≡ Some (j, r) → length r < length ts
  shorter ts r j e = takes ts r (ap left e)

  nothing_of : p [] ≡ None
  nothing_of = by (p []) refl
    where
      by : (o : Option (Json × List Token)) → p [] ≡ o → p [] ≡ None
      by None e = e
      by (Some q) e = let less = shorter [] q.1 q.0 e in absurd (omega (arith, less))

  module _ (grows : Grows p) where
    item_grown : (n m : ℕ) (ts r more : List Token) (js : json.Items) (o : Option (Json × List Token)) → GrowsBy (items p) n
        → length (joined ts more) ≤ m → after_end_array ts ≡ None → p ts ≡ o
        → option_and_then (λ q. parse_map (json.item q.0) (items p n q.1)) o ≡ Some (js, r)
        → items p m (joined ts more) ≡ Some (js, joined r more)
    item_grown n m ts r more js None again enough going is e = absurd (cc)
    item_grown n m ts r more js (Some q) again enough going is e =
        let ks = mapped_some (json.item q.0) (items p n q.1) js r e in
        let there = grows ts q.1 more q.0 is in
        let less = shorter (joined ts more) (joined q.1 more) q.0 there in
        let some = shorter ts q.1 q.0 is in
        rw (
          items_more p m (joined ts more) (joined q.1 more) q.0 (omega (arith, less, enough))
              (still_open ts more (omega (arith, some)) going) there,
          again (m - 1) q.1 r more ks.0 (omega (arith, less, enough)) ks.1,
        ) (ap (λ (k : json.Items). Some (k, joined r more)) ks.2)

    list_grown : (n m : ℕ) (ts r more : List Token) (js : json.Items) (o : Option (List Token)) → GrowsBy (items p) n
        → length (joined ts more) ≤ m → after_end_array ts ≡ o
        → items_step p (items p n) ts o ≡ Some (js, r) → items p m (joined ts more) ≡ Some (js, joined r more)
    list_grown n m ts r more js (Some s) again enough is e =
        items_end p m (joined ts more) (joined s more) enough (closes_still ts s more is) ∙ rest_joined json.no_items js s r more e
    list_grown n m ts r more js None again enough is e = item_grown n m ts r more js (p ts) again enough is refl e

    items_grow : (n : ℕ) → GrowsBy (items p) n
    unfolding items
    items_grow zero m ts r more js enough e = absurd (cc)
    items_grow (suc n) m ts r more js enough e = list_grown n m ts r more js (after_end_array ts) (items_grow n) enough refl e

    member_grown : (n m : ℕ) (k : List ℕ) (ts s r more : List Token) (ms : json.Members) (o : Option (Json × List Token))
        → GrowsBy (members p) n → length (joined ts more) ≤ m → read_key ts ≡ Some (Some k, s) → p s ≡ o
        → option_and_then (λ q. parse_map (json.member k q.0) (members p n q.1)) o ≡ Some (ms, r)
        → members p m (joined ts more) ≡ Some (ms, joined r more)
    member_grown n m k ts s r more ms None again enough at is e = absurd (cc)
    member_grown n m k ts s r more ms (Some q) again enough at is e =
        let ks = mapped_some (json.member k q.0) (members p n q.1) ms r e in
        let there = grows s q.1 more q.0 is in
        let key = keys_still ts s more (Some k) at in
        let less = shorter (joined s more) (joined q.1 more) q.0 there in
        let lesser = read_key-shorter (joined ts more) (Some k) (joined s more) key in
        rw (
          members_more p m k (joined ts more) (joined s more) (joined q.1 more) q.0 (omega (arith, lesser, enough)) key there,
          again (m - 1) q.1 r more ks.0 (omega (arith, less, lesser, enough)) ks.1,
        ) (ap (λ (x : json.Members). Some (x, joined r more)) ks.2)

    object_grown : (n m : ℕ) (ts r more : List Token) (ms : json.Members) (o : Option (Option (List ℕ) × List Token))
        → GrowsBy (members p) n → length (joined ts more) ≤ m → read_key ts ≡ o
        → option_and_then (λ q. members_step p (members p n) q.0 q.1) o ≡ Some (ms, r)
        → members p m (joined ts more) ≡ Some (ms, joined r more)
    object_grown n m ts r more ms None again enough is e = absurd (cc)
    object_grown n m ts r more ms (Some (None, s)) again enough is e =
        members_end p m (joined ts more) (joined s more) enough (keys_still ts s more None is)
        ∙ rest_joined json.no_members ms s r more e
    object_grown n m ts r more ms (Some (Some k, s)) again enough is e = member_grown n m k ts s r more ms (p s) again enough is refl e

    members_grow : (n : ℕ) → GrowsBy (members p) n
    unfolding members
    members_grow zero m ts r more ms enough e = absurd (cc)
    members_grow (suc n) m ts r more ms enough e = object_grown n m ts r more ms (read_key ts) (members_grow n) enough refl e

  -- ---- the count of turns

  same_turn : {A : Type 0} (with : Json → A → A) (rest other : Parse A) (n : ℕ) (ts : List Token) (o : Option (Json × List Token))
      → p ts ≡ o → length ts ≤ suc n → ((s : List Token) → length s ≤ n → rest s ≡ other s)
      → option_and_then (λ q. parse_map (with q.0) (rest q.1)) o ≡ option_and_then (λ q. parse_map (with q.0) (other q.1)) o
  same_turn with rest other n ts None is enough again = refl
  same_turn with rest other n ts (Some q) is enough again = let less = shorter ts q.1 q.0 is in
      ap (parse_map (with q.0)) (again q.1 (omega (arith, less, enough)))

  same_step : (n m : ℕ) (ts : List Token) (o : Option (List Token)) → length ts ≤ suc n
      → ((s : List Token) → length s ≤ n → items p n s ≡ items p m s) → items_step p (items p n) ts o ≡ items_step p (items p m) ts o
  same_step n m ts (Some r) enough again = refl
  same_step n m ts None enough again = same_turn json.item (items p n) (items p m) n ts (p ts) refl enough again

  same_items : (n m : ℕ) (ts : List Token) → length ts ≤ n → n ≤ m → items p n ts ≡ items p m ts
  unfolding items
  same_items zero m [] enough most = sym (items_fail p m [] refl nothing_of)
  same_items zero m (t ∷ ts) enough most = absurd (omega (arith, enough))
  same_items (suc n) zero ts enough most = absurd (omega (arith, most))
  same_items (suc n) (suc m) ts enough most = same_step n m ts (after_end_array ts) enough (λ s few.
      same_items n m s few (omega (arith, most)))

  same_key : (n m : ℕ) (ts : List Token) (o : Option (Option (List ℕ) × List Token)) → read_key ts ≡ o → length ts ≤ suc n
      → ((s : List Token) → length s ≤ n → members p n s ≡ members p m s)
      → option_and_then (λ q. members_step p (members p n) q.0 q.1) o ≡ option_and_then (λ q. members_step p (members p m) q.0 q.1) o
  same_key n m ts None is enough again = refl
  same_key n m ts (Some (None, s)) is enough again = refl
  same_key n m ts (Some (Some k, s)) is enough again = let less = read_key-shorter ts (Some k) s is in
      same_turn (json.member k) (members p n) (members p m) n s (p s) refl (omega (arith, less, enough)) again

  same_members : (n m : ℕ) (ts : List Token) → length ts ≤ n → n ≤ m → members p n ts ≡ members p m ts
  unfolding members
  same_members zero zero ts enough most = refl
  same_members zero (suc m) [] enough most = refl
  same_members zero (suc m) (t ∷ ts) enough most = absurd (omega (arith, enough))
  same_members (suc n) zero ts enough most = absurd (omega (arith, most))
  same_members (suc n) (suc m) ts enough most = same_key n m ts (read_key ts) refl enough (λ s few.
      same_members n m s few (omega (arith, most)))

-- ---- values

value_grown : (a : Parse json.Items) (o : Parse json.Members) → Grows a → Grows o → Grows (value_with a o)
value_grown a o p q (Token.begin_object ∷ ts) r more j e = let ms = mapped_some json.object (o ts) j r e in
    rw (q ts r more ms.0 ms.1, ms.2) refl
value_grown a o p q (Token.begin_array ∷ ts) r more j e = let js = mapped_some json.array (a ts) j r e in
    rw (p ts r more js.0 js.1, js.2) refl
value_grown a o p q (Token.string s ∷ ts) r more j e = rest_joined (json.string s) j ts r more e
value_grown a o p q (Token.number s ∷ ts) r more j e = rest_joined (json.number s) j ts r more e
value_grown a o p q (Token.boolean b ∷ ts) r more j e = rest_joined (json.boolean b) j ts r more e
value_grown a o p q (Token.null ∷ ts) r more j e = rest_joined json.null j ts r more e
value_grown a o p q _ r more j e = absurd (cc)

value_grows : (depth : ℕ) → Grows (value depth)
unfolding value
value_grows zero = value_grown (λ ts. None) (λ ts. None) (λ ts r more a e. absurd (cc)) (λ ts r more a e. absurd (cc))
value_grows (suc d) =
    let takes = skip_value-shorter d in
    value_grown (λ ts. items (value d) (length ts) ts) (λ ts. members (value d) (length ts) ts)
    (λ ts r more js e. items_grow (value d) takes (value_grows d) (length ts) (length (joined ts more)) ts r more js (omega arith) e)
    (λ ts r more ms e. members_grow (value d) takes (value_grows d) (length ts) (length (joined ts more)) ts r more ms (omega arith) e)

-- ---- a turn of a list, an object: an item, a member, and then the rest

module _ {B : Type 0} (g : Items → B) (depth : ℕ) where
  abbrev pub then_items : Data × List Token → Option (B × List Token)
  then_items q = parse_map (λ (ds : Items). g (item q.0 ds)) (items_at depth q.1)

  item_by : (j : Json) (s : List Token) (o : Option Data) → of_json j ≡ o
      → parse_map g (converted of_items (parse_map (json.item j) (items (value depth) (length s) s)))
      ≡ option_and_then then_items (option_map (λ (d : Data). (d, s)) o)
  item_by j s None is = ap (parse_map g) (without_item j is (items (value depth) (length s) s))
  item_by j s (Some d) is = ap (parse_map g) (with_item j d is (items (value depth) (length s) s))
      ∙ mapped_twice g (item d) (λ (ds : Items). g (item d ds)) (items_at depth s) (λ ds. refl)

  turn_by : (n : ℕ) (ts : List Token) (o : Option (Json × List Token)) → value depth ts ≡ o → length ts ≤ suc n
      → parse_map g (converted of_items (option_and_then (λ q. parse_map (json.item q.0) (items (value depth) n q.1)) o))
      ≡ option_and_then then_items (converted of_json o)
  turn_by n ts None is enough = refl
  turn_by n ts (Some q) is enough =
      let takes = skip_value-shorter depth in
      let less = shorter (value depth) takes ts q.1 q.0 is in
      rw (← same_items (value depth) takes (length q.1) n q.1 (omega arith) (omega (arith, less, enough)))
      (item_by q.0 q.1 (of_json q.0) refl)

  pub list_turn : (ts : List Token) → after_end_array ts ≡ None
      → parse_map g (items_at depth ts) ≡ option_and_then then_items (converted of_json (value depth ts))
  unfolding items
  list_turn [] going = rw (nothing_of (value depth) (skip_value-shorter depth)) refl
  list_turn (t ∷ ts) going = rw going (turn_by (length ts) (t ∷ ts) (value depth (t ∷ ts)) refl (omega arith))

-- ---- the members of the whole

member_by : (s : Parted) (k : List ℕ) (j : Json) (o : Option Data) → of_json j ≡ o → (m : Option (json.Members × List Token))
    → converted (parted_then s) (parse_map (json.member k j) m)
    ≡ option_and_then (λ (d : Data). converted (parted_then (parted_put s k d)) m) o
member_by s k j None is None = refl
member_by s k j None is (Some q) = rw is refl
member_by s k j (Some d) is None = refl
member_by s k j (Some d) is (Some q) = rw is refl

member_then : (s : Parted) (k : List ℕ) (r : List Token) (o : Option Data)
    → option_and_then (λ (d : Data). parts_on (parted_put s k d) r) o
    ≡ option_and_then then_parts (parse_map (parted_put s k) (option_map {U = Data × List Token} (λ (d : Data). (d, r)) o))
member_then s k r None = refl
member_then s k r (Some d) = refl

key_by : (n : ℕ) (s : Parted) (k : List ℕ) (ts : List Token) (o : Option (Json × List Token)) → value 126 ts ≡ o → length ts ≤ n
    → converted (parted_then s) (option_and_then (λ q. parse_map (json.member k q.0) (members (value 126) n q.1)) o)
    ≡ option_and_then then_parts (parse_map (parted_put s k) (converted of_json o))
key_by n s k ts None is enough = refl
key_by n s k ts (Some q) is enough =
    let takes = skip_value-shorter 126 in
    let less = shorter (value 126) takes ts q.1 q.0 is in
    rw (← same_members (value 126) takes (length q.1) n q.1 (omega arith) (omega (arith, less, enough)))
    (member_by s k q.0 (of_json q.0) refl (members (value 126) (length q.1) q.1) ∙ member_then s k q.1 (of_json q.0))

pub object_turn : (s : Parted) (k : List ℕ) (ts r : List Token) → read_key ts ≡ Some (Some k, r)
    → parts_on s ts ≡ option_and_then then_parts (parse_map (parted_put s k) (data_at 126 r))
unfolding members
object_turn s k [] r key = absurd (cc)
object_turn s k (t ∷ ts) r key =
    let less = read_key-shorter (t ∷ ts) (Some k) r key in rw key (key_by (length ts) s k r (value 126 r) refl (omega (arith, less)))

pub object_over : (s : Parted) (ts r : List Token) → read_key ts ≡ Some (None, r) → parts_on s ts ≡ Some (s, r)
object_over s ts r key = ap (converted (parted_then s)) (members_end (value 126) (length ts) ts r (omega arith) key)

pub object_wrong : (s : Parted) (ts : List Token) → read_key ts ≡ None → parts_on s ts ≡ None
object_wrong s ts key = ap (converted (parted_then s)) (members_no_key (value 126) (length ts) ts key)

all_put : (ms : json.Members) (passed : Members) → option_map parted_in (of_members ms passed) ≡ parted_then (parted_in passed) ms
all_put json.no_members passed = refl
all_put (json.member k j ms) passed = by (of_json j) (λ d. all_put ms (put k d passed)
    ∙ ap (λ (s : Parted). parted_then s ms) (parted_law k d passed))
  where
    by : (o : Option Data) → ((d : Data) → option_map parted_in (of_members ms (put k d passed))
        ≡ parted_then (parted_put (parted_in passed) k d) ms)
        → option_map parted_in (option_and_then (λ (d : Data). of_members ms (put k d passed)) o)
        ≡ option_and_then (λ (d : Data). parted_then (parted_put (parted_in passed) k d) ms) o
    by None again = refl
    by (Some d) again = again d

pub parts_begun : (ts : List Token) → parse_map parted_in
    (converted (λ (ms : json.Members). of_members ms no_members) (members (value 126) (length ts) ts)) ≡ parts_on (parted_in no_members) ts
parts_begun ts = by (members (value 126) (length ts) ts)
  where
    under : (o : Option Members) (r : List Token) → parse_map parted_in (option_map (λ (ms : Members). (ms, r)) o)
        ≡ option_map (λ (s : Parted). (s, r)) (option_map parted_in o)
    under None r = refl
    under (Some ms) r = refl

    by : (o : Option (json.Members × List Token)) → parse_map parted_in (converted (λ (ms : json.Members). of_members ms no_members) o)
        ≡ converted (parted_then (parted_in no_members)) o
    by None = refl
    by (Some q) = under (of_members q.0 no_members) q.1 ∙ ap (λ (o : Option Parted). option_map (λ (s : Parted). (s, q.1)) o)
        (all_put q.0 no_members)

-- ---- with more tokens or none

abbrev More : Type 0
More = Option (List Token)

grown_by : (o : Option Data) (r s more : List Token) (d : Data) → option_map {U = Data × List Token} (λ (x : Data). (x, r)) o ≡ Some (d, s)
    → option_map {U = Data × List Token} (λ (x : Data). (x, joined r more)) o ≡ Some (d, joined s more)
grown_by None r s more d e = absurd (cc)
grown_by (Some x) r s more d e = rest_joined x d r s more e

json_grows : (depth : ℕ) (ts r more : List Token) (d : Data) (o : Option (Json × List Token)) → value depth ts ≡ o
    → converted of_json o ≡ Some (d, r) → data_at depth (joined ts more) ≡ Some (d, joined r more)
json_grows depth ts r more d None is e = absurd (cc)
json_grows depth ts r more d (Some q) is e = ap (converted of_json) (value_grows depth ts q.1 more q.0 is)
    ∙ grown_by (of_json q.0) q.1 r more d e

pub data_grows : (more : More) (depth : ℕ) (ts r : List Token) (d : Data) → data_at depth ts ≡ Some (d, r)
    → data_at depth (with_more more ts) ≡ Some (d, with_more more r)
data_grows None depth ts r d e = e
data_grows (Some more) depth ts r d e = json_grows depth ts r more d (value depth ts) refl e

pub open_with : (more : More) (ts : List Token) → 0 < length ts → after_end_array ts ≡ None → after_end_array (with_more more ts) ≡ None
open_with None ts some e = e
open_with (Some more) ts some e = still_open ts more some e

pub closed_with : (more : More) (ts r : List Token) → after_end_array ts ≡ Some r
    → after_end_array (with_more more ts) ≡ Some (with_more more r)
closed_with None ts r e = e
closed_with (Some more) ts r e = closes_still ts r more e

pub keyed_with : (more : More) (ts r : List Token) (k : Option (List ℕ)) → read_key ts ≡ Some (k, r)
    → read_key (with_more more ts) ≡ Some (k, with_more more r)
keyed_with None ts r k e = e
keyed_with (Some more) ts r k e = keys_still ts r more k e

pub good_with : (more : More) (t : Token) (ts : List Token) → is_good t ≡ true → with_more more (t ∷ ts) ≡ t ∷ with_more more ts
good_with None t ts good = refl
good_with (Some more) t ts good = ap (λ (b : Bool). t ∷ cond b (joined ts more) []) good
