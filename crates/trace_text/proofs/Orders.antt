-- The order that a text has beside its trace.
use Rattle.std.proofs.Common.{◌≡◌, ◌<◌, ◌≤◌, ◌-◌, ℕ, Bool, true, false, List, [], ◌∷◌, ◌++◌, length, Option, Some, None, option_and_then}
use Rattle.std.proofs.Common.{bytes_eq, codes, refl, sym, ap, ap₂, ◌∙◌, arith, append_assoc, append-nil, drop, get_or, lt-ltb, ◌+◌}
use Rattle.std.proofs.lemmas.Bool.{false_from_ne_true}
use Rattle.std.proofs.lemmas.List.{drop_more, length-drop}
use Rattle.std.specs.Prelude.{MatchOption, cond, if◌then◌else◌, is_some, nat_lt}
use Rattle.std.specs.Str.{is_utf8, IsUtf8}
use Rattle.std.proofs.lemmas.Str.{IsUtf8-from_is_utf8, is_utf8-from_IsUtf8}
use Rattle.json.specs.Lex.{tokens}
use Rattle.json.specs.Token.{Token}
use Rattle.json.specs.Json as json
use Rattle.json.specs.Json.{items, parse_map, read_key, members, value, if_last}
use Rattle.json.specs.Reads.{token_of}
use Rattle.json.specs.declared.token.Token.{Token as Read}
use Rattle.json.specs.declared.token.Token.TheVariants as start
use Rattle.json.specs.Find.{as_str, get_member, later_or}
use Rattle.json.specs.declared.error.Error.{Error}
use Rattle.json.specs.declared.error.Error.TheVariants.{OutOfMemory}
use Rattle.json.proofs.Grammar.{value_is, value-begin_array, value-begin_object, members_end, members_fail, members_more, members_no_key}
use Rattle.trace_text.specs.Ordered.{Ordered, IsLacking, MessageFits, TurnsFit, order_of, order_words, space_if}
use Rattle.trace_text.specs.Ordered.{turn_text, turns_of, turns_text, with_turn, words_at, words_from, words_in}
use Rattle.trace_text.proofs.Walks.{mapped_none, mapped_some}
use Rattle.group_task.specs.declared.node.TheConstants.{NODES}

-- ---- the text under the key

over : (b : Bool) (j : json.Json) (found g : Option json.Json)
    → option_and_then as_str (later_or g (if b then Some j else found))
    ≡ option_and_then as_str (later_or (later_or g (cond b (Some j) None)) found)
over true j found None = refl
over true j found (Some k) = refl
over false j found None = refl
over false j found (Some k) = refl

put_in : (b : Bool) (j : json.Json) (found : Option json.Json)
    → (if b then as_str j else option_and_then as_str found) ≡ option_and_then as_str (if b then Some j else found)
put_in true j found = refl
put_in false j found = refl

-- of equal keys the last counts
words_last : (found : Option json.Json) (ms : json.Members)
    → words_from (option_and_then as_str found) ms ≡ option_and_then as_str (later_or (get_member (codes "order") ms) found)
words_last found json.no_members = refl
words_last found (json.member k j ms) =
    let b = bytes_eq k (codes "order") in
    ap (λ (t : Option (List ℕ)). words_from t ms) (put_in b j found) ∙ words_last (if b then Some j else found) ms
    ∙ over b j found (get_member (codes "order") ms)

no_later : (g : Option json.Json) → later_or g None ≡ g
no_later None = refl
no_later (Some j) = refl

words_of_members : (ms : json.Members) → words_from None ms ≡ option_and_then as_str (get_member (codes "order") ms)
words_of_members ms = words_last None ms ∙ ap (option_and_then as_str) (no_later (get_member (codes "order") ms))

abbrev whole : Option (json.Json × List Token) → Option (List ℕ)
whole o = option_and_then order_words (option_and_then (λ p. if_last p.0 p.1) o)

at_object : (ts r : List Token) → ts ≡ Token.begin_object ∷ r
    → words_at ts ≡ whole (parse_map json.object (members (value 126) (length r) r))
at_object ts r is = rw (is, value-begin_object 127 r (omega arith)) refl

pub words_whole : (ts r : List Token) (text : Option (List ℕ)) → ts ≡ Token.begin_object ∷ r
    → parse_map (words_from None) (members (value 126) (length r) r) ≡ Some (text, []) → text ≡ words_at ts
words_whole ts r text is read =
    let ms = mapped_some (words_from None) (members (value 126) (length r) r) text [] read in
    rw (at_object ts r is, ms.1, ← words_of_members ms.0, ms.2) refl

pub words_more : (ts r more : List Token) (t : Token) (text : Option (List ℕ)) → ts ≡ Token.begin_object ∷ r
    → parse_map (words_from None) (members (value 126) (length r) r) ≡ Some (text, t ∷ more) → words_at ts ≡ None
words_more ts r more t text is read =
    let ms = mapped_some (words_from None) (members (value 126) (length r) r) text (t ∷ more) read in rw (at_object ts r is, ms.1) refl

-- a token more behind the object, or none
module _ (ts r rest new : List Token) (text : Option (List ℕ)) (o : Option Read) (is : ts ≡ Token.begin_object ∷ r)
    (read : parse_map (words_from None) (members (value 126) (length r) r) ≡ Some (text, rest))
    (next : MatchOption o ((rest ≡ []) × (new ≡ [])) (λ t. rest ≡ token_of t ∷ new)) where
  by_next : (o : Option Read) → MatchOption o ((rest ≡ []) × (new ≡ [])) (λ t. rest ≡ token_of t ∷ new)
      → (is_some o ≡ true → words_at ts ≡ None) × (is_some o ≡ false → text ≡ words_at ts)
  by_next None next = (λ some. absurd cc, λ none. words_whole ts r text is (rw next.0 at read))
  by_next (Some t) next = (λ some. words_more ts r new (token_of t) text is (rw next at read), λ none. absurd cc)

  pub behind : is_some o ≡ true → words_at ts ≡ None
  behind = (by_next o next).0

  pub at_end : is_some o ≡ false → text ≡ words_at ts
  at_end = (by_next o next).1

lacks_members : (ts r : List Token) → ts ≡ Token.begin_object ∷ r → members (value 126) (length r) r ≡ None → words_at ts ≡ None
lacks_members ts r is none = rw (at_object ts r is, none) refl

-- what isn't read isn't there
pub lacking : {A B : Type 0} (o : Option A) (p : Option B) (e : Error) → (o ≡ None → p ≡ None) → IsLacking o e → IsLacking p e
lacking o p OutOfMemory none is = tt
lacking o p _ none is = none is

pub words_lacking : (ts r : List Token) (e : Error) → ts ≡ Token.begin_object ∷ r → IsLacking (members (value 126) (length r) r) e
    → IsLacking (words_at ts) e
words_lacking ts r e is lacks = lacking (members (value 126) (length r) r) (words_at ts) e (lacks_members ts r is) lacks

no_array : (o : Option (json.Items × List Token)) → whole (parse_map json.array o) ≡ None
no_array None = refl
no_array (Some (js, [])) = refl
no_array (Some (js, t ∷ ts)) = refl

pub no_words : words_at [] ≡ None
no_words = ap whole (value_is 127 [])

pub other_words : (t : Read) (ts r : List Token) → (t ≡ start.BeginObject → ⊥) → ts ≡ token_of t ∷ r → words_at ts ≡ None
other_words start.BeginObject ts r other is = absurd (other refl)
other_words start.BeginArray ts r other is = rw (is, value-begin_array 127 r (omega arith)) (no_array (items (value 126) (length r) r))
other_words t ts [] other is = rw (is, value_is 127 (token_of t ∷ [])) refl
other_words t ts (x ∷ r) other is = rw (is, value_is 127 (token_of t ∷ x ∷ r)) refl

-- ---- members, a turn at a time

with_member : (found : Option (List ℕ)) (k : List ℕ) (j : json.Json) (o : Option (json.Members × List Token))
    → parse_map (words_from found) (parse_map (json.member k j) o)
    ≡ parse_map (words_from (if bytes_eq k (codes "order") then as_str j else found)) o
with_member found k j None = refl
with_member found k j (Some p) = refl

module _ (n : ℕ) (ts : List Token) (found : Option (List ℕ)) where
  pub member_passed : (k : List ℕ) (s r : List Token) (j : json.Json) → 0 < n → read_key ts ≡ Some (Some k, s) → value 126 s ≡ Some (j, r)
      → parse_map (words_from found) (members (value 126) n ts)
      ≡ parse_map (words_from (if bytes_eq k (codes "order") then as_str j else found)) (members (value 126) (n - 1) r)
  member_passed k s r j some key is = ap (parse_map (words_from found)) (members_more (value 126) n k ts s r j some key is)
      ∙ with_member found k j (members (value 126) (n - 1) r)

  pub members_over : (r : List Token) → length ts ≤ n → read_key ts ≡ Some (None, r)
      → parse_map (words_from found) (members (value 126) n ts) ≡ Some (found, r)
  members_over r enough key = ap (parse_map (words_from found)) (members_end (value 126) n ts r enough key)

  pub no_key : (all : Option (json.Members × List Token)) → parse_map (words_from None) all ≡ parse_map (words_from found)
      (members (value 126) n ts) → read_key ts ≡ None → all ≡ None
  no_key all same none = mapped_none (words_from None) all (same ∙ ap (parse_map (words_from found)) (members_no_key (value 126) n ts none))

  pub no_value : (all : Option (json.Members × List Token)) (k : List ℕ) (s : List Token)
      → parse_map (words_from None) all ≡ parse_map (words_from found) (members (value 126) n ts) → read_key ts ≡ Some (Some k, s)
      → value 126 s ≡ None → all ≡ None
  no_value all k s same key none = mapped_none (words_from None) all (same
      ∙ ap (parse_map (words_from found)) (members_fail (value 126) n k ts s key none))

pub kept_found : (b : Bool) (text found : Option (List ℕ)) → b ≡ false → found ≡ (if b then text else found)
kept_found b text found other = rw other refl

-- ---- turns

abbrev pub joined : Ordered → Option Ordered → Option Ordered
joined so None = None
joined so (Some rest) = Some (so.0 ++ rest.0, so.1 ++ rest.1)

pub turn_joined : (nodes : List ℕ) (messages : List (Option ℕ)) (n : ℕ) (m : Option ℕ) (o : Option Ordered)
    → joined (nodes, messages) (with_turn (Some n) (Some m) o) ≡ joined (nodes ++ n ∷ [], messages ++ m ∷ []) o
turn_joined nodes messages n m None = refl
turn_joined nodes messages n m (Some rest) = ap₂ (λ (a : List ℕ) (b : List (Option ℕ)). Some (a, b))
    (sym (append_assoc nodes (n ∷ []) rest.0)) (sym (append_assoc messages (m ∷ []) rest.1))

-- ---- the text

pub no_order : (text : List ℕ) → (IsUtf8 text → ⊥) → order_of text ≡ None
no_order text bad = rw (false_from_ne_true (is_utf8 text) (λ is. bad (IsUtf8-from_is_utf8 text is))) refl

pub some_order : (text words : List ℕ) → IsUtf8 text → words_at (tokens text) ≡ Some words → order_of text ≡ turns_of (words_in words)
some_order text words utf8 there =
    rw (is_utf8-from_IsUtf8 text utf8) (ap (option_and_then (λ (t : List ℕ). turns_of (words_in t))) there)

-- ---- what is written

module _ (text new : List ℕ) (i : ℕ) (ns : List ℕ) (ms : List (Option ℕ)) (n : ℕ) (m : Option ℕ) (node : n ≡ get_or ns i n)
    (message : m ≡ get_or ms i m) (within : (i < length ns) × (i < length ms)) where
  first_node : drop i ns ≡ n ∷ drop (i + 1) ns
  first_node = drop_more ns i n within.0 ∙ ap (λ (x : ℕ). x ∷ drop (i + 1) ns) (sym node)

  first_message : drop i ms ≡ m ∷ drop (i + 1) ms
  first_message = drop_more ms i m within.1 ∙ ap (λ (x : Option ℕ). x ∷ drop (i + 1) ms) (sym message)

  pub turns_more : new ≡ text ++ (space_if (nat_lt 0 i) ++ turn_text n m)
      → new ++ turns_text (nat_lt 0 (i + 1)) (drop (i + 1) ns) (drop (i + 1) ms) ≡ text ++ turns_text (nat_lt 0 i) (drop i ns) (drop i ms)
  turns_more added =
      let positive : 0 < i + 1 = omega arith in
      let rest = turns_text true (drop (i + 1) ns) (drop (i + 1) ms) in
      rw (lt-ltb 0 (i + 1) positive, added, first_node, first_message) (append_assoc text (space_if (nat_lt 0 i) ++ turn_text n m) rest
      ∙ ap (λ (xs : List ℕ). text ++ xs) (append_assoc (space_if (nat_lt 0 i)) (turn_text n m) rest))

  pub fits_more : n < NODES → MessageFits m → TurnsFit (drop (i + 1) ns) (drop (i + 1) ms) → TurnsFit (drop i ns) (drop i ms)
  fits_more first second rest = rw (first_node, first_message) (first, second, rest)

none_text : (later : Bool) (ns : List ℕ) (ms : List (Option ℕ)) → (0 < length ns → 0 < length ms → ⊥) → turns_text later ns ms ≡ []
none_text later [] ms none = refl
none_text later (n ∷ ns) [] none = refl
none_text later (n ∷ ns) (m ∷ ms) none = absurd (none (omega arith) (omega arith))

none_fits : (ns : List ℕ) (ms : List (Option ℕ)) → (0 < length ns → 0 < length ms → ⊥) → TurnsFit ns ms
none_fits [] ms none = tt
none_fits (n ∷ ns) [] none = tt
none_fits (n ∷ ns) (m ∷ ms) none = absurd (none (omega arith) (omega arith))

module _ (i : ℕ) (ns : List ℕ) (ms : List (Option ℕ)) (past : i < length ns → i < length ms → ⊥) where
  none_here : 0 < length (drop i ns) → 0 < length (drop i ms) → ⊥
  none_here a b = let left = length-drop i ns in let right = length-drop i ms in past (omega (arith, a, left)) (omega (arith, b, right))

  pub turns_all : (text all : List ℕ) → text ++ turns_text (nat_lt 0 i) (drop i ns) (drop i ms) ≡ all → text ≡ all
  turns_all text all is = rw (← is, none_text (nat_lt 0 i) (drop i ns) (drop i ms) none_here, append-nil text) refl

  pub fits_all : TurnsFit (drop i ns) (drop i ms)
  fits_all = none_fits (drop i ns) (drop i ms) none_here
