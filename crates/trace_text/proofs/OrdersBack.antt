-- A trace that is written with its order is read back, and so is the order.
use Rattle.std.proofs.Common.{◌≡◌, ◌<◌, ◌≤◌, ◌^◌, ◌+◌, ◌%◌, ℕ, Bool, true, false, List, [], ◌∷◌, ◌++◌, length, map, Option, Some, None, Ok}
use Rattle.std.proofs.Common.{option_and_then, option_map, bytes_eq, codes, decimal, refl, sym, ap, ap₂, ◌∙◌, arith, append_assoc}
use Rattle.std.proofs.Common.{append-nil, lt-ltb, le-leb, eq-eqb, All}
use Rattle.std.specs.Prelude.{if◌then◌else◌, OnOk, Result}
use Rattle.std.specs.Str.{IsUtf8}
use Rattle.std.specs.declared.alloc.AllocError.{AllocError}
use Rattle.std.proofs.lemmas.Bool.Decides.{nat_tests}
use Rattle.std.proofs.lemmas.Fmt.{decimal_by_steps}
use Rattle.std.proofs.lemmas.List.Elements.{All-append, All-cons, All-nil}
use Rattle.std.proofs.lemmas.List.Splits.{slice_split_at, slice_split_none}
use Rattle.std.proofs.lemmas.Slice.Eq.{bytes_eq-Decides}
use Rattle.std.proofs.lemmas.Str.{is_utf8-from_IsUtf8}
use Rattle.json.specs.Json as json
use Rattle.json.specs.Lex.{tokens}
use Rattle.json.specs.Print.{print}
use Rattle.json.specs.Token.{Token}
use Rattle.json.specs.Token as token
use Rattle.json.specs.Tree as tree
use Rattle.json.specs.Written.{Written}
use Rattle.json.proofs.Printed.Trees.{value-json_tokens}
use Rattle.serde_json.specs.Read.{of_json, max_depth}
use Rattle.serde_json.specs.View.{items_of}
use Rattle.serde_json.specs.Written.{compact_text, outline}
use Rattle.serde_json.proofs.Numbers.{number_of-decimal}
use Rattle.serde_json.proofs.Texts.{print-outline}
use Rattle.line_words.specs.Words.{is_space, number_of, words_of}
use Rattle.group_task.specs.declared.node.TheConstants.{NODES}
use Rattle.trace_check.specs.Claims.{Claim}
use Rattle.trace_text.specs.Entries.{below}
use Rattle.trace_text.specs.Fits.{TraceFits, IsWritable}
use Rattle.trace_text.specs.Ordered.{Ordered, TurnsFit, MessageFits, json_of, message_in, message_word, node_in, order_in, order_of}
use Rattle.trace_text.specs.Ordered.{order_text, ordered_data, turn_text, turns_of, turns_text, with_turn, words_in}
use Rattle.trace_text.specs.Tokens.{Adds, histories_tokens, ordered_tokens}
use Rattle.trace_text.specs.Wholes.{in_shape, shape_in, trace_of}
use Rattle.trace_text.specs.Written.{history_data}
use Rattle.trace_text.proofs.Backs.{are_lists, as_many, below_back, histories_back}
use Rattle.trace_text.proofs.Printing.{histories_of, ok_then, whole_added}
use Rattle.trace_text.proofs.Readings.{histories_flat, histories_read, value_read}
use Rattle.trace_text.proofs.Texts.{good_text}

-- ---- the words of a turn

abbrev free : List ℕ → Type 0
free word = All (λ (c : ℕ). is_space c ≡ false) word

number_free : (n : ℕ) → n < 2 ^ 64 → free (decimal n)
number_free n small = decimal_by_steps (λ m digits. free digits) one more n small
  where
    one : (m : ℕ) → m < 10 → free ((48 + m) ∷ [])
    one m low = let other : is_space (48 + m) ≡ false = grind (arith, nat_tests, low) in
        All-cons (λ (c : ℕ). is_space c ≡ false) (48 + m) [] other (All-nil (λ (c : ℕ). is_space c ≡ false))

    more : (m : ℕ) (digits : List ℕ) → 10 ≤ m → free digits → free (digits ++ (48 + m % 10) ∷ [])
    more m digits tens before = All-append (λ (c : ℕ). is_space c ≡ false) digits ((48 + m % 10) ∷ []) before (one (m % 10) (omega arith))

message_free : (m : Option ℕ) → MessageFits m → free (message_word m)
message_free None fits = All-cons (λ (c : ℕ). is_space c ≡ false) 45 [] refl (All-nil (λ (c : ℕ). is_space c ≡ false))
message_free (Some n) fits = number_free n fits

-- two words alone, and in front of others
last_words : (n : ℕ) (m : Option ℕ) → n < NODES → MessageFits m → words_of (turn_text n m ++ []) ≡ decimal n ∷ message_word m ∷ []
last_words n m node fits =
    let small : n < 2 ^ 64 = omega (arith, node) in
    ap words_of (append-nil (turn_text n m)) ∙ slice_split_at is_space (decimal n) 32 (message_word m) (number_free n small) refl
    ∙ ap (λ (ws : List (List ℕ)). decimal n ∷ ws) (slice_split_none is_space (message_word m) (message_free m fits))

front_words : (n : ℕ) (m : Option ℕ) (rest : List ℕ) → n < NODES → MessageFits m
    → words_of (turn_text n m ++ 32 ∷ rest) ≡ decimal n ∷ message_word m ∷ words_of rest
front_words n m rest node fits =
    let small : n < 2 ^ 64 = omega (arith, node) in
    ap words_of (append_assoc (decimal n) (32 ∷ message_word m) (32 ∷ rest))
    ∙ slice_split_at is_space (decimal n) 32 (message_word m ++ 32 ∷ rest) (number_free n small) refl
    ∙ ap (λ (ws : List (List ℕ)). decimal n ∷ ws) (slice_split_at is_space (message_word m) 32 rest (message_free m fits) refl)

some_text : (w v r : List ℕ) → words_in ((w ++ 32 ∷ v) ++ r) ≡ words_of ((w ++ 32 ∷ v) ++ r)
some_text [] v r = refl
some_text (c ∷ w) v r = refl

-- ---- the turns

module _ (spelled : (n : ℕ) → n < 2 ^ 64 → number_of (decimal n) ≡ Some n) where
  node_back : (n : ℕ) → n < NODES → node_in (decimal n) ≡ Some n
  node_back n node = let small : n < 2 ^ 64 = omega (arith, node) in
      ap (option_and_then (below NODES)) (spelled n small) ∙ below_back NODES n node

  no_dash : (n : ℕ) → n < 2 ^ 64 → (b : Bool) → bytes_eq (decimal n) (codes "-") ≡ b
      → (if b then Some None else option_map (λ (k : ℕ). Some k) (number_of (decimal n))) ≡ Some (Some n)
  no_dash n small true is = absurd (let never : None ≡ Some n = sym (ap number_of ((bytes_eq-Decides (decimal n) (codes "-")).0 is))
      ∙ spelled n small in cc)
  no_dash n small false is = ap (option_map (λ (k : ℕ). Some k)) (spelled n small)

  message_back : (m : Option ℕ) → MessageFits m → message_in (message_word m) ≡ Some m
  message_back None fits = refl
  message_back (Some n) fits = no_dash n fits (bytes_eq (decimal n) (codes "-")) refl

  turn_back : (n : ℕ) (m : Option ℕ) (words : List (List ℕ)) (o : Ordered) → n < NODES → MessageFits m → turns_of words ≡ Some o
      → turns_of (decimal n ∷ message_word m ∷ words) ≡ Some (n ∷ o.0, m ∷ o.1)
  turn_back n m words o node fits is =
      ap (λ (k : Option ℕ). with_turn k (message_in (message_word m)) (turns_of words)) (node_back n node)
      ∙ ap₂ (λ (k : Option (Option ℕ)) (r : Option Ordered). with_turn (Some n) k r) (message_back m fits) is

  turns_back : (n : ℕ) (m : Option ℕ) (ns : List ℕ) (ms : List (Option ℕ)) → n < NODES → MessageFits m → TurnsFit ns ms
      → length ns ≡ length ms
      → turns_of (words_of (turn_text n m ++ turns_text true ns ms)) ≡ Some (n ∷ ns, m ∷ ms)
  turns_back n m [] [] node fits all even = ap turns_of (last_words n m node fits) ∙ turn_back n m [] ([], []) node fits refl
  turns_back n m [] (m2 ∷ ms) node fits all even = absurd (omega (arith, even))
  turns_back n m (n2 ∷ ns) [] node fits all even = absurd (omega (arith, even))
  turns_back n m (n2 ∷ ns) (m2 ∷ ms) node fits all even =
      let rest = turn_text n2 m2 ++ turns_text true ns ms in
      ap turns_of (front_words n m rest node fits)
      ∙ turn_back n m (words_of rest) (n2 ∷ ns, m2 ∷ ms) node fits (turns_back n2 m2 ns ms all.0 all.1 all.2 (omega (arith, even)))

  pub order_back : (ns : List ℕ) (ms : List (Option ℕ)) → TurnsFit ns ms → length ns ≡ length ms
      → turns_of (words_in (turns_text false ns ms)) ≡ Some (ns, ms)
  order_back [] [] all even = refl
  order_back [] (m ∷ ms) all even = absurd (omega (arith, even))
  order_back (n ∷ ns) [] all even = absurd (omega (arith, even))
  order_back (n ∷ ns) (m ∷ ms) all even = ap turns_of (some_text (decimal n) (message_word m) (turns_text true ns ms))
      ∙ turns_back n m ns ms all.0 all.1 all.2 (omega (arith, even))

-- ---- the whole

pub all_added : (hs : List (List Claim)) (text : List ℕ) (r : Result (Unit {0}) AllocError) (a b c d e : Written)
    → Adds a b (token.begin_object ∷ token.key (codes "histories") ∷ token.begin_array ∷ []) → Adds b c (histories_tokens hs)
    → Adds c d (token.end_array ∷ token.key (codes "nodes") ∷ token.number (decimal (length hs)) ∷ [])
    → OnOk r (Adds d e (token.key (codes "order") ∷ token.string text ∷ token.end_object ∷ []))
    → OnOk r (Adds a e (ordered_tokens hs text))
all_added hs text r a b c d e begun middle ended last =
    let end = token.end_array ∷ token.key (codes "nodes") ∷ token.number (decimal (length hs)) ∷ [] in
    let words = token.key (codes "order") ∷ token.string text ∷ token.end_object ∷ [] in
    whole_added hs (end ++ words) r a b c e begun middle (ok_then r c d e end words ended last)

module _ (hs : List (List Claim)) (o : Ordered) where
  ordered_tokens_of : tree.json_tokens (outline (ordered_data hs o)) ≡ ordered_tokens hs (order_text o)
  ordered_tokens_of =
      let rest = token.key (codes "nodes") ∷ token.number (decimal (length hs)) ∷ token.key (codes "order") ∷ token.string (order_text o) ∷
      token.end_object ∷ [] in
      ap (λ (ts : List Token). token.begin_object ∷ token.key (codes "histories") ∷ token.begin_array ∷ (ts ++ rest)) (histories_of hs)
      ∙ ap (λ (ts : List Token). token.begin_object ∷ token.key (codes "histories") ∷ token.begin_array ∷ ts)
      (append_assoc (histories_tokens hs) (token.end_array ∷ []) rest)

  ordered_printed : print (ordered_tokens hs (order_text o)) ≡ compact_text (ordered_data hs o)
  ordered_printed = ap print (sym ordered_tokens_of) ∙ print-outline (ordered_data hs o)

  ordered_read : length hs ≤ NODES → TraceFits hs → of_json (outline (ordered_data hs o)) ≡ Some (ordered_data hs o)
  ordered_read most fits = let nodes : length hs < 2 ^ 64 = omega (arith, most) in
      rw (histories_read hs fits, number_of-decimal (length hs) nodes) refl

  ordered_flat : tree.depth (outline (ordered_data hs o)) ≤ max_depth
  ordered_flat = let inside = histories_flat hs in omega (arith, inside)

  shape_back : 1 ≤ length hs → length hs ≤ NODES → shape_in (ordered_data hs o) ≡ Some (items_of (map history_data hs))
  shape_back some most =
      let more : 0 < length hs = omega (arith, some) in
      rw (lt-ltb 0 (length hs) more, le-leb (length hs) NODES most, eq-eqb _ (length hs) (as_many hs), are_lists hs) refl

  value_there : (text : List ℕ) → tokens text ≡ ordered_tokens hs (order_text o)
      → json.value max_depth (tokens text) ≡ Some (outline (ordered_data hs o), [])
  value_there text same =
      let j = outline (ordered_data hs o) in
      ap (json.value max_depth) (same ∙ sym ordered_tokens_of ∙ sym (append-nil (tree.json_tokens j)))
      ∙ value-json_tokens j max_depth [] ordered_flat

  module _ (a b : Written) (items : List ℕ) (none : a.before ≡ []) (empty : a.tokens ≡ [])
      (adds : Adds a b (ordered_tokens hs (order_text o))) (is : items ≡ b.before ++ print b.tokens) where
    all_tokens : b.tokens ≡ ordered_tokens hs (order_text o)
    all_tokens = rw (adds.tokens, empty) refl

    text_is : items ≡ print b.tokens
    text_is = rw (is, adds.before, none) refl

    pub ordered_text : items ≡ compact_text (ordered_data hs o)
    ordered_text = text_is ∙ ap print all_tokens ∙ ordered_printed

    module _ (again : tokens (print b.tokens) ≡ b.tokens) (utf8 : IsUtf8 (print b.tokens)) where
      pub trace_again : length hs ≤ NODES → TraceFits hs → IsWritable hs → trace_of items ≡ Ok hs
      trace_again most fits writable =
          let text = print b.tokens in
          ap trace_of text_is ∙ good_text text (ordered_data hs o) utf8
          (value_read text (outline (ordered_data hs o)) (ordered_data hs o) (value_there text (again ∙ all_tokens))
          (ordered_read most fits))
          ∙ ap in_shape (shape_back writable.some most) ∙ histories_back 0 hs fits writable.named

      pub order_again : turns_of (words_in (order_text o)) ≡ Some o → order_of items ≡ Some o
      order_again back =
          let text = print b.tokens in
          ap order_of text_is ∙ ap (λ (t : Bool). if t then order_in (json_of text) else None) (is_utf8-from_IsUtf8 text utf8)
          ∙ ap (λ (p : Option (json.Json × List Token)). order_in (option_and_then (λ q. json.if_last q.0 q.1) p))
          (value_there text (again ∙ all_tokens)) ∙ back
