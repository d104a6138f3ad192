-- A text cut behind an object that a comma follows: the tokens of the first part are the first ones of the whole.
use Rattle.std.proofs.Common.{◌≡◌, ℕ, suc, ◌+◌, ◌-◌, Bool, true, false, cond, ◌&&◌, ◌||◌, ◌==◌, nat_lt, nat_eq, List, [], ◌∷◌, ◌++◌, length}
use Rattle.std.proofs.Common.{drop, Option, Some, None, is_some, option_map, option_and_then, inl, inr, ◌⊎◌, refl, sym, ap, ◌∙◌}
use Rattle.std.proofs.Common.{subst, arith, length-append}
use Rattle.std.proofs.lemmas.Bool.{true≢false, false≢true, and_left}
use Rattle.std.proofs.lemmas.List.{take-append-le}
use Rattle.std.specs.Prelude.{⊤}
use Rattle.std.specs.List.{prefix_len, starts_with}
use Rattle.std.specs.Char.{is_ascii_digit}
use Rattle.json.specs.Ascii as ascii
use Rattle.json.specs.Token.{Token, begin_object, end_object, begin_array, end_array, key, string, number, boolean, null, bad}
use Rattle.json.specs.Text.{content, plain, prepend}
use Rattle.json.specs.Word.{is_operator, is_space, ends_word, after_digits, after_minus, after_sign, after_whole, after_fraction}
use Rattle.json.specs.Word.{after_exponent, after_number, number_before, literal, word}
use Rattle.json.specs.Lex.{Lexeme, token, comma, colon, Class, quote, backslash, operator, space, other, class, string_token, Mode, between}
use Rattle.json.specs.Lex.{in_word, in_string, in_escape, lex, lex_byte, Place, fresh, after_value, after_comma, after_key, begins_colon}
use Rattle.json.specs.Lex.{may_begin, may_close, if_allowed, place_token, punctuate, tokens}
use Rattle.json.specs.Align.{is_good}
use Rattle.trace_text.specs.Pieces.{NoBackslash, joined}

-- ---- what follows a brace plays no part in a word before it

module _ (r : List ℕ) where
  abbrev onto : Option (List ℕ) → Option (List ℕ)
  onto o = option_map (λ (t : List ℕ). t ++ 125 ∷ r) o

  run_same : (t : List ℕ) → prefix_len is_ascii_digit (t ++ 125 ∷ r) ≡ prefix_len is_ascii_digit t
  run_same [] = refl
  run_same (x ∷ xs) = ap (λ n. cond (is_ascii_digit x) (1 + n) 0) (run_same xs)

  dropped_by : (b : Bool) (x n : ℕ) (xs : List ℕ) → drop n (xs ++ 125 ∷ r) ≡ drop n xs ++ 125 ∷ r
      → drop (cond b (1 + n) 0) (x ∷ (xs ++ 125 ∷ r)) ≡ drop (cond b (1 + n) 0) (x ∷ xs) ++ 125 ∷ r
  dropped_by false x n xs e = refl
  dropped_by true x n xs e = let one : 1 + n ≡ suc n = omega arith in rw one e

  run_dropped : (t : List ℕ) → drop (prefix_len is_ascii_digit t) (t ++ 125 ∷ r) ≡ drop (prefix_len is_ascii_digit t) t ++ 125 ∷ r
  run_dropped [] = refl
  run_dropped (x ∷ xs) = dropped_by (is_ascii_digit x) x (prefix_len is_ascii_digit xs) xs (run_dropped xs)

  cond_same : (b : Bool) (u v : List ℕ) → cond b (u ++ 125 ∷ r) (v ++ 125 ∷ r) ≡ cond b u v ++ 125 ∷ r
  cond_same true u v = refl
  cond_same false u v = refl

  cond_onto : (b : Bool) (p q o s : Option (List ℕ)) → p ≡ onto o → q ≡ onto s → cond b p q ≡ onto (cond b o s)
  cond_onto true p q o s e f = e
  cond_onto false p q o s e f = f

  digits_same : (t : List ℕ) → after_digits (t ++ 125 ∷ r) ≡ onto (after_digits t)
  digits_same t = rw (run_same t, run_dropped t) (cond_onto (prefix_len is_ascii_digit t == 0) _ _ None _ refl refl)

  minus_same : (t : List ℕ) → after_minus (t ++ 125 ∷ r) ≡ after_minus t ++ 125 ∷ r
  minus_same [] = refl
  minus_same (x ∷ xs) = cond_same (x == 45) xs (x ∷ xs)

  sign_same : (t : List ℕ) → after_sign (t ++ 125 ∷ r) ≡ after_sign t ++ 125 ∷ r
  sign_same [] = refl
  sign_same (x ∷ xs) = cond_same ((x == 45) || (x == 43)) xs (x ∷ xs)

  whole_same : (t : List ℕ) → after_whole (t ++ 125 ∷ r) ≡ onto (after_whole t)
  whole_same [] = refl
  whole_same (x ∷ xs) = cond_onto (x == 48) _ _ _ _ refl (digits_same (x ∷ xs))

  fraction_same : (t : List ℕ) → after_fraction (t ++ 125 ∷ r) ≡ onto (after_fraction t)
  fraction_same [] = refl
  fraction_same (x ∷ xs) = cond_onto (x == 46) _ _ _ _ (digits_same xs) refl

  exponent_same : (t : List ℕ) → after_exponent (t ++ 125 ∷ r) ≡ onto (after_exponent t)
  exponent_same [] = refl
  exponent_same (x ∷ xs) = cond_onto ((x == 101) || (x == 69)) _ _ _ _ (ap after_digits (sign_same xs) ∙ digits_same (after_sign xs)) refl

  then_same : (f : List ℕ → Option (List ℕ)) → ((t : List ℕ) → f (t ++ 125 ∷ r) ≡ onto (f t)) → (o p : Option (List ℕ)) → p ≡ onto o
      → option_and_then f p ≡ onto (option_and_then f o)
  then_same f law None p e = ap (option_and_then f) e
  then_same f law (Some t) p e = ap (option_and_then f) e ∙ law t

  number_same : (t : List ℕ) → after_number (t ++ 125 ∷ r) ≡ onto (after_number t)
  unfolding after_number
  number_same t =
      then_same after_exponent exponent_same _ _ (then_same after_fraction fraction_same _ _ (ap after_whole (minus_same t)
      ∙ whole_same (after_minus t)))

  end_same : (t : List ℕ) → ends_word (t ++ 125 ∷ r) ≡ ends_word t
  end_same [] = refl
  end_same (x ∷ xs) = refl

  before_same : (t : List ℕ) (o : Option (List ℕ)) → number_before (t ++ 125 ∷ r) (onto o) ≡ number_before t o
  before_same t None = refl
  before_same t (Some u) =
      let size : length (t ++ 125 ∷ r) - length (u ++ 125 ∷ r) ≡ length t - length u =
      omega (arith, length-append t (125 ∷ r), length-append u (125 ∷ r)) in
      rw (end_same u, size, take-append-le (length t - length u) t (125 ∷ r) (omega arith)) refl

  abbrev NoBrace : List ℕ → Type 0
  NoBrace [] = ⊤
  NoBrace (n ∷ ns) = (nat_eq n 125 ≡ false) × NoBrace ns

  both_same : (a b c d e : Bool) → (b && c) ≡ (d && e) → ((a && b) && c) ≡ ((a && d) && e)
  both_same true b c d e h = h
  both_same false b c d e h = refl

  name_same : (name : List ℕ) → NoBrace name → (t : List ℕ)
      → (starts_with nat_eq (t ++ 125 ∷ r) name && ends_word (drop (length name) (t ++ 125 ∷ r)))
      ≡ (starts_with nat_eq t name && ends_word (drop (length name) t))
  name_same [] h t = end_same t
  name_same (n ∷ ns) h [] = and_left _ _ (and_left (nat_eq n 125) _ h.0)
  name_same (n ∷ ns) h (x ∷ xs) = both_same (nat_eq n x) _ _ _ _ (name_same ns h.1 xs)

  literal_same : (name : List ℕ) (w : Token) → NoBrace name → (t : List ℕ) → literal name w (t ++ 125 ∷ r) ≡ literal name w t
  literal_same name w h t = ap (λ (b : Bool). cond b w bad) (name_same name h t)

  word_same : (x : ℕ) (xs : List ℕ) → word (x ∷ (xs ++ 125 ∷ r)) ≡ word (x ∷ xs)
  unfolding word
  word_same x xs =
      let t = x ∷ xs in
      rw (
        literal_same ascii.true_text (boolean true) (refl, (refl, (refl, (refl, tt)))) t,
        literal_same ascii.false_text (boolean false) (refl, (refl, (refl, (refl, (refl, tt))))) t,
        literal_same ascii.null_text null (refl, (refl, (refl, (refl, tt)))) t,
        number_same t,
        before_same t (after_number t),
      ) refl

-- ---- lexemes: those of the part, and then the comma and what follows it; unless the part has a bad one

abbrev Agree : List Lexeme → List Lexeme → List Lexeme → Type 0
Agree more [] all = ⊥
Agree more (l ∷ ls) all =
    ((l ≡ token bad) × (begins_colon all ≡ false))
    ⊎ (((l ∷ ls ≡ token end_object ∷ []) × (all ≡ token end_object ∷ comma ∷ more))
    ⊎ ((rest : List Lexeme) × (all ≡ l ∷ rest) × Agree more ls rest))

module _ (behind : List ℕ) where
  abbrev Closed : List ℕ → Type 0
  Closed xs = is_some (content plain (xs ++ 125 ∷ [])) ≡ true

  abbrev Ready : Mode → List ℕ → Type 0
  Ready between xs = ⊤
  Ready in_word xs = ⊤
  Ready in_string xs = Closed xs
  Ready in_escape xs = ⊥

  never_closed : Closed [] → ⊥
  unfolding content
  never_closed e = false≢true e

  some_of : (x : ℕ) (o : Option (List ℕ)) → is_some (prepend (x ∷ []) o) ≡ true → is_some o ≡ true
  some_of x None e = e
  some_of x (Some s) e = refl

  closes_by : (x : ℕ) (q b l : Bool) (esc p : Option (List ℕ)) → q ≡ false → b ≡ false
      → is_some (cond q (Some []) (cond b esc (cond l None (prepend (x ∷ []) p)))) ≡ true → is_some p ≡ true
  closes_by x true b l esc p e f h = absurd (true≢false e)
  closes_by x false true l esc p e f h = absurd (true≢false f)
  closes_by x false false true esc p e f h = absurd (false≢true h)
  closes_by x false false false esc p e f h = some_of x p h

  still_closed : (x : ℕ) (xs : List ℕ) → (x == 34) ≡ false → (x == 92) ≡ false → Closed (x ∷ xs) → Closed xs
  unfolding content
  still_closed x xs e f h = closes_by x (x == 34) (x == 92) (nat_lt x 32) _ _ e f h

  content_by : (x : ℕ) (q b l : Bool) (esc more p all : Option (List ℕ)) → b ≡ false
      → is_some (cond q (Some []) (cond b esc (cond l None (prepend (x ∷ []) p)))) ≡ true → (is_some p ≡ true → all ≡ p)
      → cond q (Some []) (cond b more (cond l None (prepend (x ∷ []) all))) ≡ cond q (Some [])
      (cond b esc (cond l None (prepend (x ∷ []) p)))
  content_by x true b l esc more p all e h same = refl
  content_by x false true l esc more p all e h same = absurd (true≢false e)
  content_by x false false true esc more p all e h same = refl
  content_by x false false false esc more p all e h same = ap (prepend (x ∷ [])) (same (some_of x p h))

  content_same : (xs : List ℕ) → NoBackslash xs → Closed xs → content plain (xs ++ 125 ∷ 44 ∷ behind) ≡ content plain (xs ++ 125 ∷ [])
  unfolding content
  content_same [] h e = absurd (never_closed e)
  content_same (x ∷ xs) h e = content_by x (x == 34) (x == 92) (nat_lt x 32) _ _ _ _ h.0 e (content_same xs h.1)

  abbrev Agrees : Mode → List ℕ → Type 0
  Agrees m xs = Agree (lex between behind) (lex m (xs ++ 125 ∷ [])) (lex m (xs ++ 125 ∷ 44 ∷ behind))

  -- a quote: what it begins, and the rest of it
  quoted : (o all : Option (List ℕ)) (ls rest : List Lexeme) → (is_some o ≡ true → (all ≡ o) × Agree (lex between behind) ls rest)
      → Agree (lex between behind) (token (string_token o) ∷ ls) (token (string_token all) ∷ rest)
  quoted None all ls rest h = inl (refl, refl)
  quoted (Some s) all ls rest h = inr (inr (rest, ap (λ (o : Option (List ℕ)). token (string_token o) ∷ rest) (h refl).0, (h refl).1))

  outside : (c : Class) (x : ℕ) (xs : List ℕ) → NoBackslash xs → ((m : Mode) → Ready m xs → Agrees m xs)
      → Agree (lex between behind) (lex_byte between c x (xs ++ 125 ∷ []) (λ m. lex m (xs ++ 125 ∷ [])))
      (lex_byte between c x (xs ++ 125 ∷ 44 ∷ behind) (λ m. lex m (xs ++ 125 ∷ 44 ∷ behind)))
  outside quote x xs h again = quoted (content plain (xs ++ 125 ∷ [])) _ _ _ (λ e. (content_same xs h e, again in_string e))
  outside backslash x xs h again = inl (refl, refl)
  outside operator x xs h again = inr (inr (_, refl, again between tt))
  outside space x xs h again = again between tt
  outside other x xs h again =
      let same : word (x ∷ (xs ++ 125 ∷ 44 ∷ behind)) ≡ word (x ∷ (xs ++ 125 ∷ [])) = word_same (44 ∷ behind) x xs
      ∙ sym (word_same [] x xs) in
      inr (inr (_, ap (λ (w : Token). token w ∷ lex in_word (xs ++ 125 ∷ 44 ∷ behind)) same, again in_word tt))

  within_word : (c : Class) (x : ℕ) (xs : List ℕ) → ((m : Mode) → Ready m xs → Agrees m xs)
      → Agree (lex between behind) (lex_byte in_word c x (xs ++ 125 ∷ []) (λ m. lex m (xs ++ 125 ∷ [])))
      (lex_byte in_word c x (xs ++ 125 ∷ 44 ∷ behind) (λ m. lex m (xs ++ 125 ∷ 44 ∷ behind)))
  within_word operator x xs again = inr (inr (_, refl, again between tt))
  within_word space x xs again = again between tt
  within_word _ x xs again = again in_word tt

  within_string : (q b o s : Bool) (x : ℕ) (xs : List ℕ) → b ≡ false → (q ≡ false → Closed xs) → ((m : Mode) → Ready m xs → Agrees m xs)
      → Agree (lex between behind) (lex_byte in_string (cond q quote (cond b backslash (cond o operator (cond s space other)))) x (xs
      ++ 125 ∷ []) (λ m. lex m (xs ++ 125 ∷ [])))
      (lex_byte in_string (cond q quote (cond b backslash (cond o operator (cond s space other)))) x (xs
      ++ 125 ∷ 44 ∷ behind) (λ m. lex m (xs ++ 125 ∷ 44 ∷ behind)))
  within_string true b o s x xs e h again = again between tt
  within_string false true o s x xs e h again = absurd (true≢false e)
  within_string false false true s x xs e h again = again in_string (h refl)
  within_string false false false true x xs e h again = again in_string (h refl)
  within_string false false false false x xs e h again = again in_string (h refl)

  agrees : (xs : List ℕ) → NoBackslash xs → (m : Mode) → Ready m xs → Agrees m xs
  unfolding lex
  agrees [] h between ready = inr (inl (refl, refl))
  agrees [] h in_word ready = inr (inl (refl, refl))
  agrees [] h in_string ready = absurd (never_closed ready)
  agrees [] h in_escape ready = absurd ready
  agrees (x ∷ xs) h between ready = outside (class x) x xs h.1 (agrees xs h.1)
  agrees (x ∷ xs) h in_word ready = within_word (class x) x xs (agrees xs h.1)
  agrees (x ∷ xs) h in_string ready = within_string (x == 34) (x == 92) (is_operator x)
      (is_space x) x xs h.0 (λ e. still_closed x xs e h.0 ready) (agrees xs h.1)
  agrees (x ∷ xs) h in_escape ready = absurd ready

-- ---- tokens

-- the text's tokens are those of the part and then those behind it; or nothing counts behind the part
abbrev pub Follows : List Token → List Token → List Token → Type 0
Follows part all more = (all ≡ joined part more) ⊎ ((later : List Token) → joined part later ≡ joined part [])

colon_same : (more ls all : List Lexeme) → Agree more ls all → begins_colon ls ≡ begins_colon all
colon_same more [] all h = absurd h
colon_same more (l ∷ ls) all (inl h) = ap (λ (k : Lexeme). begins_colon (k ∷ ls)) h.0 ∙ sym h.1
colon_same more (l ∷ ls) all (inr (inl h)) = ap begins_colon h.0 ∙ sym (ap begins_colon h.1)
colon_same more (l ∷ ls) all (inr (inr h)) = first l ∙ sym (ap begins_colon h.1)
  where
    first : (k : Lexeme) → begins_colon (k ∷ ls) ≡ begins_colon (k ∷ h.0)
    first (token t) = refl
    first comma = refl
    first colon = refl

module _ (rest : List Token) where
  one_more : (t : Token) (part all : List Token) → is_good t ≡ true → Follows part all rest → Follows (t ∷ part) (t ∷ all) rest
  one_more t part all good (inl e) = inl (ap (λ (ts : List Token). t ∷ ts) (e ∙ ap (λ (b : Bool). cond b (joined part rest) []) (sym good)))
  one_more t part all good (inr h) = inr (λ later. ap (λ (ts : List Token). t ∷ cond (is_good t) ts []) (h later))

  allowed : (b : Bool) (t : Token) (n : Place) (k l : Place → List Token) → is_good t ≡ true → Follows (k n) (l n) rest
      → Follows (if_allowed b t k n) (if_allowed b t l n) rest
  allowed true t n k l good h = one_more t (k n) (l n) good h
  allowed false t n k l good h = inr (λ later. refl)

  placed : (p : Place) (t : Token) (b : Bool) (k l : Place → List Token) → ((n : Place) → Follows (k n) (l n) rest)
      → Follows (place_token p t b k) (place_token p t b l) rest
  placed p begin_object b k l h = allowed (may_begin p) begin_object fresh k l refl (h fresh)
  placed p end_object b k l h = allowed (may_close p) end_object after_value k l refl (h after_value)
  placed p begin_array b k l h = allowed (may_begin p) begin_array fresh k l refl (h fresh)
  placed p end_array b k l h = allowed (may_close p) end_array after_value k l refl (h after_value)
  placed p (key s) b k l h = inr (λ later. refl)
  placed p (string s) true k l h = allowed (may_begin p) (key s) after_key k l refl (h after_key)
  placed p (string s) false k l h = allowed (may_begin p) (string s) after_value k l refl (h after_value)
  placed p (number s) b k l h = allowed (may_begin p) (number s) after_value k l refl (h after_value)
  placed p (boolean v) b k l h = allowed (may_begin p) (boolean v) after_value k l refl (h after_value)
  placed p null b k l h = allowed (may_begin p) null after_value k l refl (h after_value)
  placed p bad b k l h = inr (λ later. refl)

last_one : (more : List Lexeme) (p : Place) → Follows (punctuate p (token end_object ∷ [])) (punctuate p (token end_object ∷ comma ∷ more))
    (punctuate after_comma more)
unfolding punctuate
last_one more fresh = inl refl
last_one more after_value = inl refl
last_one more _ = inr (λ later. refl)

bad_one : (ls : List Lexeme) (p : Place) (later : List Token)
    → joined (punctuate p (token bad ∷ ls)) later ≡ joined (punctuate p (token bad ∷ ls)) []
unfolding punctuate
bad_one ls fresh later = refl
bad_one ls _ later = refl

follows : (more ls all : List Lexeme) (p : Place) → Agree more ls all
    → Follows (punctuate p ls) (punctuate p all) (punctuate after_comma more)
unfolding punctuate
follows more [] all p h = absurd h
follows more (l ∷ ls) all p (inl h) = inr (λ later. rw h.0 (bad_one ls p later))
follows more (l ∷ ls) all p (inr (inl h)) =
    rw h.1 (subst (λ (x : List Lexeme). Follows (punctuate p x) (punctuate p (token end_object ∷ comma ∷ more))
    (punctuate after_comma more))
    (sym h.0) (last_one more p))
follows more (l ∷ ls) all p (inr (inr h)) =
    rw h.1 (by l p (λ n. follows more ls h.0 n h.2))
  where
    by : (k : Lexeme) (n : Place) → ((m : Place) → Follows (punctuate m ls) (punctuate m h.0) (punctuate after_comma more))
        → Follows (punctuate n (k ∷ ls)) (punctuate n (k ∷ h.0)) (punctuate after_comma more)
    by (token t) n again =
        subst (λ (b : Bool). Follows (place_token n t (begins_colon ls) (λ m. punctuate m ls)) (place_token n t b (λ m. punctuate m h.0))
        (punctuate after_comma more)) (colon_same more ls h.0 h.2)
        (placed (punctuate after_comma more) n t (begins_colon ls) (λ m. punctuate m ls) (λ m. punctuate m h.0) again)
    by comma after_value again = again after_comma
    by colon after_key again = again fresh
    by _ _ again = inr (λ later. refl)

pub cut_tokens : (front behind : List ℕ) → NoBackslash front
    → Follows (tokens (front ++ 125 ∷ [])) (tokens (front ++ 125 ∷ 44 ∷ 123 ∷ behind)) (tokens (123 ∷ behind))
unfolding lex punctuate
cut_tokens front behind h = follows (lex between (123 ∷ behind)) _ _ fresh (agrees (123 ∷ behind) front h between tt)
