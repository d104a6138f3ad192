-- A line that delivers a message.
use Rattle.std.proofs.Common.{◌≡◌, ℕ, suc, ◌-◌, ◌==◌, ◌&&◌, ◌<◌, ◌≤◌, Bool, true, false, List, [], ◌∷◌, length, take, drop, get_or, nat_lt}
use Rattle.std.proofs.Common.{if◌then◌else◌, Option, Some, None, IfSome, refl, sym, ap, ◌∙◌, subst, option_map, arith, drop-cons}
use Rattle.std.specs.List.{onto_first}
use Rattle.std.proofs.lemmas.List.{take_rest}
use Rattle.std.proofs.lemmas.List.Splits.{slice_split-cons_no}
use Rattle.std.proofs.lemmas.Bool.{eqb-true}
use Rattle.line_words.specs.Words.{is_space, number_of, then_digits, value_from, with_digit, words_of}
use Rattle.schedule.specs.declared.act.Act.TheVariants.{Deliver}
use Rattle.schedule.specs.declared.verb.Verb.TheVariants as verb
use Rattle.schedule.specs.Acts.{act_of, act_with}

-- a space is no digit
not_space : (n c m : ℕ) → with_digit n c ≡ Some m → is_space c ≡ false
not_space n c m read = tested (is_space c) refl
  where
    tested : (b : Bool) → is_space c ≡ b → is_space c ≡ false
    tested false is = is
    tested true is =
        let space : with_digit n 32 ≡ Some m = subst (λ (d : ℕ). with_digit n d ≡ Some m) (eqb-true c 32 is) read in
        absurd cc

-- digits that were read are one word
digits_word : (digits : List ℕ) (n m : ℕ) → value_from digits n ≡ Some m → words_of digits ≡ digits ∷ []
digits_word [] n m read = refl
digits_word (c ∷ digits) n m read = step (with_digit n c) refl read (λ k later. digits_word digits k m later)
  where
    step : (o : Option ℕ) → with_digit n c ≡ o → then_digits (value_from digits) o ≡ Some m
        → ((k : ℕ) → value_from digits k ≡ Some m → words_of digits ≡ digits ∷ [])
        → words_of (c ∷ digits) ≡ (c ∷ digits) ∷ []
    step None one read later = absurd cc
    step (Some k) one read later = slice_split-cons_no is_space c digits (not_space n c k one) ∙ ap (onto_first c) (later k read)

number_word : (word : List ℕ) (n : ℕ) → number_of word ≡ Some n → words_of word ≡ word ∷ []
number_word [] n read = absurd cc
number_word (c ∷ rest) n read = tested (c == 48 && nat_lt 0 (length rest)) read
  where
    tested : (b : Bool) → (if b then None else value_from (c ∷ rest) 0) ≡ Some n → words_of (c ∷ rest) ≡ (c ∷ rest) ∷ []
    tested true read = absurd cc
    tested false read = digits_word (c ∷ rest) 0 n read

-- a number behind the verb is the message that is delivered
number_delivers : (place : List ℕ) (o : Option ℕ) → number_of place ≡ o
    → IfSome o (λ n. act_with verb.Deliver (words_of place) ≡ Some (Deliver n))
number_delivers place None read = tt
number_delivers place (Some n) read = ap (act_with verb.Deliver) (number_word place n read) ∙ ap (option_map Deliver) read

-- one byte of a text more
front : (text rest : List ℕ) (i c : ℕ) → i < length text → get_or text i 0 ≡ c → drop (suc i) text ≡ rest → drop i text ≡ c ∷ rest
front text rest i c within here behind = drop-cons text i 0 within ∙ ap (λ d. d ∷ drop (suc i) text) here ∙ ap (λ l. c ∷ l) behind

-- a line that begins with the verb and a space
pub delivers : (line : List ℕ) (o : Option ℕ) → 8 ≤ length line → get_or line 0 0 ≡ 100 → get_or line 1 0 ≡ 101 → get_or line 2 0 ≡ 108
    → get_or line 3 0 ≡ 105
    → get_or line 4 0 ≡ 118 → get_or line 5 0 ≡ 101 → get_or line 6 0 ≡ 114 → get_or line 7 0 ≡ 32
    → o ≡ number_of (take (length line - 8) (drop 8 line))
    → IfSome o (λ n. act_of (words_of line) ≡ Some (Deliver n))
delivers line o room d e l i v e2 r space read =
    let whole : line ≡ 100 ∷ 101 ∷ 108 ∷ 105 ∷ 118 ∷ 101 ∷ 114 ∷ 32 ∷ drop 8 line =
    front line _ 0 100 (omega arith) d (front line _ 1 101 (omega arith) e
    (front line _ 2 108 (omega arith) l (front line _ 3 105 (omega arith) i
    (front line _ 4 118 (omega arith) v (front line _ 5 101 (omega arith) e2
    (front line _ 6 114 (omega arith) r (front line _ 7 32 (omega arith) space refl))))))) in
    let same : number_of (drop 8 line) ≡ o = sym (read ∙ ap number_of (take_rest line 8)) in
    subst (λ (t : List ℕ). IfSome o (λ n. act_of (words_of t) ≡ Some (Deliver n))) (sym whole) (number_delivers (drop 8 line) o same)
