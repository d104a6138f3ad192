use Rattle.std.proofs.Common.{◌≡◌, ℕ, List, drop, get_or, true, false, ◌==◌, option_map, sym, ap, ◌∙◌, arith, take_all, length-drop}
use Rattle.fast_float.specs.Text.{Parts, scan}
use Rattle.serde_json.specs.Data.{Data, Num, number}
use Rattle.serde_json.specs.Read.{number_of, number_from}
use Rattle.serde_json.proofs.Numbers.{number_of-decimal}
use Rattle.line_words.proofs.PublicLaws.{only}
use Rattle.trace_text.specs.Fields.{plain}
use Rattle.trace_text.proofs.values.number_field.Goals as goal

abbrev said : Num → Data
said n = plain (number n)

pub returns-in-Some : goal.returns-in-Some
returns-in-Some c =
    let read = only c.as_bytes-bytes.result.now c.in-Some.number (sym c.number.ensures ∙ c.in-Some.is) in
    sym (ap (λ (s : List ℕ). option_map said (number_of s)) (sym c.as_bytes-bytes.ensures.value ∙ read.0)
    ∙ ap (option_map said) (number_of-decimal c.in-Some.number read.1))

pub returns-then-has_minus : goal.returns-then-has_minus
unfolding number_of
returns-then-has_minus c =
    let s = c.as_bytes-bytes.result.now in
    let signed : (get_or s 0 0 == 45) ≡ true = sym c.if-has_minus.ensures.value in
    let parts : c.scan.result ≡ scan (drop 1 s) = c.scan.ensures.parts ∙ ap scan (take_all _ (drop 1 s) (omega (arith, length-drop 1 s))) in
    let read : number_from true (scan (drop 1 s)) ≡ number_of s = rw signed in
    c.negative_field.ensures ∙ ap (λ (p : Parts). option_map said (number_from true p)) parts
    ∙ ap (option_map said) (read ∙ ap number_of c.as_bytes-bytes.ensures.value)

pub returns-else-has_minus : goal.returns-else-has_minus
unfolding number_of
returns-else-has_minus c =
    let s = c.as_bytes-bytes.result.now in
    let unsigned : (get_or s 0 0 == 45) ≡ false = sym c.if-has_minus.ensures.value in
    let read : number_from false (scan s) ≡ number_of s = rw unsigned in
    c.whole_field.ensures ∙ ap (λ (p : Parts). option_map said (number_from false p)) c.scan-else-has_minus.ensures.parts
    ∙ ap (option_map said) (read ∙ ap number_of c.as_bytes-bytes.ensures.value)
