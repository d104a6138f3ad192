use Rattle.std.proofs.Common.{◌≡◌, ℕ, ◌<◌, ◌≤◌, false, nat_lt, map, get_or, Option, Some, None, is_some, refl, ap, sym, ◌∙◌, arith}
use Rattle.std.specs.List.{range_with_len}
use Rattle.std.proofs.lemmas.Bool.{ltb-true}
use Rattle.std.proofs.lemmas.List.FromFn.{get_or-map-range_with_len}
use Rattle.hex.specs.Hex.{hex_digit_value, is_hex_digit}
use Rattle.line_words.specs.declared.digits.TheConstants.{VALUES}
use Rattle.line_words.proofs.digits.digit.Goals as goal

abbrev worth : Option ℕ → ℕ
worth (Some value) = value
worth None = 255

-- the table has what each byte is worth, and that is below 16 just where the byte is a digit
table_is : VALUES ≡ map (λ b. worth (hex_digit_value b)) (range_with_len 0 256)
table_is = refl

small_is : map (λ b. nat_lt (worth (hex_digit_value b)) 16) (range_with_len 0 256) ≡ map is_hex_digit (range_with_len 0 256)
small_is = refl

read : (b : ℕ) → b < 256 → get_or VALUES b 0 ≡ worth (hex_digit_value b)
read b h = ap (λ t. get_or t b 0) table_is ∙ get_or-map-range_with_len (λ b. worth (hex_digit_value b)) 0 256 b b 0 h (omega arith)

small : (b : ℕ) → b < 256 → nat_lt (worth (hex_digit_value b)) 16 ≡ is_hex_digit b
small b h =
    sym (get_or-map-range_with_len (λ b. nat_lt (worth (hex_digit_value b)) 16) 0 256 b b false h (omega arith))
    ∙ ap (λ t. get_or t b false) small_is ∙ get_or-map-range_with_len is_hex_digit 0 256 b b false h (omega arith)

some_worth : (o : Option ℕ) (v : ℕ) → v ≡ worth o → v < 16 → Some v ≡ o
some_worth (Some w) v is low = ap Some is
some_worth None v is low = let much : v ≡ 255 = is in absurd (omega (arith, much, low))

none_worth : (o : Option ℕ) (v : ℕ) → v ≡ worth o → nat_lt (worth o) 16 ≡ is_some o → 16 ≤ v → None ≡ o
none_worth (Some w) v is same high = let few : v ≡ w = is in absurd (omega (arith, ltb-true w 16 same, few, high))
none_worth None v is same high = refl

pub returns-then-value-lt16-clause-value : goal.returns-then-value-lt16-clause-value
returns-then-value-lt16-clause-value c =
    let fits : c.args.byte < 256 = omega (arith, c.ranges.byte.fits) in
    some_worth (hex_digit_value c.args.byte) _ (ap (λ n. get_or VALUES n 0) c.from.ensures ∙ read c.args.byte fits) c.if-value-lt16.true

pub returns-else-value-lt16-clause-value : goal.returns-else-value-lt16-clause-value
returns-else-value-lt16-clause-value c =
    let fits : c.args.byte < 256 = omega (arith, c.ranges.byte.fits) in
    none_worth (hex_digit_value c.args.byte) _ (ap (λ n. get_or VALUES n 0) c.from.ensures ∙ read c.args.byte fits)
    (small c.args.byte fits) c.if-value-lt16.false
