-- A value's body stands for that value.
use Rattle.std.proofs.Common.{◌≡◌, ◌<◌, ◌^◌, ℕ, ◌++◌, replicate, Some, None, ◌∙◌, ap, refl, if◌then◌else◌}
use Rattle.std.specs.Int.{from_be_bytes, to_be_bytes, w64}
use Rattle.std.proofs.lemmas.Nat.{from_be_bytes-to_be_bytes_8}
use Rattle.std.proofs.lemmas.List.{drop_at}
use Rattle.disk_layout.specs.Blank.{is_blank}
use Rattle.disk_layout.proofs.PublicLaws.{blank}
use Rattle.safe_cell.specs.Body.{body_value, body_of}

pub body_value-body_of : (value : ℕ) → value < 2 ^ 64 → body_value (body_of value) ≡ Some value
unfolding body_value body_of
body_value-body_of value fits =
    let all = to_be_bytes w64 value ++ replicate 504 0 in
    ap (λ b. if b then Some (from_be_bytes w64 all) else None)
    (ap is_blank (drop_at (to_be_bytes w64 value) (replicate 504 0) 8 refl) ∙ blank 504)
    ∙ ap (λ v. Some v) (from_be_bytes-to_be_bytes_8 value fits)
