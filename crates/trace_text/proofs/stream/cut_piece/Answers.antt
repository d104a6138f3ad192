use Rattle.std.proofs.Common.{◌∷◌, ◌-◌, [], List, ℕ, length, take, drop, subst, arith}
use Rattle.memchr.specs.Find.{OccursAt}
use Rattle.trace_text.specs.Pieces.{NoBackslash}
use Rattle.trace_text.proofs.Cuts.{found_cut, none_found}
use Rattle.trace_text.proofs.stream.cut_piece.Goals as goal

pub returns : goal.returns
returns c =
    let i = c.in_ok-end.field-0 in
    let bytes = c.as_bytes.result.now in
    let occurs : OccursAt (take (length bytes - 65536) (drop 65536 bytes)) (125 ∷ 44 ∷ 123 ∷ []) i = grind arith in
    let found = subst (λ (text : List ℕ). OccursAt (take (length text - 65536) (drop 65536 text)) (125 ∷ 44 ∷ 123 ∷ []) i)
    c.as_bytes.ensures.value occurs in
    let plain = none_found c.as_bytes-2.result.now c.memchr.result c.memchr.ensures (grind arith) in
    found_cut c.args.text.now _ c.in_ok-piece.rest.now _ 65536 i found (grind arith) (subst NoBackslash c.as_bytes-2.ensures.value plain)
    (grind arith) (grind arith)
