use Rattle.std.proofs.Common.{◌≡◌, ◌<◌, ℕ, List, [], ◌∷◌, length, slice_index_or, refl, arith}
use Rattle.std.proofs.lemmas.List.{ext_get_or}
use Rattle.wire_msg.specs.Envelope.{Envelope}
use Rattle.trace_check.proofs.node_model.same.Goals as goal

same_lists : (xs ys : List Envelope) → length xs ≡ length ys
    → ((k : ℕ) (d : Envelope) → k < length xs → slice_index_or xs k d ≡ slice_index_or ys k d) → xs ≡ ys
same_lists [] [] len each = refl
same_lists [] (y ∷ ys) len each = absurd (omega (arith, len))
same_lists (x ∷ xs) ys len each = ext_get_or x (x ∷ xs) ys len (λ k within. each k x within)

pub returns : goal.returns
returns c =
    let len : length c.args.made.now ≡ length c.args.sent.now = let made = c.len.ensures in let test = c.if-made-len.false in
    omega (arith, made, test) in (
      λ _. same_lists c.args.made.now c.args.sent.now len (λ k d within.
          c.loop-place.invariant k d (omega (arith, within, c.loop-place-test.false))),
      λ _. refl,
    )
