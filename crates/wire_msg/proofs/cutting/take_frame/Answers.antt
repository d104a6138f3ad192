use Rattle.std.proofs.Common.{◌≡◌, ℕ, List, ◌++◌, ◌∷◌, [], length, slice_set, ap, ◌∙◌, arith}
use Rattle.std.proofs.Math.Seq.{set-append_seam}
use Rattle.wire_msg.specs.Envelope.{Envelope}
use Rattle.wire_msg.proofs.cutting.take_frame.Goals as goal

-- the message takes the place of the last one
put_last : (before with_blank : List Envelope) (blank m : Envelope) (place : ℕ) → with_blank ≡ before ++ blank ∷ [] → place ≡ length before
    → slice_set with_blank place m ≡ before ++ m ∷ []
put_last before with_blank blank m place e last =
    ap (λ (ms : List Envelope). slice_set ms place m) e ∙ (ap (λ i. slice_set (before ++ blank ∷ []) i m) last
    ∙ set-append_seam before blank [] m)

pub returns-clause-ok : goal.returns-clause-ok
returns-clause-ok c =
    let m = c.read_frame.new.message in (
      m,
      c.read_frame.ensures.read (cc),
      put_last c.args.out.now.items c.extend_from_slice.new.self.items c.args.blank.now m c.len-place.result
          (c.in-Ok.ensures.items ∙ ap (λ (ms : List Envelope). c.args.out.now.items ++ ms) c.from_ref.ensures.value)
          (omega (arith, c.len-place.ensures)),
    )
