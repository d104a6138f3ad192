use Rattle.std.proofs.Common.{◌≡◌, ℕ, zero, suc, ◌+◌, List, [], ◌∷◌, ◌++◌, take, slice_get, length, ◌<◌, Some, refl, sym, ap, ◌∙◌, subst}
use Rattle.std.proofs.Common.{arith}
use Rattle.std.proofs.lemmas.Option.{same_Some}
use Rattle.wire_msg.specs.Envelope.{Envelope}
use Rattle.trace_check.specs.Searches.{PostsAll}
use Rattle.trace_check.proofs.Searches.{posts_more}
use Rattle.trace_check.proofs.search.post_all.Goals as goal

take_more : (xs : List Envelope) (i : ℕ) (x : Envelope) → slice_get xs i ≡ Some x → take (suc i) xs ≡ take i xs ++ x ∷ []
take_more [] i x is = absurd cc
take_more (y ∷ ys) zero x is = ap (λ (e : Envelope). e ∷ []) (same_Some y x is)
take_more (y ∷ ys) (suc i) x is = ap (λ (es : List Envelope). y ∷ es) (take_more ys i x is)

there : (xs : List Envelope) (i : ℕ) → i < length xs → (m : Envelope) × (slice_get xs i ≡ Some m)
there [] i within = absurd (omega (arith, within))
there (x ∷ xs) zero within = (x, refl)
there (x ∷ xs) (suc i) within = there xs i (omega (arith, within))

pub loop-place-preserved : goal.loop-place-preserved
loop-place-preserved c =
    let sent = c.args.sent.now in
    let i = c.loop-place.place in
    let at_i = there sent i (let test = c.loop-place-test.true in let len = c.len-place-end.ensures in omega (arith, test, len)) in
    let m = at_i.0 in
    let next : i + 1 ≡ suc i = omega arith in
    let here : slice_get sent i ≡ Some m = at_i.1 in
    let more : take i sent ++ m ∷ [] ≡ take (i + 1) sent = sym (take_more sent i m here) ∙ ap (λ (k : ℕ). take k sent) (sym next) in
    subst (λ (ms : List Envelope). PostsAll c.args.stopped.now c.args.posted.now c.post.new.posted c.args.ready.now c.post.new.ready ms)
    more
    (posts_more c.args.stopped.now c.args.posted.now c.loop-place.posted c.post.new.posted c.args.ready.now c.loop-place.ready
    c.post.new.ready (take i sent) (m ∷ []) c.loop-place.invariant (c.in_ok-post.ensures m here))
