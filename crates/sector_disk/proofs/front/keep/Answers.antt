use Rattle.std.proofs.Common.{◌≡◌, ◌∙◌, ◌+◌, ◌-◌, ◌++◌, ◌∷◌, [], List, ℕ, ap, length, replicate, arith}
use Rattle.std.proofs.lemmas.List.{append_assoc, replicate_more, length_push}
use Rattle.sector_disk.proofs.front.keep.Goals as goal

pub loop-kept-preserved : goal.loop-kept-preserved
loop-kept-preserved c =
    let was = c.loop-kept.kept.items in
    let now = c.push_reserved.new.self.items in
    let first = c.args.kept.now.items in
    let zeros : List ℕ = replicate 512 0 in
    let so_far = c.loop-kept.invariant in
    let is : now ≡ was ++ zeros ∷ [] = c.push_reserved.ensures.items in
    let long : length now ≡ length was + 1 = ap length is ∙ length_push was zeros in
    let count : length was - length first + 1 ≡ length now - length first = omega (arith, long, so_far.more) in
    record {
      kept = is
          ∙ ap (λ (l : List (List ℕ)). l ++ zeros ∷ []) so_far.kept
          ∙ append_assoc first (replicate (length was - length first) zeros) (zeros ∷ [])
          ∙ ap (λ (l : List (List ℕ)). first ++ l) (replicate_more (length was - length first) zeros ∙ ap (λ k. replicate k zeros) count);
      needed = omega (arith, long, c.loop-kept-test.true, c.len.ensures, c.loop-kept.kept.ok.0);
      more = omega (arith, long, so_far.more);
      room = c.push_reserved.ensures.capacity ∙ so_far.room;
    }

pub returns-clause-kept : goal.returns-clause-kept
returns-clause-kept c =
    let so_far = c.loop-kept.invariant in
    let count : length c.loop-kept.kept.items - length c.args.kept.now.items ≡ c.args.at + 1 - length c.args.kept.now.items =
    omega (arith, so_far.needed, c.loop-kept-test.false, c.len.ensures, c.loop-kept.kept.ok.0) in
    so_far.kept ∙ ap (λ k. c.args.kept.now.items ++ replicate k (replicate 512 0)) count
