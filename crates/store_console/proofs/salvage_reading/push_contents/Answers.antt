use Rattle.std.proofs.Common.{◌≡◌, ◌+◌, ◌*◌, ◌-◌, ◌++◌, ◌∙◌, suc, [], ◌∷◌, ap, sym, append_assoc, arith}
use Rattle.store_console.specs.Salvaged.{content_at, contents_from}
use Rattle.store_console.proofs.SlotRows.{one_content}
use Rattle.store_console.proofs.salvage_reading.push_contents.Goals as goal

pub loop-at-preserved : goal.loop-at-preserved
loop-at-preserved c =
    let image = c.args.disk.now.contents in
    let at = c.args.first + 2 * c.loop-at.at in
    let next = c.args.first + 2 * (c.loop-at.at + 1) in
    let end = c.in_ok-at-end.at-end in
    let left : end - c.loop-at.at ≡ suc (end - (c.loop-at.at + 1)) = omega (arith, c.loop-at-test.true) in
    let rest = contents_from image next (end - (c.loop-at.at + 1)) in
    let before = c.loop-at.contents.items in
    record {
      kept = c.push_content.ensures.kept ∙ c.loop-at.invariant.kept;
      added = ap (λ xs. xs ++ rest) c.in_ok-push_content.ensures.read
          ∙ append_assoc before (content_at c.loop-at.disk.contents at ∷ []) rest
          ∙ ap (λ d. before ++ (content_at d at ∷ rest)) c.loop-at.invariant.kept
          ∙ ap (λ xs. before ++ xs) (sym (one_content image at next (end - c.loop-at.at) (end - (c.loop-at.at + 1)) (omega arith) left))
          ∙ c.loop-at.invariant.added;
    }
