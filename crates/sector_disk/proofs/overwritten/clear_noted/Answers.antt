use Rattle.std.proofs.Common.{◌≡◌, ◌∙◌, ap, subst, replicate, false, drop, [], IsTrue}
use Rattle.std.proofs.lemmas.List.{drop_all}
use Rattle.std.proofs.lemmas.Bool.{false≢true}
use Rattle.sector_disk.specs.Undo.{has_touched}
use Rattle.sector_disk.proofs.Undoing.{all_false}
use Rattle.sector_disk.proofs.overwritten.clear_noted.Goals as goal

pub returns : goal.returns
returns c =
    let none : drop c.loop-i.i c.args.notes.now ≡ [] = drop_all c.loop-i.i c.args.notes.now c.loop-i-test.false in
    all_false c.loop-i.unsynced (λ k is. false≢true (subst (λ l. IsTrue (has_touched l k)) none (c.loop-i.invariant k is)))
    ∙ ap (λ n. replicate n false) c.loop-i.auto.unsynced
