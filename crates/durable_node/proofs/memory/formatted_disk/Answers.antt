use Rattle.std.proofs.Common.{◌≡◌, ◌+◌, ◌*◌, ◌∙◌, ap, not, length, refl, arith, IsOk, IsErrOf, Result, Ok, Err}
use Rattle.std.proofs.lemmas.List.{length-replicate}
use Rattle.sector_disk.specs.Memory.{Memory}
use Rattle.durable_node.proofs.memory.formatted_disk.Goals as goal

ok_not : {T E : Type 0} (r : Result T E) (e : E) → IsOk r → IsErrOf r e → ⊥
ok_not (Ok x) e ok is = absurd cc
ok_not (Err x) e ok is = absurd cc

pub returns-clause-fresh : goal.returns-clause-fresh
returns-clause-fresh c =
    let e = c.format.ensures in
    let ok = c.is_err.ensures.negation ∙ ap not c.if-is_err.false in
    let blank : length c.in_ok-disk.disk.contents ≡ 8 + 4 * c.args.slots = ap (λ (m : Memory). length m.contents) c.in_ok-disk.ensures
    ∙ length-replicate _ _ ∙ c.sectors_for.ensures in
    rw (c.shrink_to_fit.ensures, c.forget.ensures) (record {
      enough = omega (arith, e.makes.counts.sectors, blank, c.requires.least);
      unfailed = e.makes.counts.unchanged (ok_not c.format.result _ ok) ∙ ap (λ (m : Memory). m.failures) c.in_ok-disk.ensures;
      formatted = rw e.makes.counts.sectors (e.formatted refl ok);
      number = λ image number is at. (let one : number ≡ 1 = cc (at, (e.journal refl ok image is).area) in omega (arith, one));
      sound = rw e.makes.counts.sectors (e.sound refl ok);
    })
