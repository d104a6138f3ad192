use Rattle.std.proofs.Common.{◌≡◌, IfOk, sym, subst, arith}
use Rattle.console_text.specs.Ends.{printout_of}
use Rattle.store_console.specs.declared.found.Owner.{Owner}
use Rattle.store_console.specs.declared.inspecting.Shown.{Shown}
use Rattle.store_console.specs.declared.inspecting.Shown.TheVariants.{All, Verified}
use Rattle.store_console.specs.Held.{owner_of}
use Rattle.store_console.specs.Printed.{held_text, too_small}
use Rattle.store_console.proofs.Finding.{shown_held, shown_small}
use Rattle.store_console.proofs.inspecting.shown_of.Goals as goal

pub returns-then-sectors-lt24 : goal.returns-then-sectors-lt24
returns-then-sectors-lt24 c =
    shown_small c.args.shown c.args.bytes.now c.in_ok-disk.disk.contents c.too_small.result c.in_ok-disk.ensures
    (omega (arith, c.if-sectors-lt24.true, c.sectors-sectors.ensures))
    (subst (λ n. IfOk c.too_small.result (λ p. printout_of p ≡ too_small n)) c.sectors-sectors.ensures c.too_small.ensures)

pub returns-in-All : goal.returns-in-All
returns-in-All c =
    shown_held c.args.shown c.args.bytes.now c.in_ok-disk.disk.contents c.inspection.result c.in_ok-disk.ensures
    (omega (arith, c.if-sectors-lt24.false, c.sectors-sectors.ensures))
    (subst (λ (s : Shown). IfOk c.inspection.result (λ p. printout_of p
    ≡ held_text s (owner_of c.args.bytes.now) c.in_ok-disk.disk.contents)) (sym c.in-All.is)
    (subst (λ (o : Owner). IfOk c.inspection.result (λ p. printout_of p ≡ held_text All o c.in_ok-disk.disk.contents)) c.owner_of.ensures
    c.inspection.ensures.found))

pub returns-in-Verified : goal.returns-in-Verified
returns-in-Verified c =
    shown_held c.args.shown c.args.bytes.now c.in_ok-disk.disk.contents c.verification.result c.in_ok-disk.ensures
    (omega (arith, c.if-sectors-lt24.false, c.sectors-sectors.ensures))
    (subst (λ (s : Shown). IfOk c.verification.result (λ p. printout_of p
    ≡ held_text s (owner_of c.args.bytes.now) c.in_ok-disk.disk.contents)) (sym c.in-Verified.is)
    (subst (λ (o : Owner). IfOk c.verification.result (λ p. printout_of p ≡ held_text Verified o c.in_ok-disk.disk.contents))
    c.owner_of-in-Verified.ensures c.verification.ensures))

pub returns : goal.returns
returns c =
    shown_held c.args.shown c.args.bytes.now c.in_ok-disk.disk.contents c.exported.result c.in_ok-disk.ensures
    (omega (arith, c.if-sectors-lt24.false, c.sectors-sectors.ensures))
    (subst (λ (s : Shown). IfOk c.exported.result (λ p. printout_of p ≡ held_text s (owner_of c.args.bytes.now) c.in_ok-disk.disk.contents))
    (sym c.in-Jobs.is) c.exported.ensures)
