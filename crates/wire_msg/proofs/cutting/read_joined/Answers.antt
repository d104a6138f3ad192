use Rattle.std.proofs.Common.{ℕ, List, drop, subst, sym, ap, ◌∙◌}
use Rattle.std.specs.Prelude.{Err, Some, None}
use Rattle.std.proofs.lemmas.Result.{err_from_is_err_and}
use Rattle.wire_msg.specs.declared.fault.WireFault.{WireFault}
use Rattle.wire_msg.specs.declared.fault.WireFault.TheVariants.{Malformed}
use Rattle.wire_msg.specs.Framing.{IsAt}
use Rattle.wire_msg.proofs.Faults.{passed_on}
use Rattle.wire_msg.proofs.Contents.{fed}
use Rattle.wire_msg.proofs.cutting.read_joined.Goals as goal

pub returns-in_err-taken-clause-malformed : goal.returns-in_err-taken-clause-malformed
returns-in_err-taken-clause-malformed c = λ h.
    let came = passed_on c.from_residual.result c.in_err-taken.field-0.0 Malformed
    (err_from_is_err_and c.from_residual.result c.from_residual.ensures.1) h in
    let e = c.in_err-taken.ensures.malformed (ap (λ (f : WireFault). Err f) came) in
    fed c.args.rest.now.items c.args.piece.now c.deref.result.now e.0 c.args.out.now.items c.take_frames.new.out.items None
    (c.deref.ensures.value ∙ c.in-Ok.ensures.items) e.2 e.1

pub returns-clause-ok : goal.returns-clause-ok
returns-clause-ok c =
    let e = c.in_ok-taken.ensures.ok in
    let left = c.remove_front.ensures ∙ ap (drop c.in_ok-taken.taken) (sym c.deref.ensures.value) in
    fed c.args.rest.now.items c.args.piece.now c.deref.result.now e.1 c.args.out.now.items c.take_frames.new.out.items
    (Some c.remove_front.new.bytes.items)
    (c.deref.ensures.value ∙ c.in-Ok.ensures.items)
    (subst (λ (b : List ℕ). IsAt c.deref.result.now e.1 (Some b)) (sym left) e.3) e.2
