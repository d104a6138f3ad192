use Rattle.std.proofs.Common.{None, Option, ◌∷◌, [], ◌++◌, ap, ◌∙◌, arith}
use Rattle.std.specs.Prelude.{get_or}
use Rattle.std.proofs.lemmas.Option.{slice_get-get_or}
use Rattle.trace_text.specs.Tellings.{TellingData}
use Rattle.trace_console.proofs.Pieces.{added_more}
use Rattle.trace_console.proofs.Thens.{told_is}
use Rattle.trace_console.proofs.told.append_tellings.Goals as goal

pub loop-place-preserved : goal.loop-place-preserved
loop-place-preserved c =
    let more = c.args.more.now in
    let place = c.loop-place.place in
    added_more c.args.row.now more c.loop-place.row c.push.new.self place (get_or more place None) c.loop-place.invariant
    (slice_get-get_or more place None (omega (arith, c.loop-place-test.true, c.len-place-end.ensures)))
    (c.in_ok-push.ensures ∙ ap (λ (t : Option TellingData). c.loop-place.row ++ t ∷ []) (c.get.ensures ∙ told_is more place))
