use Rattle.std.proofs.Common.{◌≡◌, Some, option_map, refl, sym, ap, ◌∙◌}
use Rattle.std.specs.Prelude.{option_and_then}
use Rattle.std.specs.Result.{result_ok}
use Rattle.hex.specs.Hex.{decode_of}
use Rattle.wire_msg.specs.Reading.{message_of}
use Rattle.wire_msg.proofs.PublicLaws.{spelled_is_message}
use Rattle.trace_text.proofs.Decoded.{none_by}
use Rattle.trace_text.proofs.reading.read_spelled.Goals as goal

pub returns-in-Ok : goal.returns-in-Ok
returns-in-Ok c =
    let bytes = c.in-Some.bytes.now in
    let there : result_ok (decode_of c.args.text.now) ≡ Some bytes = sym c.in_ok-bytes.ensures
    ∙ ap (option_map (λ b. b.now)) c.in-Some.is in
    ap (option_and_then message_of) there ∙ spelled_is_message bytes c.decode_into.new.message c.in-Ok.ensures.read

pub returns-in-Err : goal.returns-in-Err
returns-in-Err c =
    let bytes = c.in-Some.bytes.now in
    let there : result_ok (decode_of c.args.text.now) ≡ Some bytes = sym c.in_ok-bytes.ensures
    ∙ ap (option_map (λ b. b.now)) c.in-Some.is in
    ap (option_and_then message_of) there ∙ none_by bytes (message_of bytes) refl (λ m spells. (let never =
    (c.in-Err.ensures.only m spells).0 in cc))
