use Rattle.std.proofs.Common.{◌∷◌, refl}
use Rattle.json.specs.Reads.{token_of}
use Rattle.trace_text.specs.Fields.{data_of}
use Rattle.trace_text.proofs.Firsts.{no_object}
use Rattle.trace_text.proofs.values.enter_object.Goals as goal

pub returns : goal.returns
returns c =
    let ts = c.args.reader.now in
    record {
      value = no_object c.args.depth ts c.args.token (token_of c.args.token ∷ ts)
          (data_of c.in_ok-read_rest.field-0) c.read_rest.new.reader refl c.in_ok-read_rest.ensures.value c.in_default.not-BeginObject;
      shorter = c.in_ok-read_rest.ensures.shorter;
    }
