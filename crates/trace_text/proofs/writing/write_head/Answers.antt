use Rattle.std.proofs.Common.{[], ◌∷◌, codes}
use Rattle.json.specs.Token.{begin_array, begin_object, key}
use Rattle.trace_text.proofs.Printing.{ok_then}
use Rattle.trace_text.proofs.writing.write_head.Goals as goal

pub returns : goal.returns
returns c =
    ok_then c.begin_list.result c.args.out.now c.begin_object.new.self c.begin_list.new.out (begin_object ∷ [])
    (key (codes "histories") ∷ begin_array ∷ [])
    (record { before = c.begin_object.ensures.room.0; tokens = c.in_ok-begin_object.ensures.ok }) c.begin_list.ensures
