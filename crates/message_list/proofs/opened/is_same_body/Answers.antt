use Rattle.message_list.proofs.PackedMessages.{bodies_if}
use Rattle.message_list.proofs.opened.is_same_body.Goals as goal

pub returns : goal.returns
returns c = bodies_if c.args.one.now c.args.other.now c.has_same_shape.result c.requires.one c.requires.other c.has_same_shape.ensures
