use Rattle.std.proofs.Common.{sym}
use Rattle.node_session.proofs.Reading.{spells_message, spells_none}
use Rattle.node_session.proofs.seals.message_of.Goals as goal

pub returns-in-Ok : goal.returns-in-Ok
returns-in-Ok c = sym (spells_message c.args.bytes.now c.in-Ok.message c.in-Ok.ensures.read)

pub returns-in-Err : goal.returns-in-Err
returns-in-Err c = sym (spells_none c.args.bytes.now c.decode.result c.in-Err.field-0 c.in-Err.is c.decode.ensures.only)
