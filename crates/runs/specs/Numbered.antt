-- The messages that an act sent, by their numbers.
use Rattle.std.specs.Prelude.{List, [], take, drop}
use Rattle.wire_msg.specs.Envelope.{Envelope}
use Rattle.runs.specs.declared.outcome.Outcome.{Outcome}
use Rattle.runs.specs.declared.outcome.Outcome.TheVariants.{Done}

-- of all messages, those under the numbers that are reported of an act
abbrev pub sent_under : List Envelope → Outcome → List Envelope
sent_under all (Done answer first many) = take many (drop first all)
sent_under all refused = []
