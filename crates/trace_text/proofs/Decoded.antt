-- Where nothing is decoded, no message is spelled.
use Rattle.std.proofs.Common.{◌≡◌, ℕ, List, Option, Some, None, refl}
use Rattle.wire_msg.specs.Envelope.{Envelope}
use Rattle.wire_msg.specs.Spelling.{Spells}
use Rattle.wire_msg.specs.Reading.{message_of}
use Rattle.wire_msg.proofs.PublicLaws.{message_is_spelled}

pub none_by : (bytes : List ℕ) (o : Option Envelope) → message_of bytes ≡ o → ((m : Envelope) → Spells m bytes → ⊥) → o ≡ None
none_by bytes None is only = refl
none_by bytes (Some m) is only = absurd (only m (message_is_spelled bytes m is))
