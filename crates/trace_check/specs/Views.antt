-- What an entry says that is lent as it is kept.
use Rattle.std.specs.Prelude.{length}
use Rattle.trace_check.specs.declared.history.KeptView.{KeptView}
use Rattle.trace_check.specs.Claims.{Claim}
use Rattle.trace_check.specs.Kept.{claim_said, EntryStands}

abbrev pub claim_kept : KeptView → Claim
claim_kept k = claim_said k.messages.now.messages k.payloads.now k.entry

-- it can be read back
abbrev pub Stands : KeptView → Type 0
Stands k = EntryStands (length k.messages.now.messages) (length k.payloads.now) k.entry
