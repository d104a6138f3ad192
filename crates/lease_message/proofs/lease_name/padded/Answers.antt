use Rattle.std.proofs.Common.{ℕ, length, refl}
use Rattle.std.proofs.lemmas.List.{drop-replicate}
use Rattle.lease_message.specs.declared.lease_name.TheConstants.{NAME_CAPACITY}
use Rattle.lease_message.proofs.lease_name.padded.Goals as goal

pub returns : goal.returns
returns c = rw (c.copy_from_slice.ensures.after, drop-replicate {X = ℕ} (length c.args.bytes.now) NAME_CAPACITY 0) refl
