-- How long tags and stamps are.
use Rattle.std.proofs.Common.{◌≡◌, ◌++◌, ◌+◌, List, ℕ, length, refl, arith}
use Rattle.std.proofs.lemmas.List.{length-append}
use Rattle.sha2.specs.Sha256.{sha256}
use Rattle.sha2.proofs.Facts256.{length-sha256}
use Rattle.sealed_msg.specs.Hmac.{hmac_by, padded}
use Rattle.sealed_msg.specs.Stamps.{stamp_bytes}
use Rattle.sealed_msg.specs.Sealing.{sealed, stamped}
use Rattle.sealed_msg.specs.declared.stamp.Stamp.{Stamp}

pub length-tag : (key text : List ℕ) → length (hmac_by key text) ≡ 32
length-tag key text = length-sha256 (padded key 0x5c ++ sha256 (padded key 0x36 ++ text))

pub length-stamp : (stamp : Stamp) → length (stamp_bytes stamp) ≡ 16
length-stamp stamp = refl

pub length-sealed : (key message : List ℕ) (stamp : Stamp) → length (sealed key message stamp) ≡ length message + 48
length-sealed key message stamp =
    omega (
      arith,
      length-append message (stamp_bytes stamp),
      length-append (stamped message stamp) (hmac_by key (stamped message stamp)),
      length-tag key (stamped message stamp),
      length-stamp stamp,
    )
