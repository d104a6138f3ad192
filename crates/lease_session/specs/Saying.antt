-- What a user is told of its lease.
use Rattle.std.specs.Prelude.{ℕ, ◌≡◌, ◌⊎◌, None}
use Rattle.lease_network.specs.Network.{Name}
use Rattle.lease_session.specs.declared.process.LeaseProcess.{LeaseProcess}
use Rattle.lease_session.specs.Holding.{IsToldNow}
use Rattle.lease_session.specs.Turns.{IsOut, IsQuiet, SaysHeld}

-- nothing, where nothing is news; or the process goes on no more
pub record TellsNone (now : ℕ) (name : Name) (old new : LeaseProcess) : Type 0 where
  pub same_halt : new.halt ≡ old.halt
  pub same_text : new.text ≡ old.text
  pub same_told : new.told ≡ old.told
  pub is_so : new.halt ≡ None → IsToldNow now name new.machine new.told.items

-- The user of a name is told of the lease that its client keeps, where that is news.
pub record TellsNews (now : ℕ) (name : Name) (old new : LeaseProcess) : Type 0 where
  pub quiet : IsQuiet old new
  pub said : IsOut new ⊎ TellsNone now name old new ⊎ SaysHeld now name old new
