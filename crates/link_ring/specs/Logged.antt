-- That what went through an end can be read back, and that there is the room that it says.
use Rattle.std.specs.Prelude.{◌+◌, ◌≤◌, All, length, vec_len, vec_capacity}
use Rattle.link_ring.specs.declared.link_log.LinkLog.TheInside.{Inside}
use Rattle.link_ring.specs.Passed.{IsRead}

pub record IsLogged (a : Inside) : Type 0 where
  pub read : All (IsRead (length a.long.messages)) a.passed.items
  pub passed : vec_len a.passed + a.room ≤ vec_capacity a.passed
  pub long : a.room ≤ a.long.room
