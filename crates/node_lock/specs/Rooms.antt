-- That a list of events can be read back, and has the room that it says.
use Rattle.std.specs.Prelude.{◌+◌, ◌*◌, ◌≤◌, length, All, vec_len, vec_capacity}
use Rattle.job_model.specs.declared.payload.TheConstants.{PAYLOAD_CAPACITY}
use Rattle.node_lock.specs.declared.event_list.EventList.TheInside.{Inside}
use Rattle.trace_check.specs.Kept.{EventStands}

pub record IsKept (a : Inside) : Type 0 where
  pub read : All (EventStands (length a.messages.messages) (length a.payloads.items)) a.kept.items
  pub events : vec_len a.kept + a.room ≤ vec_capacity a.kept
  pub messages : a.room ≤ a.messages.room
  pub payloads : vec_len a.payloads + PAYLOAD_CAPACITY * a.room ≤ vec_capacity a.payloads
