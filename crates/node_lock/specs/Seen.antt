-- What a turn says that is lent.
use Rattle.node_lock.specs.declared.turn_log.Entry.{Entry}
use Rattle.node_lock.specs.History.{Turn}

-- the turn that is lent
abbrev pub turn_seen : Entry → Turn
turn_seen e = record { worker = e.worker; index = e.index; entry = record { what = e.what; sent = e.sent } }
