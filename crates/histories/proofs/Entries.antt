-- What each entry of a history does.
use Rattle.std.proofs.Common.{◌≡◌, ◌+◌, ℕ, Bool, true, false, [], refl, Some, None}
use Rattle.job_model.specs.declared.work.Work.{Work}
use Rattle.group_task.specs.Group.{Group}
use Rattle.wire_msg.specs.Envelope.{Envelope}
use Rattle.node_core.specs.declared.event.Event.TheVariants.{Deliver, Finish}
use Rattle.node_core.specs.State.{State, is_down}
use Rattle.node_core.specs.Words.{holds}
use Rattle.node_core.specs.Refusals.{refusal_of, is_known}
use Rattle.node_core.specs.declared.fault.CoreFault.{CoreFault}
use Rattle.std.specs.Prelude.{not, if◌then◌else◌}
use Rattle.histories.specs.NodeState.{NodeState, settled}
use Rattle.histories.specs.declared.history_event.HistoryEvent.{HistoryEvent}
use Rattle.histories.specs.declared.history_event.HistoryEvent.TheVariants.{Did, Refused, Faulted, NoOp, Crashed, Recovered, MountFailed}
use Rattle.histories.specs.declared.history_event.HistoryEvent.TheVariants.{RaiseFailed, RaiseRefused}
use Rattle.histories.specs.Possible.{IsPossible}
use Rattle.histories.proofs.Tests.{and_left, eq_nat}
use Rattle.histories.proofs.Moves.{stays, falls, starts_alone, Enters}
use Rattle.histories.proofs.Rows.{event_does}

pub entry_does : (P : Group → Type 0) (J Q : ℕ → ℕ → Work → Type 0) (self nodes : ℕ) (s : NodeState) (what : HistoryEvent)
    → IsPossible self nodes s what → Enters P J Q self nodes s what
entry_does P J Q self nodes s (Did event) may =
    let row = event_does P J Q self s.state s.durable nodes event may.1.by_core in record {
      made = row.made;
      moves = row.moves;
      names = row.names;
      holds = λ now next. row.holds (record { before = now; after = next });
      says = λ k now next. row.says k (record { before = now; after = next });
    }
entry_does P J Q self nodes s (Refused event fault) may =
    record {
      made = [];
      moves = stays refl refl refl refl refl refl;
      names = λ k. k.place;
      holds = λ now next w h. h;
      says =
          λ k now next. tt;
    }
entry_does P J Q self nodes s (Faulted event) may = record {
  made = [];
  moves = falls refl refl refl;
  names =
      λ k up. absurd (up refl);
  holds = λ now next w h. tt;
  says = λ k now next. tt;
}
entry_does P J Q self nodes s (NoOp rest) may = record {
  made = [];
  moves = stays refl refl refl refl refl refl;
  names =
      λ k. k.place;
  holds = λ now next w h. h;
  says = λ k now next. tt;
}
entry_does P J Q self nodes s Crashed may = record {
  made = [];
  moves = falls refl refl refl;
  names = λ k up. absurd (up refl);
  holds =
      λ now next w h. tt;
  says = λ k now next. tt;
}
entry_does P J Q self nodes s (Recovered kept) may = record {
  made = [];
  moves = starts_alone ((settled kept s).counter + 1) refl refl refl;
  names = λ k up. (k.fresh.0, k.fresh.0);
  holds = λ now next w h. tt;
  says = λ k now next. tt;
}
entry_does P J Q self nodes s MountFailed may = record {
  made = [];
  moves = stays refl refl refl refl refl refl;
  names =
      λ k. k.place;
  holds = λ now next w h. h;
  says = λ k now next. tt;
}
entry_does P J Q self nodes s (RaiseFailed kept) may = record {
  made = [];
  moves = falls refl refl refl;
  names =
      λ k up. absurd (up refl);
  holds = λ now next w h. tt;
  says = λ k now next. tt;
}
entry_does P J Q self nodes s (RaiseRefused kept) may = record {
  made = [];
  moves = stays refl refl refl refl refl refl;
  names =
      λ k. k.place;
  holds = λ now next w h. h;
  says = λ k now next. tt;
}

-- ---- what isn't refused

pub unless : (b : Bool) (x : CoreFault) → (if b then None else Some x) ≡ None → b ≡ true
unless true x h = refl
unless false x h = absurd cc

held_if : (b c : Bool) (x y : CoreFault) → (if b then Some x else (if not c then Some y else None)) ≡ None → (b ≡ false) × (c ≡ true)
held_if true c x y h = absurd cc
held_if false true x y h = (refl, refl)
held_if false false x y h = absurd cc

pub addressed : (nodes self : ℕ) (m : Envelope) (s : State) → refusal_of nodes self (Deliver m) s ≡ None → m.receiver ≡ self
addressed nodes self m s h = eq_nat m.receiver self (and_left _ _ (unless (is_known nodes self m) _ h))

pub held_finish : (nodes self origin id : ℕ) (s : State) → refusal_of nodes self (Finish origin id) s ≡ None
    → (is_down s.phase ≡ false) × (holds s.hand origin id ≡ true)
held_finish nodes self origin id s h = held_if (is_down s.phase) (holds s.hand origin id) _ _ h
