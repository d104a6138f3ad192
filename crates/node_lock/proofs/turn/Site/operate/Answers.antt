use Rattle.std.proofs.Common.{ℕ, Option, List, [], ◌∷◌, ◌++◌, refl, ap, sym, ◌∙◌, subst}
use Rattle.sector_disk.specs.Memory.{Memory}
use Rattle.histories.specs.declared.history_event.HistoryEvent.TheVariants.{Crashed, NoOp}
use Rattle.histories.specs.declared.history_event.NoOpKind.TheVariants.{Nothing}
use Rattle.durable_node.specs.Node.{Node}
use Rattle.node_lock.specs.declared.worker.Worker.TheVariants.{Operator}
use Rattle.node_lock.specs.Asking.{asked_in}
use Rattle.node_lock.specs.Doing.{TurnDid, WasArmed, WasCrashed}
use Rattle.node_lock.specs.History.{Turn}
use Rattle.node_lock.specs.Taking.{turn_of}
use Rattle.node_lock.specs.Wearing.{AreaRises}
use Rattle.node_lock.proofs.Losing.{none_noted}
use Rattle.node_lock.proofs.Taking.{nothing_sent}
use Rattle.node_lock.proofs.Wearing.{armed_area, crashed_area}
use Rattle.node_lock.proofs.turn.Site.operate.Goals as goal

-- the bytes that the operator's order leaves
pub returns-in-Crash-clause-taken : goal.returns-in-Crash-clause-taken
returns-in-Crash-clause-taken c =
    let old = c.args.self.now.node in
    let new = c.crash.new.self in
    let crashed : WasCrashed c.as_slice.result.now old new =
    record {
      there = c.crash.ensures.there;
      down = c.crash.ensures.down;
      disk = c.crash.ensures.disk;
      stands = c.crash.ensures.stands;
    } in
    let did : TurnDid old (asked_in c.args.order.now) Crashed [] new =
    rw c.in-Crash.is (subst (λ (f : List ℕ). WasCrashed f old new) c.as_slice.ensures crashed, refl, refl) in (
      record { what = Crashed; sent = [] },
      record {
        did = did;
        id = ap (λ (n : Node Memory). n.id) c.crash.ensures.down;
        nodes = ap (λ (n : Node Memory). n.nodes) c.crash.ensures.down;
        sent = nothing_sent _;
        turns = c.push_quiet.ensures.turns ∙ ap (λ (ts : List Turn). ts
            ++ turn_of Operator c.args.index (record { what = Crashed; sent = [] }) ∷ []) c.reserve_quiet.ensures.turns;
        lost = none_noted _ _ _ _ (c.push_quiet.ensures.lost ∙ c.reserve_quiet.ensures.lost);
        number = record {
          number = c.draw-number.result;
          draws = c.draw-number.ensures.draws;
          given = c.push_quiet.ensures.numbers
              ∙ ap (λ (ns : List ℕ). ns ++ c.draw-number.result ∷ []) c.reserve_quiet.ensures.numbers;
        };
        area = crashed_area _ _ c.crash.ensures.there c.crash.ensures.number;
      },
    )

pub returns-in-Arm-clause-taken : goal.returns-in-Arm-clause-taken
returns-in-Arm-clause-taken c =
    let old = c.args.self.now.node in
    let new = c.arm.new.self in
    let rested = c.in_ok-rest-in-Arm.ensures in
    let armed : WasArmed _ old new = record { armed = c.arm.ensures.armed; stands = c.arm.ensures.stands } in
    let did : TurnDid old (asked_in c.args.order.now) (NoOp Nothing) [] new = rw c.in-Arm.is (armed, refl, refl) in (
      record { what = NoOp Nothing; sent = [] },
      record {
        did = did;
        id = ap (λ (n : Node Memory). n.id) c.arm.ensures.armed;
        nodes = ap (λ (n : Node Memory). n.nodes) c.arm.ensures.armed;
        sent = nothing_sent _;
        turns = rested.taken;
        lost = none_noted _ _ _ _ rested.lost;
        number = rested.number;
        area = subst (λ (d : Option Memory). AreaRises old.disk d (NoOp Nothing))
            (sym (ap (λ (n : Node Memory). n.disk) c.arm.ensures.armed)) (armed_area _ old.disk);
      },
    )
