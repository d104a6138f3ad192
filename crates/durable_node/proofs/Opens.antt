-- A node that comes up on a disk that was just formatted.
use Rattle.std.proofs.Common.{◌≡◌, ℕ, true, false, Option, Some, None, Bool, refl}
use Rattle.sector_disk.specs.Memory.{Memory, all_synced, state_of}
use Rattle.sector_disk.specs.Disk.{IsImage}
use Rattle.sector_disk.proofs.PublicLaws.{only_image}
use Rattle.job_model.specs.Durable.{formatted}
use Rattle.node_core.specs.declared.event.Event.TheVariants.{Recover}
use Rattle.node_core.specs.Start.{down}
use Rattle.node_store.specs.Store.{slots_for}
use Rattle.histories.specs.NodeState.{NodeState, opening}
use Rattle.histories.specs.After.{after}
use Rattle.histories.specs.declared.event_outcome.EventOutcome.{EventOutcome}
use Rattle.histories.specs.EventOutcomes.{what_of}
use Rattle.histories.specs.declared.event_outcome.EventOutcome.TheVariants as event_outcome
use Rattle.durable_node.specs.Fresh.{IsFresh}
use Rattle.durable_node.specs.declared.step_report.StepReport.{StepReport}
use Rattle.durable_node.specs.Node.{Node, Stands}
use Rattle.durable_node.specs.Stepping.{Does, Steps}
use Rattle.durable_node.proofs.Mounts.{left_by}
use Rattle.durable_node.specs.Arming.{with_left}
use Rattle.durable_node.proofs.Parts.{at_some, stands_at}

-- a node that is down on a disk that was just formatted
abbrev fresh : ℕ → NodeState
fresh id = record { state = down id; durable = formatted; doubt = None }

abbrev pub new_node : ℕ → ℕ → Memory → Node Memory
new_node id nodes disk = record {
  id = id;
  nodes = nodes;
  state = down id;
  disk = Some disk;
  kept = None;
  area = None;
  doubt =
      None;
  mounted = None;
}

-- no command was in doubt
none_kept : (slots id nodes : ℕ) (new : Node Memory) (came : StepReport) (end : EventOutcome) (kept : Bool)
    → end ≡ event_outcome.Recovered kept → Does slots id nodes (fresh id) Recover came new.mounted (what_of Recover end)
    → Stands state_of new (after id nodes (fresh id) (what_of Recover end)) → Stands state_of new (opening id)
none_kept slots id nodes new came (event_outcome.Recovered true) kept is does stands =
    (let none : false ≡ true = does.possible.1 refl in absurd cc)
none_kept slots id nodes new came (event_outcome.Recovered false) kept is does stands = assumption stands
none_kept slots id nodes new came end kept is does stands = absurd cc

pub opens : (id nodes : ℕ) (disk : Memory) (new : Node Memory) (came : StepReport) (kept : Bool)
    → came.event_outcome ≡ event_outcome.Recovered kept → IsFresh disk → Steps state_of (new_node id nodes disk) new Recover came
    → Stands state_of new (opening id)
opens id nodes disk new came kept is new_disk steps =
    let left = left_by (state_of disk) (fresh id) new_disk.enough (λ honest. new_disk.formatted) new_disk.sound in
    let did = steps disk (fresh id) refl (stands_at state_of (new_node id nodes disk) (fresh id) disk refl left refl refl (λ up. absurd cc))
    (λ _. refl) in
    none_kept (slots_for (state_of disk).sectors) id nodes new came came.event_outcome kept is did.0 did.1

-- a copy of a disk that was just formatted
pub copy_fresh : (disk : Memory) → IsFresh disk → IsFresh (all_synced disk.contents disk.failures)
copy_fresh disk fresh =
    let held : IsImage (state_of disk) disk.contents = record { size = refl; same = λ at settled. refl } in record {
      enough = fresh.enough;
      unfailed = fresh.unfailed;
      formatted = λ image is. rw (only_image disk.contents disk.failures image is) (fresh.formatted disk.contents held);
      number = λ image number is at. fresh.number disk.contents number held (rw (only_image disk.contents disk.failures image is) at at);
      sound = λ honest image is. rw (only_image disk.contents disk.failures image is) (fresh.sound honest disk.contents held);
    }

-- what holds of a disk, armed or not, holds of it where it isn't armed
pub under_left : (E : Memory → Type 0) → ((m : Memory) → E m → E (record m { left = None })) → (disk : Option Memory)
    → ((m : Memory) → disk ≡ Some m → E m)
    → (d : Memory) → with_left None disk ≡ Some d → E d
under_left E still None each d e = absurd cc
under_left E still (Some was) each d e = at_some E (record was { left = None }) d e (still was (each was refl))

pub unarmed : (disk : Option Memory) (d : Memory) → with_left None disk ≡ Some d → d.left ≡ None
unarmed None d e = absurd cc
unarmed (Some was) d e = at_some (λ (m : Memory). m.left ≡ None) (record was { left = None }) d e refl
