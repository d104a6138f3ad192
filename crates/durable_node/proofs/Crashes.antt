-- What a crash, an arming and a forgetting leave of a node over a disk in memory.
use Rattle.std.proofs.Common.{[], ◌≡◌, ℕ, true, false, Bool, Option, Some, None, ◌∙◌, ap, subst, refl, arith, length}
use Rattle.sector_disk.specs.Disk.{Image, IsImage}
use Rattle.sector_disk.specs.Memory.{Memory, all_synced, state_of}
use Rattle.sector_disk.proofs.PublicLaws.{only_image}
use Rattle.job_model.specs.Durable.{Durable}
use Rattle.job_journal.specs.Journal.{AllWithin, IsSound}
use Rattle.node_core.specs.declared.wanted.Wanted.{Wanted}
use Rattle.node_core.specs.Core.{Core}
use Rattle.node_core.specs.Start.{down}
use Rattle.node_core.specs.State.{is_down}
use Rattle.node_store.specs.Store.{slots_for, StoreState}
use Rattle.histories.specs.After.{after}
use Rattle.histories.specs.NodeState.{NodeState, settled}
use Rattle.histories.specs.declared.history_event.HistoryEvent.TheVariants.{Crashed}
use Rattle.durable_node.specs.Arming.{with_left, with_left_in}
use Rattle.durable_node.specs.Forgetting.{forgotten_disk, forgotten_in}
use Rattle.durable_node.specs.declared.node_disk.NodeDisk.{NodeDisk}
use Rattle.durable_node.specs.declared.node_disk.NodeDisk.TheVariants.{Bare, Mounted}
use Rattle.durable_node.specs.Node.{IsLeft, Stands, Node, disk_in, kept_in, area_in, mounted_in, node_with}
use Rattle.durable_node.proofs.Parts.{at_some, stands_down}

-- what a crash leaves has one image
the_image : (now : Memory) (failures : ℕ) (image : Image) → now ≡ all_synced now.contents failures → IsImage (state_of now) image
    → image ≡ now.contents
the_image now failures image anew im = only_image now.contents failures image (subst (λ (m : Memory). IsImage (state_of m) image) anew im)

pub sound_left : (was now : Memory) → IsImage (state_of was) now.contents → now ≡ all_synced now.contents was.failures
    → IsSound (slots_for (length was.contents)) (state_of was) → IsSound (slots_for (length now.contents)) (state_of now)
sound_left was now left anew sound honest image im = rw (the_image now was.failures image anew im, left.size) (sound refl now.contents left)

-- the number of its area is one that it might have had
pub number_left : (was now : Memory) (bound : ℕ) → IsImage (state_of was) now.contents → now ≡ all_synced now.contents was.failures
    → AllWithin bound (state_of was) → AllWithin bound (state_of now)
number_left was now bound left anew within image number im at =
    within now.contents number left (rw (the_image now was.failures image anew im) at at)

settled_still : (id nodes : ℕ) (kept : Bool) (s : NodeState) → settled kept s ≡ settled kept (after id nodes s Crashed)
settled_still id nodes true s = refl
settled_still id nodes false s = refl

-- and that is one that it might have left
left_after : (id nodes : ℕ) (was now : Memory) (s : NodeState) → IsImage (state_of was) now.contents
    → now ≡ all_synced now.contents was.failures → IsLeft (state_of was) s → IsLeft (state_of now) (after id nodes s Crashed)
left_after id nodes was now s left anew is = record {
  sectors = omega (arith, left.size, is.sectors);
  images = λ honest image im. (let choice = is.images refl now.contents left in (
    choice.0,
    choice.1,
    rw (
      the_image now was.failures image anew im,
      left.size,
    ) (choice.2 ∙ ap (λ (d : Durable). Some d) (settled_still id nodes choice.0 s)),
  ));
  sound = sound_left was now left anew is.sound;
}

-- a node that crashed
pub crashes : (id nodes : ℕ) (core core' : Core) (disk : NodeDisk Memory) (was now : Memory) (doubt : Option (Wanted × ℕ))
    (mounted : Option ℕ) (s : NodeState)
    → disk_in disk ≡ Some was → core'.state ≡ down id → IsImage (state_of was) now.contents → now ≡ all_synced now.contents was.failures
    → Stands state_of (node_with id nodes core disk doubt mounted) s
    → Stands state_of (node_with id nodes core' (Bare now) doubt None) (after id nodes s Crashed)
crashes id nodes core core' disk was now doubt mounted s there fallen left anew stands =
    stands_down state_of _ (after id nodes s Crashed) now id fallen refl (left_after id nodes was now s left anew (stands.disk was there))
    fallen stands.doubt

-- ---- an arming, and a forgetting

-- a store shows the same over a disk that changed
shown_still : (b : Bool) (mounted : Option ℕ) (st : StoreState Memory) (d : Memory)
    → (kept_in b (Some (record st { disk = d })) ≡ kept_in b (Some st)) × (area_in b (Some (record st { disk = d })) ≡ area_in b (Some st))
    × (mounted_in mounted (Some (record st { disk = d })) ≡ mounted_in mounted (Some st))
shown_still true None st d = (refl, refl, refl)
shown_still true (Some count) st d = (refl, refl, refl)
shown_still false None st d = (refl, refl, refl)
shown_still false (Some count) st d = (refl, refl, refl)

pub node_is_armed : (id nodes : ℕ) (left : Option ℕ) (core : Core) (disk : NodeDisk Memory) (doubt : Option (Wanted × ℕ))
    (mounted : Option ℕ)
    → node_with id nodes core (with_left_in left disk) doubt None
    ≡ record (node_with id nodes core disk doubt mounted) { disk = with_left left (disk_in disk); mounted = None }
node_is_armed id nodes left core (Mounted st) doubt mounted =
    (let same = shown_still (is_down core.state.phase) None st (record st.disk { left = left }) in rw (same.0, same.1))
node_is_armed id nodes left core disk doubt mounted = refl

pub node_forgot : (id nodes : ℕ) (core : Core) (disk : NodeDisk Memory) (doubt : Option (Wanted × ℕ)) (mounted : Option ℕ)
    → node_with id nodes core (forgotten_in disk) doubt mounted
    ≡ record (node_with id nodes core disk doubt mounted) { disk = forgotten_disk (disk_in disk) }
node_forgot id nodes core (Mounted st) doubt mounted = (let same =
    shown_still (is_down core.state.phase) mounted st (record st.disk { spans = [] }) in rw (same.0, same.1, same.2))
node_forgot id nodes core (Bare d) doubt None = refl
node_forgot id nodes core (Bare d) doubt (Some count) = refl
node_forgot id nodes core disk doubt mounted = refl

left_armed : (calls : Option ℕ) (disk : Option Memory) (s : NodeState) → ((d : Memory) → disk ≡ Some d → IsLeft (state_of d) s)
    → (d : Memory) → with_left calls disk ≡ Some d → IsLeft (state_of d) s
left_armed calls None s left d e = absurd cc
left_armed calls (Some was) s left d e = at_some (λ (m : Memory). IsLeft (state_of m) s)
    (record was { left = calls }) d e (assumption (left was refl))

-- an armed node stands for what it stood for
pub arms : (calls : Option ℕ) (old new : Node Memory) (s : NodeState) → new ≡ record old { disk = with_left calls old.disk; mounted = None }
    → Stands state_of old s → Stands state_of new s
arms calls old new s is stands = rw is (assumption (left_armed calls old.disk s stands.disk, stands))
