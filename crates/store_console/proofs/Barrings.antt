-- What is answered where a file isn't had, or no store is mounted of it.
use Rattle.std.proofs.Common.{◌≡◌, ◌<◌, ◌↔◌, ℕ, List, Option, Some, None, Result, Ok, Err, IfOk, IfErr, IsFalse, arith, refl, sym, subst}
use Rattle.std.proofs.Common.{◌∙◌, ap, inl, inr}
use Rattle.std.specs.declared.io.Error.{Error}
use Rattle.sector_disk.specs.Disk.{Counts}
use Rattle.file_disk.specs.File.{FileState, state_of, unfailed}
use Rattle.file_disk.specs.Open.{fault_for}
use Rattle.file_disk.specs.declared.fault.OpenFault.{OpenFault}
use Rattle.file_disk.specs.declared.fault.OpenFault.TheVariants as fault
use Rattle.file_disk.specs.declared.stride.Stride.TheVariants.{Packed}
use Rattle.node_store.specs.Store.{StoreState, slots_for}
use Rattle.node_store.specs.Mounting.{IsRefusedWith, disk_of}
use Rattle.node_store.specs.declared.fault.StoreFault.{StoreFault}
use Rattle.node_store.specs.declared.mounting.MountFault.{MountFault}
use Rattle.store_console.specs.declared.reply.Reply.{Reply}
use Rattle.store_console.specs.Barring.{Bars, IsBarBy, barred}
use Rattle.store_console.specs.Mounting.{IsStoreOf, MountsLabelled, MountsOpened, Takes}
use Rattle.store_console.specs.Replies.{HasFailed, IsAnswerTo, IsBarredBy, IsFormatted, IsFresh, IsMounted, IsUnmounted, Mounted, Settles}

pub barred_unmounted : (f : OpenFault) (answered : Reply) → answered ≡ barred f → IsUnmounted answered
barred_unmounted fault.Locked answered is = rw is tt
barred_unmounted _ answered is = rw is tt

pub barred_formatted : (f : OpenFault) (answered : Reply) → answered ≡ barred f → IsFormatted answered
barred_formatted fault.Locked answered is = rw is tt
barred_formatted _ answered is = rw is tt

pub is_barred : (f : OpenFault) (answered : Reply) → answered ≡ barred f → IsBarredBy (Err f) answered
is_barred (fault.NotFound error) answered is = tt
is_barred _ answered is = is

-- by its label
pub bar_unmounted : (label : Result (Option (List ℕ)) Error) (answered : Reply) → IsBarBy label (Some answered) → IsUnmounted answered
bar_unmounted (Ok label) answered is = subst (λ (r : Reply). IsUnmounted r) (sym is.1) tt
bar_unmounted (Err error) answered is = barred_unmounted (fault_for error) answered is

pub bar_formatted : (label : Result (Option (List ℕ)) Error) (answered : Reply) → IsBarBy label (Some answered) → IsFormatted answered
bar_formatted (Ok label) answered is = subst (λ (r : Reply). IsFormatted r) (sym is.1) tt
bar_formatted (Err error) answered is = barred_formatted (fault_for error) answered is

pub failed_formatted : (answered : Reply) → HasFailed answered → IsFormatted answered
failed_formatted answered (inl is) = subst (λ (r : Reply). IsFormatted r) (sym is) refl
failed_formatted answered (inr is) = subst (λ (r : Reply). IsFormatted r) (sym is.1) tt

-- ---- a mounting

answer_unmounted : (f : StoreFault) (answered : Reply) → IsAnswerTo f answered → IsUnmounted answered
answer_unmounted StoreFault.Device answered (inl is) = subst (λ (r : Reply). IsUnmounted r) (sym is) tt
answer_unmounted StoreFault.Device answered (inr is) = subst (λ (r : Reply). IsUnmounted r) (sym is.1) tt
answer_unmounted StoreFault.NoMemory answered is = absurd is
answer_unmounted f answered is = subst (λ (r : Reply). IsUnmounted r) (sym is) tt

-- a file whose label doesn't bar it is no node's
unbarred : (label : Result (Option (List ℕ)) Error) (bar answered : Reply) → IsBarBy label None → IsBarBy label (Some bar) → answered ≡ bar
unbarred (Ok label) bar answered none some = absurd (none some.0)
unbarred (Err error) bar answered none some = absurd none

pub bars_so : (label : Result (Option (List ℕ)) Error) (bar : Reply) → IsBarBy label (Some bar) → Bars label bar
bars_so (Ok label) bar is other others = is.1 ∙ sym others.1
bars_so (Err error) bar is other others = is ∙ sym others

pub bars_not : (label : Result (Option (List ℕ)) Error) (answered : Reply) → IsBarBy label None → Bars label answered
bars_not label answered none bar some = unbarred label bar answered none some

store_of : (disk : FileState) (store : StoreState FileState)
    → IsFalse store.broken × (store.journal.slots ≡ slots_for disk.sectors)
    → Counts (state_of disk) (state_of store.disk) ⊥ (⊥ → ⊥)
    → (⊥ ↔ (disk.sectors < 24)) → IsStoreOf disk store
store_of disk store whole counts small = record {
  whole = whole.0;
  unfailed = counts.unchanged (λ h. h);
  large = omega (arith, small.1);
  slots = whole.1;
}

pub settles_labelled : (disk : FileState) (label : Result (Option (List ℕ)) Error)
    (mounting : Result (StoreState FileState) (MountFault FileState))
    (settled : Result (StoreState FileState) Reply)
    → IsBarBy label None → Settles mounting settled → IfOk mounting (λ store. IsFalse store.broken
    × (store.journal.slots ≡ slots_for disk.sectors))
    → Counts (state_of disk) (state_of (disk_of mounting)) (IsRefusedWith StoreFault.Device mounting)
    (IsRefusedWith StoreFault.Device mounting → ⊥)
    → (IsRefusedWith StoreFault.TooSmall mounting ↔ (disk.sectors < 24))
    → MountsLabelled disk label settled
settles_labelled disk label (Ok store) (Ok same) none is whole counts small =
    subst (λ (s : StoreState FileState). IsBarBy label None × IsStoreOf disk s) (sym is) (none, store_of disk store whole counts small)
settles_labelled disk label (Ok store) (Err answered) none is whole counts small = absurd is
settles_labelled disk label (Err refused) (Ok store) none is whole counts small = absurd is
settles_labelled disk label (Err refused) (Err answered) none is whole counts small =
    inr (none, record { fault = refused.fault; small = small; answers = is })

fresh_labelled : (disk : FileState) (label : Result (Option (List ℕ)) Error) (store : StoreState FileState)
    → disk ≡ unfailed disk.sectors Packed
    → MountsLabelled disk label (Ok store) → IsFresh store
fresh_labelled disk label store fresh is =
    record { whole = is.1.whole; unfailed = is.1.unfailed ∙ ap (λ (d : FileState). d.failures) fresh }

refused_labelled : (disk : FileState) (label : Result (Option (List ℕ)) Error) (answered : Reply)
    → MountsLabelled disk label (Err answered) → IsUnmounted answered
refused_labelled disk label answered (inl is) = bar_unmounted label answered is
refused_labelled disk label answered (inr is) = answer_unmounted is.1.fault answered is.1.answers

mounts_at : (opened : Result FileState OpenFault) (mounting : Result (StoreState FileState) Reply)
    → IfOk opened (λ disk. disk ≡ unfailed disk.sectors Packed)
    → MountsOpened opened mounting → IfOk mounting IsFresh × IfErr mounting IsUnmounted
mounts_at (Err f) (Ok store) fresh is = absurd is
mounts_at (Err f) (Err answered) fresh is = (tt, barred_unmounted f answered is)
mounts_at (Ok disk) (Ok store) fresh is = (fresh_labelled disk is.0 store fresh is.1, tt)
mounts_at (Ok disk) (Err answered) fresh is = (tt, refused_labelled disk is.0 answered is.1)

taken_at : (mounting : Result (StoreState FileState) Reply) (answered : Reply) (new : Mounted)
    → IfOk mounting IsFresh × IfErr mounting IsUnmounted
    → Takes mounting answered new → IsMounted answered new
taken_at (Ok store) answered new is takes = subst (λ (m : Mounted). IsMounted answered m) (sym takes.1) (takes.0, is.0)
taken_at (Err why) answered new is takes =
    subst (λ (m : Mounted). IsMounted answered m) (sym takes.1) (subst (λ (r : Reply). IsUnmounted r) (sym takes.0) is.1)

pub mounts_taken : (opened : Result FileState OpenFault) (mounting : Result (StoreState FileState) Reply) (answered : Reply) (new : Mounted)
    → IfOk opened (λ disk. disk ≡ unfailed disk.sectors Packed) → MountsOpened opened mounting → Takes mounting answered new
    → IsMounted answered new
mounts_taken opened mounting answered new fresh is takes = taken_at mounting answered new (mounts_at opened mounting fresh is) takes
