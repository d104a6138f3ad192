-- How a run of device calls starts, goes on and is put together.
use Rattle.std.proofs.Common.{◌≡◌, ◌≢◌, ◌<◌, ◌⊎◌, inl, inr, ⊎_elim, ℕ, [], ◌≤◌, length, set, sym, ◌∙◌, ap, arith, refl}
use Rattle.std.proofs.lemmas.List.{get_or-set_same, get_or-set_other, length-set}
use Rattle.std.proofs.lemmas.Bool.Decides.{eqb_tells}
use Rattle.sector_disk.specs.Disk.{Image, DiskState, Laws, IsImage, SameBut, Touches, sector_at, nothing}
use Rattle.sector_disk.specs.Run.{Run, Each}

pub same_image : (touched : ℕ → Type 0) (c : Image) → SameBut touched c c
same_image touched c = record { size = refl; same = λ at _. refl }

pub same_trans : (touched : ℕ → Type 0) (a b c : Image) → SameBut touched a b → SameBut touched b c → SameBut touched a c
same_trans touched a b c ab bc = record { size = bc.size ∙ ab.size; same = λ at other. bc.same at other ∙ ab.same at other }

pub same_widen : (some more : ℕ → Type 0) (a b : Image) → ((at : ℕ) → some at → more at) → SameBut some a b → SameBut more a b
same_widen some more a b into ab = record { size = ab.size; same = λ at other. ab.same at (λ touched. other (into at touched)) }

pub run_widen : (some more : ℕ → Type 0) (old new : DiskState) → ((at : ℕ) → some at → more at) → Run some old new → Run more old new
run_widen some more old new into run = record {
  later = run.later;
  splits = run.splits;
  keeps = run.keeps;
  earlier = run.earlier;
  ends = run.ends;
  follows = λ c since. let from = run.follows c since in (from.0, from.1, same_widen some more from.0 c into from.2);
  contents = same_widen some more old.contents new.contents into run.contents;
}

-- what holds of each image of both parts holds of each image of the whole
pub each_of_two : (touched : ℕ → Type 0) (old mid new : DiskState) (P : Image → Type 0) → old.moment ≤ mid.moment → Run touched mid new
    → Each old mid P → Each mid new P → Each old new P
each_of_two touched old mid new P le second first then c since =
    ⊎_elim (first c) (then c) (second.splits old.moment c le since)

pub run_of_two : (touched : ℕ → Type 0) (old mid new : DiskState) → Run touched old mid → Run touched mid new → Run touched old new
run_of_two touched old mid new first second = record {
  later = omega (arith, first.later, second.later);
  splits = λ t c le since. ⊎_elim
      (λ was. ⊎_elim (λ early. inl early) (λ between. inr (second.keeps old.moment c first.later between)) (first.splits t c le was))
      (λ late. inr (second.earlier old.moment mid.moment c first.later late))
      (second.splits t c (omega (arith, le, first.later)) since);
  keeps = λ t c le was. second.keeps t c (omega (arith, le, first.later)) (first.keeps t c le was);
  earlier = second.earlier;
  ends = λ c now. second.earlier old.moment mid.moment c first.later (second.ends c now);
  follows = each_of_two touched old mid new (λ c. (d : Image) × IsImage old d × SameBut touched d c) first.later second first.follows
      (λ c late.
      let e = second.follows c late in
      let d = first.follows e.0 (first.ends e.0 e.1) in
      (d.0, d.1, same_trans touched d.0 e.0 c d.2 e.2));
  contents = same_trans touched old.contents mid.contents new.contents first.contents second.contents;
}

-- one call is a run, if an image that it may leave follows from one before
run_of_call : (touched : ℕ → Type 0) (old new : DiskState) → Laws old → Laws new → Touches touched old new
    → ((c : Image) → IsImage new c → (d : Image) × IsImage old d × SameBut touched d c) → Run touched old new
run_of_call touched old new before after call back = record {
  later = call.time.later;
  splits = λ t c le since. ⊎_elim (λ was. inl was) (λ now. inr (after.counts_now old.moment c call.time.later now))
      (call.time.nothing_else t c le since);
  keeps = call.time.keeps;
  earlier = after.earlier;
  ends = λ c now. after.counts_now old.moment c call.time.later now;
  follows = λ c since. ⊎_elim
      (λ was. (c, before.only_now c was, same_image touched c))
      (back c)
      (call.time.nothing_else old.moment c (omega arith) since);
  contents = call.contents;
}

-- a call that writes nothing
pub quiet_run : (old new : DiskState) → Laws old → Laws new → Touches nothing old new → Run nothing old new
quiet_run old new before after call = run_of_call nothing old new before after call
    (λ c now. (
      c,
      record {
        size = now.size ∙ call.contents.size;
        same = λ at still. now.same at (call.synced at (λ no. no) still)
            ∙ call.contents.same at (λ no. no);
      },
      same_image nothing c,
    ))

same_or_not : (m n : ℕ) → (m ≡ n) ⊎ (m ≢ n)
same_or_not m n = ⊎_elim (λ h. inl h.1) (λ h. inr h.1) (eqb_tells m n)

-- a call that writes one sector
pub write_run : (at : ℕ) (old new : DiskState) → Laws old → Laws new → at < old.sectors → Touches (λ k. k ≡ at) old new
    → Run (λ k. k ≡ at) old new
write_run at old new before after on call = run_of_call (λ k. k ≡ at) old new before after call
    (λ c now.
    let was = sector_at old.contents at in
    let d = set c at was in
    let long : at < length c = omega (arith, on, now.size, call.contents.size, before.has_all) in (
      d,
      record {
        size = length-set c at was ∙ now.size ∙ call.contents.size;
        same = λ k still. ⊎_elim
            (λ is. ap (λ j. sector_at d j) is ∙ get_or-set_same c at was [] long ∙ ap (λ j. sector_at old.contents j) (sym is))
            (λ other. get_or-set_other c at k was [] other ∙ now.same k (call.synced k other still) ∙ call.contents.same k other)
            (same_or_not k at);
      },
      record { size = sym (length-set c at was); same = λ k other. sym (get_or-set_other c at k was [] other) },
    ))
