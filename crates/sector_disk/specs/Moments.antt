-- What each call of a disk in memory does to the images that a crash may leave.
use Rattle.std.specs.Prelude.{◌<◌, ◌≡◌, ◌≢◌, ◌⊎◌, ℕ, ◌+◌, ◌≤◌, List, [], ◌∷◌, ◌++◌, length, get_or, set, drop, Bool, true, false, IsFalse}
use Rattle.std.specs.Prelude.{refl}
use Rattle.std.proofs.Common.{zero, suc, inl, inr, ⊎_elim, sym, ◌∙◌, ap, subst, arith, length-append}
use Rattle.std.proofs.lemmas.List.{drop_all, drop-append-le, get_or-set_same, get_or-set_other}
use Rattle.std.proofs.lemmas.Bool.{false≢true}
use Rattle.sector_disk.specs.Disk.{Image, IsImage, Laws, Elapses, Touches, SameBut, nothing, sector_at}
use Rattle.sector_disk.specs.Memory.{Memory, Span, LeftBy, LeftBySome, is_unsynced, was_written, state_of}

left_by_later : (spans : List Span) (n : ℕ) (c : Image) → LeftBySome (drop n spans) c → LeftBySome spans c
left_by_later spans zero c left = left
left_by_later [] (suc n) c left = left
left_by_later (span ∷ spans) (suc n) c left = inr (left_by_later spans n c left)

left_by_first : (spans more : List Span) (c : Image) → LeftBySome spans c → LeftBySome (spans ++ more) c
left_by_first [] more c left = absurd left
left_by_first (span ∷ spans) more c left = ⊎_elim (λ this. inl this) (λ later. inr (left_by_first spans more c later)) left

left_by_last : (spans more : List Span) (c : Image) → LeftBySome more c → LeftBySome (spans ++ more) c
left_by_last [] more c left = left
left_by_last (span ∷ spans) more c left = inr (left_by_last spans more c left)

left_by_either : (spans more : List Span) (c : Image) → LeftBySome (spans ++ more) c → LeftBySome spans c ⊎ LeftBySome more c
left_by_either [] more c left = inr left
left_by_either (span ∷ spans) more c left =
    ⊎_elim (λ this. inl (inl this)) (λ later. ⊎_elim (λ l. inl (inr l)) (λ r. inr r) (left_by_either spans more c later)) left

earlier_too : (spans : List Span) (s t : ℕ) (c : Image) → s ≤ t → LeftBySome (drop t spans) c → LeftBySome (drop s spans) c
earlier_too spans zero t c le left = left_by_later spans t c left
earlier_too [] (suc s) (suc t) c le left = left
earlier_too (span ∷ spans) (suc s) (suc t) c le left = earlier_too spans s t c (omega (arith, le)) left
earlier_too spans (suc s) zero c le left = absurd (omega (arith, le))

pub laws : (m : Memory) → Laws (state_of m)
laws m = record {
  has_all = refl;
  counts_now = λ t c le image. inr (le, image);
  earlier = λ s t c le since. ⊎_elim
      (λ past. inl (earlier_too m.spans s t c le past))
      (λ now. inr (omega (arith, le, now.0), now.1))
      since;
  only_now = λ c since. ⊎_elim
      (λ past. absurd (let none : drop (length m.spans) m.spans ≡ [] = drop_all (length m.spans) m.spans (omega arith) in
      subst (λ l. LeftBySome l c) none past))
      (λ now. now.1)
      since;
}

-- Within a time from one sync to the next a crash may leave more and more.
goes_on : (old new : Memory) → new.spans ≡ old.spans → ((c : Image) → IsImage (state_of old) c → IsImage (state_of new) c)
    → Elapses (state_of old) (state_of new)
goes_on old new spans more = record {
  later = omega (arith, ap length spans);
  nothing_else = λ t c le since. ⊎_elim
      (λ past. inl (inl (subst (λ l. LeftBySome (drop t l) c) spans past)))
      (λ now. inr now.1)
      since;
  keeps = λ t c le since. ⊎_elim
      (λ past. inl (subst (λ l. LeftBySome (drop t l) c) (sym spans) past))
      (λ now. inr (omega (arith, ap length spans, now.0), more c now.1))
      since;
}

-- a call that changes nothing but what is counted
pub stays : (touched : ℕ → Type 0) (old new : Memory) → new.contents ≡ old.contents → new.unsynced ≡ old.unsynced → new.spans ≡ old.spans
    → Touches touched (state_of old) (state_of new)
stays touched old new contents unsynced spans = record {
  contents = record { size = ap length contents; same = λ at _. ap (λ s. sector_at s at) contents };
  synced = λ at _ still. ap (λ l. get_or l at false) unsynced ∙ still;
  time = goes_on old new spans (λ c image. record {
    size = image.size ∙ sym (ap length contents);
    same = λ at still. image.same at (sym (ap (λ l. get_or l at false) unsynced) ∙ still) ∙ sym (ap (λ s. sector_at s at) contents);
  });
}

other_synced : (unsynced : List Bool) (at k : ℕ) → IsFalse (get_or (set unsynced at true) k false) → at < length unsynced → k ≢ at
other_synced unsynced at k still on here =
    false≢true (sym still ∙ ap (λ j. get_or (set unsynced at true) j false) here ∙ get_or-set_same unsynced at true false on)

-- a write: what reads give of other sectors stays, and so does which of them are unsynced
pub writes : (old new : Memory) (at : ℕ) → at < length old.unsynced → SameBut (λ k. k ≡ at) old.contents new.contents
    → new.unsynced ≡ set old.unsynced at true → new.spans ≡ old.spans
    → Touches (λ k. k ≡ at) (state_of old) (state_of new)
writes old new at on contents unsynced spans = record {
  contents = contents;
  synced = λ k other still. ap (λ l. get_or l k false) unsynced ∙ get_or-set_other old.unsynced at k true false other ∙ still;
  time = goes_on old new spans (λ c image. record {
    size = image.size ∙ sym contents.size;
    same = λ k still.
        let flag = sym (ap (λ l. get_or l k false) unsynced) ∙ still in
        let other = other_synced old.unsynced at k flag on in
        image.same k (sym (get_or-set_other old.unsynced at k true false other) ∙ flag) ∙ sym (contents.same k other);
  });
}

-- a sync: a time ends
pub syncs : (old new : Memory) (span : Span) → new.contents ≡ old.contents → ((at : ℕ) → IsFalse (is_unsynced new at))
    → new.spans ≡ old.spans ++ span ∷ []
    → span.contents ≡ old.contents → ((at : ℕ) → was_written span.written at ≡ is_unsynced old at)
    → Touches nothing (state_of old) (state_of new)
syncs old new span contents synced spans ends took = record {
  contents = record { size = ap length contents; same = λ at _. ap (λ s. sector_at s at) contents };
  synced = λ at _ _. synced at;
  time = record {
    later = omega (arith, long);
    nothing_else = λ t c le since. ⊎_elim
        (λ past. inl (⊎_elim
        (λ early. inl early)
        (λ last. ⊎_elim (λ this. inr (le, left_now c this)) (λ none. absurd none) last)
        (left_by_either (drop t old.spans) (span ∷ []) c (subst (λ l. LeftBySome l c) (split t le) past))))
        (λ now. inr now.1)
        since;
    keeps = λ t c le since. inl (subst (λ l. LeftBySome l c) (sym (split t le)) (⊎_elim
        (λ past. left_by_first (drop t old.spans) (span ∷ []) c past)
        (λ now. left_by_last (drop t old.spans) (span ∷ []) c (inl (left_then c now.1)))
        since));
  };
}
  where
    long : length new.spans ≡ length old.spans + 1
    long = ap length spans ∙ length-append old.spans (span ∷ [])

    split : (t : ℕ) → t ≤ length old.spans → drop t new.spans ≡ drop t old.spans ++ span ∷ []
    split t le = ap (drop t) spans ∙ drop-append-le t old.spans (span ∷ []) le

    left_now : (c : Image) → LeftBy span c → IsImage (state_of old) c
    left_now c left = record {
      size = left.size ∙ ap length ends;
      same = λ at still. left.same at (took at ∙ still) ∙ ap (λ s. sector_at s at) ends;
    }

    left_then : (c : Image) → IsImage (state_of old) c → LeftBy span c
    left_then c image = record {
      size = image.size ∙ sym (ap length ends);
      same = λ at still. image.same at (sym (took at) ∙ still) ∙ sym (ap (λ s. sector_at s at) ends);
    }
