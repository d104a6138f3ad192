-- Where to look first.
use Rattle.std.proofs.Common.{◌≡◌, ◌≤◌, ◌<◌, ◌+◌, ℕ, true, false, List, [], length, drop, get_or, None, Some, refl, sym, ap, ◌∙◌}
use Rattle.std.proofs.lemmas.Option.{slice_get_read}
use Rattle.trace_check.specs.declared.leftover.Leftover.{Leftover}
use Rattle.trace_text.proofs.PublicLaws.{drop_all, drop_get}
use Rattle.trace_console.specs.Reported.{first_text, look_text, waits}
use Rattle.trace_console.specs.Ongoing.{first_stopped}

pub look_more : (ls : List Leftover) (i : ℕ) (l : Leftover) → i < length ls → l ≡ get_or ls i l → waits l.holdup ≡ true
    → look_text ls ≡ look_text (drop i ls) → look_text ls ≡ look_text (drop (i + 1) ls)
look_more ls i l within at waiting is =
    is ∙ ap look_text (drop_get ls i l (slice_get_read ls (length ls) i l refl within at)) ∙ rw waiting refl

pub look_here : (ls : List Leftover) (i : ℕ) (l : Leftover) → i < length ls → l ≡ get_or ls i l → waits l.holdup ≡ false
    → look_text ls ≡ look_text (drop i ls) → look_text ls ≡ first_text l.node l.index
look_here ls i l within at other is =
    is ∙ ap look_text (drop_get ls i l (slice_get_read ls (length ls) i l refl within at)) ∙ rw other refl

pub look_none : (ls : List Leftover) (i : ℕ) → length ls ≤ i → look_text ls ≡ look_text (drop i ls) → look_text ls ≡ look_text []
look_none ls i past is = is ∙ ap look_text (drop_all ls i past)

-- ---- so of the first that can't be

pub stopped_more : (ls : List Leftover) (i : ℕ) (l : Leftover) → i < length ls → l ≡ get_or ls i l → waits l.holdup ≡ true
    → first_stopped ls ≡ first_stopped (drop i ls) → first_stopped ls ≡ first_stopped (drop (i + 1) ls)
stopped_more ls i l within at waiting is = is ∙ ap first_stopped (drop_get ls i l (slice_get_read ls (length ls) i l refl within at))
    ∙ rw waiting refl

pub stopped_here : (ls : List Leftover) (i : ℕ) (l : Leftover) → i < length ls → l ≡ get_or ls i l → waits l.holdup ≡ false
    → first_stopped ls ≡ first_stopped (drop i ls) → Some l ≡ first_stopped ls
stopped_here ls i l within at other is = sym (is ∙ ap first_stopped (drop_get ls i l (slice_get_read ls (length ls) i l refl within at))
    ∙ rw other refl)

pub stopped_none : (ls : List Leftover) (i : ℕ) → length ls ≤ i → first_stopped ls ≡ first_stopped (drop i ls) → None ≡ first_stopped ls
stopped_none ls i past is = sym (is ∙ ap first_stopped (drop_all ls i past))
