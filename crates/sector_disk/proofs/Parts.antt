-- One list of notes, cut where times ended.
use Rattle.std.proofs.Common.{refl, ◌≡◌, ◌≤◌, ℕ, ◌+◌, ◌-◌, List, [], ◌∷◌, ◌++◌, length, take, drop, ap, ◌∙◌, sym, arith, length-append}
use Rattle.std.proofs.Common.{length-drop, Option, Some, None, IfSome}
use Rattle.std.specs.Option.{option_to_list}
use Rattle.std.proofs.lemmas.List.{drop-append-le, take-append-le, take_all, drop_all}
use Rattle.sector_disk.specs.Noted.{Noted}
use Rattle.sector_disk.specs.Times.{times_from, last_from, FollowFrom}
use Rattle.sector_disk.specs.declared.overwritten.Overwritten.{Overwritten}

pub last_below : (start : ℕ) (ends : List ℕ) (count : ℕ) → FollowFrom start ends count → last_from start ends ≤ count
last_below start [] count follow = follow
last_below start (end ∷ ends) count follow = last_below end ends count follow.1

first_below : (start : ℕ) (ends : List ℕ) (count : ℕ) → FollowFrom start ends count → start ≤ count
first_below start [] count follow = follow
first_below start (end ∷ ends) count follow = omega (arith, follow.0, first_below end ends count follow.1)

-- they end within any number of notes that the last of them ends within
pub follow_within : (start : ℕ) (ends : List ℕ) (count other : ℕ) → FollowFrom start ends count → last_from start ends ≤ other
    → FollowFrom start ends other
follow_within start [] count other follow last = last
follow_within start (end ∷ ends) count other follow last = (follow.0, follow_within end ends count other follow.1 last)

-- notes behind them change no time that is over
pub times_before_more : (start : ℕ) (ends : List ℕ) (notes more : List Overwritten) → FollowFrom start ends (length notes)
    → times_from start ends (notes ++ more) ≡ times_from start ends notes
times_before_more start [] notes more follow = refl
times_before_more start (end ∷ ends) notes more follow =
    let within : end ≤ length notes = first_below end ends (length notes) follow.1 in
    ap (λ part. part ∷ times_from end ends (notes ++ more))
    (ap (take (end - start)) (drop-append-le start notes more (omega (arith, follow.0, within)))
    ∙ take-append-le (end - start) (drop start notes) more (simp length-drop (omega (arith, within))))
    ∙ ap (λ (rest : List (List Overwritten)). take (end - start) (drop start notes) ∷ rest) (times_before_more end ends notes more follow.1)

-- one more time is over
pub times-end : (start : ℕ) (ends : List ℕ) (end : ℕ) (notes : List Overwritten)
    → times_from start (ends ++ end ∷ []) notes ≡ times_from start ends notes ++ take (end - last_from start ends)
    (drop (last_from start ends) notes) ∷ []
times-end start [] end notes = refl
times-end start (first ∷ ends) end notes = ap (λ (rest : List (List Overwritten)). take (first - start) (drop start notes) ∷ rest)
    (times-end first ends end notes)

pub last-end : (start : ℕ) (ends : List ℕ) (end : ℕ) → last_from start (ends ++ end ∷ []) ≡ end
last-end start [] end = refl
last-end start (first ∷ ends) end = last-end first ends end

pub follow-end : (start : ℕ) (ends : List ℕ) (count : ℕ) → FollowFrom start ends count → FollowFrom start (ends ++ count ∷ []) count
follow-end start [] count follow = (follow, omega arith)
follow-end start (end ∷ ends) count follow = (follow.0, follow-end end ends count follow.1)

-- the notes that stand in a list so
abbrev pub noted : List ℕ → ℕ → List Overwritten → Noted
noted ends closed notes = record { times = times_from 0 ends notes; since = drop closed notes }

pub same_noted : (old new : Noted) → new.times ≡ old.times → new.since ≡ old.since → new ≡ old
same_noted old new times since =
    ap (λ (t : List (List Overwritten)). record { times = t; since = new.since }) times
    ∙ ap (λ (s : List Overwritten). record { times = old.times; since = s }) since

-- one note more
pub noted-note : (ends : List ℕ) (closed : ℕ) (notes now : List Overwritten) (note : Overwritten) → FollowFrom 0 ends (length notes)
    → closed ≤ length notes → now ≡ notes ++ note ∷ []
    → noted ends closed now ≡ record (noted ends closed notes) { since = drop closed notes ++ note ∷ [] }
noted-note ends closed notes now note follow within is =
    ap (noted ends closed) is
    ∙ same_noted (record (noted ends closed notes) { since = drop closed notes ++ note ∷ [] }) (noted ends closed (notes ++ note ∷ []))
    (times_before_more 0 ends notes (note ∷ []) follow)
    (drop-append-le closed notes (note ∷ []) within)

-- a time is over
pub noted-end : (ends now : List ℕ) (closed : ℕ) (notes : List Overwritten) → closed ≡ last_from 0 ends → now ≡ ends ++ length notes ∷ []
    → noted now (length notes) notes ≡ record { times = times_from 0 ends notes ++ drop closed notes ∷ []; since = [] }
noted-end ends now closed notes is_last is =
    same_noted (record { times = times_from 0 ends notes ++ drop closed notes ∷ []; since = [] }) (noted now (length notes) notes)
    (ap (λ l. times_from 0 l notes) is
    ∙ times-end 0 ends (length notes) notes
    ∙ ap (λ (k : ℕ). times_from 0 ends notes ++ take (length notes - k) (drop k notes) ∷ []) (sym is_last)
    ∙ ap (λ (part : List Overwritten). times_from 0 ends notes ++ part ∷ [])
    (take_all (length notes - closed) (drop closed notes) (simp length-drop (omega arith))))
    (drop_all (length notes) notes (omega arith))

-- the last note is taken back
pub noted-pop : (ends : List ℕ) (closed : ℕ) (notes rest : List Overwritten) (last : Option Overwritten)
    → FollowFrom 0 ends (length rest) → closed ≤ length rest → notes ≡ rest ++ option_to_list last
    → IfSome last (λ note. (drop closed notes ≡ drop closed rest ++ note ∷ []) × (times_from 0 ends rest ≡ times_from 0 ends notes))
noted-pop ends closed notes rest None follow within is = tt
noted-pop ends closed notes rest (Some note) follow within is = (
  ap (drop closed) is ∙ drop-append-le closed rest (note ∷ []) within,
  sym (ap (times_from 0 ends) is ∙ times_before_more 0 ends rest (note ∷ []) follow),
)

one_at_most : (last : Option Overwritten) → length (option_to_list last) ≤ 1
one_at_most None = omega arith
one_at_most (Some note) = omega arith

-- at most one is
pub length-pop : (notes rest : List Overwritten) (last : Option Overwritten) → notes ≡ rest ++ option_to_list last
    → length notes ≤ length rest + 1
length-pop notes rest last is =
    let long : length notes ≡ length rest + length (option_to_list last) = ap length is ∙ length-append rest (option_to_list last) in
    omega (arith, long, one_at_most last)
