use Rattle.std.proofs.Common.{◌≡◌, ℕ, ◌+◌, false, List, [], ◌∷◌, ◌++◌, reverse, slice_get, Option, Some, None, refl, sym, ap, ◌∙◌, subst}
use Rattle.std.proofs.Common.{arith}
use Rattle.group_task.specs.Ids.{has}
use Rattle.trace_check.specs.declared.leftover.Holdup.{Holdup}
use Rattle.trace_check.specs.declared.leftover.Leftover.{Leftover}
use Rattle.trace_check.specs.Orders.{history, taken}
use Rattle.trace_check.specs.Leftovers.{AreLeftBelow, CanReplay, IsFound}
use Rattle.trace_check.specs.Searches.{twin_after}
use Rattle.trace_check.proofs.Leftovers.{can_replay, left_nothing, left_one, still_on}
use Rattle.trace_check.proofs.Turns.{desk_rests, seat_numbered}
use Rattle.trace_check.proofs.leaving.leftovers.Goals as goal
use Rattle.trace_check.proofs.leaving.leftovers.Goals.{in-Some+in_ok-push, in_default}

pub loop-number-init : goal.loop-number-init
loop-number-init c =
    let d = c.args.search.now in (
      c.new-left.ensures.items,
      record {
        rests = desk_rests c.args.trace.now d.seats.items d.ready d.stopped d.posted (reverse d.order.items) c.requires.fits
            c.requires.none;
        kept = λ n _. refl;
      },
      refl,
    )

pub next_holdup-requires-clause-before : goal.next_holdup-requires-clause-before
next_holdup-requires-clause-before c =
    let hs = c.args.trace.now in
    let l = c.loop-number in
    let number = l.number in
    let seat = c.index_mut-seat.result.now in
    let rests = l.invariant.1.rests in
    let at = seat_numbered hs l.search.seats.items c.from.result number c.nodes-number-end.result seat rests.count
    c.nodes-number-end.ensures.value c.from.ensures c.loop-number-test.true c.index_mut-seat.ensures.value in
    subst (λ (n : ℕ). CanReplay hs n seat.place) (sym c.numbered-node.ensures)
    (subst (λ (p : ℕ). CanReplay hs number p) (sym (rests.places number seat at))
    (can_replay hs (reverse l.search.order.items) number rests.legal))

pub next_holdup-requires-clause-going : goal.next_holdup-requires-clause-going
next_holdup-requires-clause-going c = λ going.
    let hs = c.args.trace.now in
    let l = c.loop-number in
    let number = l.number in
    let seat = c.index_mut-seat.result.now in
    let at = seat_numbered hs l.search.seats.items c.from.result number c.nodes-number-end.result seat l.invariant.1.rests.count
    c.nodes-number-end.ensures.value c.from.ensures c.loop-number-test.true c.index_mut-seat.ensures.value in
    let fits = c.requires.fits.fits number seat (sym (l.invariant.1.kept number (omega arith)) ∙ at) in
    let node = c.numbered-node.ensures in
    let up : has c.args.search.now.stopped number ≡ false = ap (λ (ids : List ℕ). has ids number) (sym l.invariant.2)
    ∙ ap (has l.search.stopped) (sym node) ∙ sym c.contains-is_stopped.ensures ∙ going in
    fits.node_model up ∙ ap (λ (n : ℕ). twin_after hs n (taken number (reverse c.args.search.now.order.items))) (sym node)
    ∙ ap (twin_after hs c.numbered-node.result) (sym fits.place)

pub loop-number-preserved : goal.loop-number-preserved
loop-number-preserved c =
    let hs = c.args.trace.now in
    let l = c.loop-number in
    let number = l.number in
    let past = reverse l.search.order.items in
    let seat = c.index_mut-seat.result.now in
    let new = c.next_holdup.new.seat in
    let rests = l.invariant.1.rests in
    let at = seat_numbered hs l.search.seats.items c.from.result number c.nodes-number-end.result seat rests.count
    c.nodes-number-end.ensures.value c.from.ensures c.loop-number-test.true c.index_mut-seat.ensures.value in
    let id = c.numbered-node.result in
    let is : seat.place ≡ taken id past = rests.places number seat at ∙ ap (λ (k : ℕ). taken k past) (sym c.numbered-node.ensures) in
    let same : new.place ≡ seat.place = c.in_ok-found.ensures.place in
    let up : number + 1 ≡ id + 1 = ap (λ (k : ℕ). k + 1) (sym c.numbered-node.ensures) in
    let before : AreLeftBelow hs past id l.left.items = subst (λ (k : ℕ). AreLeftBelow hs past k l.left.items)
    (sym c.numbered-node.ensures) l.invariant.0 in
    let still = still_on hs c.args.search.now.seats.items l.search.seats.items past number c.from.result seat new l.invariant.1
    c.from.ensures at same in
    elim c.match-found.branch [
      | in-Some+in_ok-push w ↦ (
        let found : IsFound hs id seat.place (slice_get (history hs id) seat.place) (Some w.in-Some.holdup) =
            subst (λ (o : Option Holdup). IsFound hs id seat.place (slice_get (history hs id) seat.place) o) w.in-Some.is
            c.in_ok-found.ensures.found in
            left_one hs past id (number + 1) seat.place l.left.items c.match-found.left.items w.in-Some.holdup up rests.stuck is found
            (ap (λ v. v.items) w.left-is ∙ w.in_ok-push.ensures.items
            ∙ ap (λ (p : ℕ). l.left.items ++ record { node = id; index = p; holdup = w.in-Some.holdup } ∷ []) same) before,
        still,
        l.invariant.2,
      )
      | in_default w ↦ (
        let found : IsFound hs id seat.place (slice_get (history hs id) seat.place) None =
            subst (λ (o : Option Holdup). IsFound hs id seat.place (slice_get (history hs id) seat.place) o) w.in_default.is
            c.in_ok-found.ensures.found in
            subst (λ (ls : List Leftover). AreLeftBelow hs past (number + 1) ls) (sym (ap (λ v. v.items) w.left-is))
            (left_nothing hs past id (number + 1) seat.place l.left.items up is found before),
        still,
        l.invariant.2,
      )
    ]
