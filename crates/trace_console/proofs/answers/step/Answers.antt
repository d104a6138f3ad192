use Rattle.std.proofs.Common.{◌≡◌, ℕ, suc, ◌+◌, Bool, List, ◌∷◌, length, slice_get, slice_set, Some, None, refl, sym, ap, ◌∙◌, subst, arith}
use Rattle.std.proofs.lemmas.Option.{same_Some, slice_get_read}
use Rattle.trace_check.specs.Claims.{Claim, MayCome}
use Rattle.trace_check.specs.Orders.{history, taken, state_of}
use Rattle.trace_check.specs.Traces.{claim_seen}
use Rattle.trace_check.specs.Twins.{Taken}
use Rattle.trace_console.specs.declared.walk.NodeCursor.{NodeCursor}
use Rattle.trace_check.specs.Followed.{before}
use Rattle.trace_console.specs.Turns.{AreSeats}
use Rattle.trace_check.proofs.PublicLaws.{before_more, may_take}
use Rattle.trace_console.proofs.NodeCursors.{node_within, seat_after, seat_read, seats_more}
use Rattle.trace_console.proofs.answers.step.Goals as goal

pub index_mut-node_cursor-requires : goal.index_mut-node_cursor-requires
index_mut-node_cursor-requires c =
    let order = c.args.order.now in
    let number = c.args.turn in
    let node = c.index-order-turn.result in
    let may = may_take c.args.trace.now order number node c.requires.legal
    (slice_get_read order (length order) number node refl c.requires.more c.index-order-turn.is) in
    let within = node_within c.args.trace.now (before order number) node may in
    let count = c.requires.seats.0 in
    let from = c.from.ensures in
    let value = c.number.ensures.value in omega (arith, within, count, from, value)

-- the turn can be taken, and the seat stands before it
pub unreachable-requires : goal.unreachable-requires
unreachable-requires c =
    let hs = c.args.trace.now in
    let node = c.index-order-turn.result in
    let s = c.index_mut-node_cursor.result.now in
    let seat = seat_read hs c.args.order.now c.args.turn node c.args.seats.now.items c.from.result s c.requires.legal c.requires.more
    c.index-order-turn.is c.requires.seats (c.from.ensures ∙ c.number.ensures.value) c.index_mut-node_cursor.ensures.value in
    let none : slice_get (history hs node) s.index ≡ None = c.in_default.ensures.none refl in
    let clash : None ≡ Some seat.1.claim = sym none ∙ ap (λ (x : NodeCursor). slice_get (history hs node) x.index) seat.2 ∙ seat.1.next in
    cc

pub unreachable-requires-then-not-branch : goal.unreachable-requires-then-not-branch
unreachable-requires-then-not-branch c =
    let hs = c.args.trace.now in
    let order = c.args.order.now in
    let number = c.args.turn in
    let node = c.index-order-turn.result in
    let s = c.index_mut-node_cursor.result.now in
    let seat = seat_read hs order number node c.args.seats.now.items c.from.result s c.requires.legal c.requires.more c.index-order-turn.is
    c.requires.seats (c.from.ensures ∙ c.number.ensures.value) c.index_mut-node_cursor.ensures.value in
    let may = seat.1 in
    let entry = claim_seen c.in-Some.entry in
    let same : may.claim ≡ entry = same_Some _ _ (sym (ap (λ (x : NodeCursor). slice_get (history hs node) x.index) seat.2 ∙ may.next)
    ∙ c.in-Some.ensures.some) in
    let possible : MayCome s.node_model.id s.node_model.nodes s.node_model.node entry =
    subst (λ (x : NodeCursor). MayCome x.node_model.id x.node_model.nodes x.node_model.node entry) (sym seat.2)
    (subst (λ (d : Claim). MayCome node (length hs) (state_of hs node (taken node (before order number))) d) same may.possible) in
    subst (λ (b : Bool). Taken s.node_model c.take.new.self entry b) c.if-not-branch.true c.in_ok-take.ensures.taken possible

pub returns : goal.returns
returns c =
    let hs = c.args.trace.now in
    let order = c.args.order.now in
    let number = c.args.turn in
    let node = c.index-order-turn.result in
    let past = before order number in
    let s = c.index_mut-node_cursor.result.now in
    let here : c.from.result ≡ node = c.from.ensures ∙ c.number.ensures.value in
    let seat = seat_read hs order number node c.args.seats.now.items c.from.result s c.requires.legal c.requires.more c.index-order-turn.is
    c.requires.seats here c.index_mut-node_cursor.ensures.value in
    let entry = claim_seen c.in-Some.entry in
    let taken_is = subst (λ (b : Bool). Taken s.node_model c.take.new.self entry b) c.if-not-branch.false c.in_ok-take.ensures.taken in
    let new = seat_after hs past node entry s c.take.new.self seat.2 c.in-Some.ensures.some c.in_ok-take.ensures.id
    c.in_ok-take.ensures.nodes taken_is.1 in
    let more : suc number ≡ number + 1 = omega arith in
    let behind : node ∷ past ≡ before order (number + 1) = sym (before_more order number node seat.0)
    ∙ ap (λ (k : ℕ). before order k) more in
    let node_cursor : NodeCursor = record { node_model = c.take.new.self; index = s.index + 1 } in
    subst (λ (p : List ℕ). AreSeats hs p (slice_set c.args.seats.now.items c.from.result node_cursor)) behind
    (subst (λ (k : ℕ). AreSeats hs (node ∷ past) (slice_set c.args.seats.now.items k node_cursor)) (sym here)
    (seats_more hs past node c.args.seats.now.items node_cursor c.requires.seats new))
