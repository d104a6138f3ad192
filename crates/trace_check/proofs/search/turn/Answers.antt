use Rattle.std.proofs.Common.{◌≡◌, ◌<◌, ℕ, List, length, slice_set, slice_index_or, refl, sym, ap, ◌∙◌, subst, arith}
use Rattle.std.proofs.lemmas.Option.{same_Some}
use Rattle.wire_msg.specs.Envelope.{Envelope}
use Rattle.trace_check.specs.declared.search.NodeCursor.{NodeCursor}
use Rattle.trace_check.specs.declared.search.Search.{Search}
use Rattle.trace_check.specs.declared.search.Judgement.{Judgement}
use Rattle.trace_check.specs.Claims.{Claim}
use Rattle.trace_check.specs.Searches.{IsTurn, Judges, PostsAll, SendsIts}
use Rattle.trace_check.proofs.Turns.{seat_at}
use Rattle.trace_check.proofs.search.turn.Goals as goal

turn_of : (hs : List (List Claim)) (old new : Search) (k m n : ℕ) (was is : NodeCursor) (a answer : Judgement) → k ≡ m → m ≡ n
    → n < length old.seats.items → was ≡ slice_index_or old.seats.items k was → a ≡ answer → Judges hs old.posted n was is a
    → SendsIts hs old new n was.place answer → new.seats.items ≡ slice_set old.seats.items k is → new.order.items ≡ old.order.items
    → new.stopped ≡ old.stopped → IsTurn hs old new n answer
turn_of hs old new k m n was is a answer number id within read same judged sends seats order stopped =
    let here : k ≡ n = number ∙ id in
    record {
      was = was;
      is = is;
      at = seat_at old.seats.items k n was here (omega (arith, here, within)) read;
      judged = subst (λ (j : Judgement). Judges hs old.posted n was is j) same judged;
      sends = sends;
      seats = seats ∙ ap (λ (j : ℕ). slice_set old.seats.items j is) here;
      order = order;
      stopped = stopped;
    }

pub returns-in-Stops : goal.returns-in-Stops
returns-in-Stops c =
    turn_of c.args.trace.now c.args.search.now _ _ _ c.args.id c.index_mut-node_cursor.result.now c.judge.new.node_cursor _ _ c.from.ensures
    c.number.ensures.value c.requires c.index_mut-node_cursor.ensures.value c.in-Stops.is
    (c.in_ok-judge.ensures c.args.trace.now c.in-Some.ensures.some) (refl, refl)
    refl refl refl

pub returns-in-Waits : goal.returns-in-Waits
returns-in-Waits c =
    turn_of c.args.trace.now c.args.search.now _ _ _ c.args.id c.index_mut-node_cursor.result.now c.judge.new.node_cursor _ _ c.from.ensures
    c.number.ensures.value c.requires c.index_mut-node_cursor.ensures.value c.in-Waits.is
    (c.in_ok-judge.ensures c.args.trace.now c.in-Some.ensures.some) (refl, refl)
    refl refl refl

pub returns-in_ok-post_all-in-Takes : goal.returns-in_ok-post_all-in-Takes
returns-in_ok-post_all-in-Takes c =
    let d = c.args.search.now in
    turn_of c.args.trace.now d _ _ _ c.args.id c.index_mut-node_cursor.result.now c.judge.new.node_cursor _ _ c.from.ensures
    c.number.ensures.value c.requires c.index_mut-node_cursor.ensures.value c.in-Takes.is
    (c.in_ok-judge.ensures c.args.trace.now c.in-Some.ensures.some)
    (λ k next. subst (λ (ms : List Envelope). PostsAll d.stopped d.posted c.post_all.new.posted d.ready c.post_all.new.ready ms)
    (c.sent.ensures ∙ ap (λ (x : Claim). x.sent) (same_Some _ _ (sym c.in-Some.ensures.some ∙ next))) c.in_ok-post_all-in-Takes.ensures)
    refl refl refl
