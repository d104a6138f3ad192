use Rattle.std.proofs.Common.{◌≡◌, ℕ, List, Option, option_map, Bool, true, false, cond, refl, sym, ap, ◌∙◌}
use Rattle.std.proofs.lemmas.Option.{same_Some}
use Rattle.wire_msg.specs.Envelope.{Envelope}
use Rattle.group_task.specs.Ids.{has, with_id}
use Rattle.trace_check.proofs.Searches.{posts_one}
use Rattle.trace_check.proofs.search.post.Goals as goal

second : (b : Bool) (x y : List ℕ) → b ≡ false → y ≡ cond b x y
second true x y is = absurd cc
second false x y is = refl

pub returns-then-not-contains : goal.returns-then-not-contains
returns-then-not-contains c = λ m at.
    let stopped = c.args.stopped.now in
    let ready = c.args.ready.now in
    let same : c.in-Some.receiver ≡ m.receiver = same_Some _ _ (sym c.in-Some.is ∙ c.receiver.ensures
    ∙ ap (λ (o : Option Envelope). option_map (λ (e : Envelope). e.receiver) o) at) in
    posts_one stopped c.args.posted.now c.add.new.self ready c.insert.new.self m (c.in_ok-add.ensures m at)
    (c.insert.ensures ∙ ap (λ (n : ℕ). with_id ready n) same
    ∙ second (has stopped m.receiver) ready (with_id ready m.receiver)
    (ap (λ (n : ℕ). has stopped n) (sym same) ∙ sym c.contains.ensures ∙ c.if-not-contains.true))

first : (b : Bool) (x y : List ℕ) → b ≡ true → x ≡ cond b x y
first true x y is = refl
first false x y is = absurd cc

pub returns-else-not-contains : goal.returns-else-not-contains
returns-else-not-contains c = λ m at.
    let stopped = c.args.stopped.now in
    let ready = c.args.ready.now in
    let same : c.in-Some.receiver ≡ m.receiver = same_Some _ _ (sym c.in-Some.is ∙ c.receiver.ensures
    ∙ ap (λ (o : Option Envelope). option_map (λ (e : Envelope). e.receiver) o) at) in
    posts_one stopped c.args.posted.now c.add.new.self ready ready m (c.in_ok-add.ensures m at)
    (first (has stopped m.receiver) ready (with_id ready m.receiver) (ap (λ (n : ℕ). has stopped n) (sym same) ∙ sym c.contains.ensures
    ∙ c.if-not-contains.false))
