-- Delivery by what is kept is delivery by what was done.
use Rattle.std.proofs.Common.{◌≡◌, ℕ, zero, suc, Bool, true, false, List, [], ◌∷◌, ◌++◌, length, slice_get, refl, sym, ◌∙◌, ap, arith}
use Rattle.std.proofs.Common.{slice_index_or, append_assoc, Option, Some, None}
use Rattle.std.specs.Prelude.{◌==◌, ◌&&◌, ◌||◌, not, nat_lt, min, max, replicate}
use Rattle.std.proofs.lemmas.List.{append-nil, length-append, length-set}
use Rattle.group_task.specs.declared.node.TheConstants.{NODES}
use Rattle.group_task.specs.Ids.{has}
use Rattle.wire_msg.specs.Envelope.{Envelope}
use Rattle.sim_net.specs.Network.{Network, silent, is_cut, message_at, delivery}
use Rattle.sim_net.specs.Changes.{Change, Sends, Loses, Cuts, Mends, after_change, after_changes, sent_by, was_lost, same_pair, was_cut}
use Rattle.sim_net.specs.Changes.{delivered_as, AreOfNodes, DeliveredByChanges}
use Rattle.sim_net.proofs.Cuts.{cut_now, mended_now, not_lost_yet, lost_now}

all_sent : (cs : List Change) (net : Network) → (after_changes net cs).sent ≡ net.sent ++ sent_by cs
all_sent [] net = sym (append-nil net.sent)
all_sent (Sends m ∷ cs) net = all_sent cs (after_change net (Sends m)) ∙ append_assoc net.sent (m ∷ []) (sent_by cs)
all_sent (Loses k ∷ cs) net = all_sent cs (after_change net (Loses k))
all_sent (Cuts a b ∷ cs) net = all_sent cs (after_change net (Cuts a b))
all_sent (Mends a b ∷ cs) net = all_sent cs (after_change net (Mends a b))

or_regroup : (a b c : Bool) → (a || b) || c ≡ b || (a || c)
or_regroup true true c = refl
or_regroup true false c = refl
or_regroup false true c = refl
or_regroup false false c = refl

all_lost : (cs : List Change) (net : Network) (k n : ℕ) → length net.lost ≡ n
    → slice_index_or (after_changes net cs).lost k false ≡ slice_index_or net.lost k false || was_lost k n cs
all_lost [] net k n is = nothing_more (slice_index_or net.lost k false)
  where
    nothing_more : (b : Bool) → b ≡ b || false
    nothing_more true = refl
    nothing_more false = refl
all_lost (Sends m ∷ cs) net k n is =
    all_lost cs (after_change net (Sends m)) k (suc n) (omega (arith, is, length-append net.lost (false ∷ [])))
    ∙ ap (λ (b : Bool). b || was_lost k (suc n) cs) (not_lost_yet net.lost k)
all_lost (Loses j ∷ cs) net k n is =
    all_lost cs (after_change net (Loses j)) k n (length-set net.lost j true ∙ is)
    ∙ ap (λ (b : Bool). b || was_lost k n cs) (lost_now net.lost j k
    ∙ ap (λ (x : ℕ). (k == j && nat_lt k x) || slice_index_or net.lost k false) is)
    ∙ or_regroup (k == j && nat_lt k n) (slice_index_or net.lost k false) (was_lost k n cs)
all_lost (Cuts a b ∷ cs) net k n is = all_lost cs (after_change net (Cuts a b)) k n is
all_lost (Mends a b ∷ cs) net k n is = all_lost cs (after_change net (Mends a b)) k n is

all_cut : (cs : List Change) (net : Network) (a b : ℕ) (before : Bool) → length net.cuts ≡ NODES → AreOfNodes cs
    → is_cut net.cuts a b ≡ before → is_cut (after_changes net cs).cuts a b ≡ was_cut a b before cs
all_cut [] net a b before rows nodes is = is
all_cut (Sends m ∷ cs) net a b before rows nodes is = all_cut cs (after_change net (Sends m)) a b before rows nodes is
all_cut (Loses k ∷ cs) net a b before rows nodes is = all_cut cs (after_change net (Loses k)) a b before rows nodes is
all_cut (Cuts c d ∷ cs) net a b before rows nodes is =
    all_cut cs (after_change net (Cuts c d)) a b (same_pair a b c d || before) (length-set net.cuts _ _ ∙ rows) nodes.2
    (cut_now net.cuts a b c d (omega (arith, rows, nodes.0)) (omega (arith, rows, nodes.1)) ∙ ap (λ (t : Bool). same_pair a b c d || t) is)
all_cut (Mends c d ∷ cs) net a b before rows nodes is =
    all_cut cs (after_change net (Mends c d)) a b (not (same_pair a b c d) && before) (length-set net.cuts _ _ ∙ rows) nodes.2
    (mended_now net.cuts a b c d (omega (arith, rows, nodes.0)) (omega (arith, rows, nodes.1))
    ∙ ap (λ (t : Bool). not (same_pair a b c d) && t) is)

-- nothing is cut at the start
none_cut : (n i x : ℕ) → has (slice_index_or (replicate n []) i []) x ≡ false
none_cut zero i x = refl
none_cut (suc n) zero x = refl
none_cut (suc n) (suc i) x = none_cut n i x

delivered_same : (net : Network) (cs : List Change) (k : ℕ) (lost : Bool) (o : Option Envelope) → slice_index_or net.lost k false ≡ lost
    → slice_get net.sent k ≡ o
    → ((m : Envelope) → is_cut net.cuts m.sender m.receiver ≡ was_cut m.sender m.receiver false cs)
    → delivery net k ≡ delivered_as cs o lost
delivered_same net cs k lost None at sent same = rw (sent, delivery, message_at) refl
delivered_same net cs k true (Some m) at sent same = rw (sent, at, delivery, message_at) refl
delivered_same net cs k false (Some m) at sent same = rw (sent, at, same m, delivery, message_at) refl

pub delivered_by_changes : DeliveredByChanges
delivered_by_changes cs nodes k =
    let net : Network = after_changes silent cs in
    delivered_same net cs k (was_lost k 0 cs) (slice_get (sent_by cs) k) (all_lost cs silent k 0 refl)
    (ap (λ (ms : List Envelope). slice_get ms k) (all_sent cs silent))
    (λ m. all_cut cs silent m.sender m.receiver false refl nodes (none_cut NODES (min m.sender m.receiver) (max m.sender m.receiver)))
