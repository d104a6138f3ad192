-- A cluster over files as a bundle of histories that begin at the common opening.
use Rattle.std.proofs.Common.{◌≡◌, ℕ, zero, suc, ◌+◌, false, List, [], ◌∷◌, length, slice_get, refl, sym, ap, subst, arith, Some}
use Rattle.wire_msg.specs.Envelope.{Envelope}
use Rattle.node_core.specs.State.{State, is_down}
use Rattle.histories.specs.Lists.{IsAmong}
use Rattle.histories.specs.NodeState.{opening}
use Rattle.histories.specs.HistoryEvent.{Entry}
use Rattle.histories.specs.History.{Follows, brought_in, vectors}
use Rattle.histories.specs.Bundle.{Bundle, sent_by_all}
use Rattle.histories.specs.Moments.{IsMoment}
use Rattle.histories.proofs.PublicLaws.{each_of, sent_of_one}
use Rattle.processes.specs.Files.{FileHistory, AreOverFiles, IsMomentOf, WasSent, at_first}
use Rattle.processes.proofs.Embedding.{Embedded, embedded}

-- one for each node, the first that of node n
abbrev pub AllEmbedded : ℕ → ℕ → List FileHistory → Type 0
AllEmbedded n nodes [] = Unit {0}
AllEmbedded n nodes (x ∷ xs) = Embedded n nodes (at_first n x.file) x.entries × AllEmbedded (suc n) nodes xs

abbrev pub others : (n nodes : ℕ) (xs : List FileHistory) → AllEmbedded n nodes xs → List (List Entry)
others n nodes [] all = []
others n nodes (x ∷ xs) all = all.0.other ∷ others (suc n) nodes xs all.1

all_embedded : (n nodes : ℕ) (xs : List FileHistory) → ((k m : ℕ) (x : FileHistory) → slice_get xs k ≡ Some x → m ≡ n + k
    → Embedded m nodes (at_first m x.file) x.entries) → AllEmbedded n nodes xs
all_embedded n nodes [] each = tt
all_embedded n nodes (x ∷ xs) each = (
  each 0 n x refl (omega arith),
  all_embedded (suc n) nodes xs (λ k m y at is. each (suc k) m y at (omega (arith, is))),
)

as_many : (n nodes : ℕ) (xs : List FileHistory) (all : AllEmbedded n nodes xs) → length (others n nodes xs all) ≡ length xs
as_many n nodes [] all = refl
as_many n nodes (x ∷ xs) all = ap suc (as_many (suc n) nodes xs all.1)

-- the history at a place
record OtherAt (n nodes : ℕ) (xs : List FileHistory) (all : AllEmbedded n nodes xs) (k m : ℕ) (x : FileHistory) : Type 0 where
  one : Embedded m nodes (at_first m x.file) x.entries
  at : slice_get (others n nodes xs all) k ≡ Some one.other

other_at : (n nodes : ℕ) (xs : List FileHistory) (all : AllEmbedded n nodes xs) (k m : ℕ) (x : FileHistory) → slice_get xs k ≡ Some x
    → m ≡ n + k → OtherAt n nodes xs all k m x
other_at n nodes [] all k m x at is = absurd cc
other_at n nodes (y ∷ xs) all zero m x at is =
    let same : y ≡ x = cc at in
    let number : n ≡ m = omega (arith, is) in
    subst (λ (j : ℕ). OtherAt n nodes (y ∷ xs) all 0 j x) number
    (subst (λ (z : FileHistory). OtherAt n nodes (y ∷ xs) all 0 n z) same (record { one = all.0; at = refl }))
other_at n nodes (y ∷ xs) all (suc k) m x at is = (let it = other_at (suc n) nodes xs all.1 k m x at (omega (arith, is)) in
    record { one = it.one; at = it.at })

-- and the node that it is of
record NodeAt (n nodes : ℕ) (xs : List FileHistory) (k m : ℕ) (h : List Entry) : Type 0 where
  node : FileHistory
  at : slice_get xs k ≡ Some node
  one : Embedded m nodes (at_first m node.file) node.entries
  is : one.other ≡ h

node_at : (n nodes : ℕ) (xs : List FileHistory) (all : AllEmbedded n nodes xs) (k m : ℕ) (h : List Entry)
    → slice_get (others n nodes xs all) k ≡ Some h → m ≡ n + k → NodeAt n nodes xs k m h
node_at n nodes [] all k m h at is = absurd cc
node_at n nodes (y ∷ xs) all zero m h at is =
    let number : n ≡ m = omega (arith, is) in
    subst (λ (j : ℕ). NodeAt n nodes (y ∷ xs) 0 j h) number (record { node = y; at = refl; one = all.0; is = cc at })
node_at n nodes (y ∷ xs) all (suc k) m h at is = (let it = node_at (suc n) nodes xs all.1 k m h at (omega (arith, is)) in
    record { node = it.node; at = it.at; one = it.one; is = it.is })

-- ---- the bundle

-- a bundle that covers the cluster
pub record Covering (cluster : List FileHistory) : Type 0 where
  pub histories : List (List Entry)
  pub bundle : Bundle histories
  pub moments : (n : ℕ) (v : State) → IsMomentOf cluster n v → is_down v.phase ≡ false → IsMoment histories n v

abbrev each_embedded : (cluster : List FileHistory) → AreOverFiles cluster → AllEmbedded 0 (length cluster) cluster
each_embedded cluster over =
    all_embedded 0 (length cluster) cluster (λ k m x at is.
    (let place : k ≡ m = omega (arith, is) in
    embedded m (length cluster) x.file x.entries (over.files k x at)
    (subst (λ (j : ℕ). Follows j (length cluster) (at_first j x.file) x.entries) place (over.follows k x at))))

-- what one of the nodes sent, all of these histories send
sent_there : (cluster : List FileHistory) (all : AllEmbedded 0 (length cluster) cluster) (m : Envelope) → WasSent cluster m
    → IsAmong m (sent_by_all (others 0 (length cluster) cluster all))
sent_there cluster all m sent =
    let it = other_at 0 (length cluster) cluster all sent.0 sent.0 sent.1 sent.2 (omega arith) in
    sent_of_one m (others 0 (length cluster) cluster all) sent.0 it.one.other it.at (it.one.covers.sends m sent.3)

bundle_of : (cluster : List FileHistory) (over : AreOverFiles cluster) (all : AllEmbedded 0 (length cluster) cluster)
    (hs : List (List Entry)) → others 0 (length cluster) cluster all ≡ hs → length hs ≡ length cluster → Bundle hs
bundle_of cluster over all hs is many = record {
  follows = λ n h at. (let it = found n h at in
      subst (λ (x : List Entry). Follows n (length hs) (opening n) x) it.is
      (subst (λ (k : ℕ). Follows n k (opening n) it.one.other) (sym many) it.one.covers.follows));
  delivers = λ n h at m i. (let it = found n h at in
      let takes = it.one.covers.takes m (subst (λ (x : List Entry). IsAmong m (brought_in x)) (sym it.is) i) in
      subst (λ (x : List (List Entry)). IsAmong m (sent_by_all x)) is (sent_there cluster all m (over.delivers n it.node it.at m takes.0)));
  addressed = λ n h at. (let it = found n h at in
      each_of (λ (m : Envelope). m.receiver ≡ n) (brought_in h)
      (λ m i. (it.one.covers.takes m (subst (λ (x : List Entry). IsAmong m (brought_in x)) (sym it.is) i)).1));
}
  where
    found : (n : ℕ) (h : List Entry) → slice_get hs n ≡ Some h → NodeAt 0 (length cluster) cluster n n h
    found n h at = node_at 0 (length cluster) cluster all n n h (subst (λ (x : List (List Entry)). slice_get x n ≡ Some h) (sym is) at)
        (omega arith)

pub covering : (cluster : List FileHistory) → AreOverFiles cluster → Covering cluster
covering cluster over =
    let all = each_embedded cluster over in
    let many = as_many 0 (length cluster) cluster all in record {
      histories = others 0 (length cluster) cluster all;
      bundle = bundle_of cluster over all (others 0 (length cluster) cluster all) refl many;
      moments = λ n v moment up. (let it = other_at 0 (length cluster) cluster all n n moment.0 moment.1 (omega arith) in (
        it.one.other,
        it.at,
        subst (λ (k : ℕ). IsAmong v (vectors n k (opening n) it.one.other)) (sym many)
            (it.one.covers.moments v moment.2 up),
      ));
    }
