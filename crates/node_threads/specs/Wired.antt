-- The links before a run: an end of each, which nothing went through, at its node.
use Rattle.std.specs.Prelude.{◌≡◌, ◌≢◌, ℕ, ◌+◌, ◌<◌, ◌≤◌, List, [], ◌∷◌, ◌++◌, All, length, slice_index_or}
use Rattle.link_ring.specs.Sides.{Side}
use Rattle.node_lock.specs.Drawing.{Counter}
use Rattle.node_lock.specs.HeldView.{HeldView, IsOther}
use Rattle.node_threads.specs.Nodes.{NodeEnds, no_ends}

-- so many nodes other than this one have numbers below the bound
abbrev pub AreBelow : ℕ → ℕ → ℕ → Type 0
AreBelow own bound many = (own < bound → many + 1 ≡ bound) × (bound ≤ own → many ≡ bound)

-- unused ends of links to the other nodes below the bound, in rising order
pub record PutsBelow (capacity own bound : ℕ) (ends : List Side) : Type 0 where
  pub len : AreBelow own bound (length ends)
  pub each : (k : ℕ) (d : Side) → k < length ends → ((slice_index_or ends k d).sender ≡ own)
      × ((slice_index_or ends k d).capacity ≡ capacity) × ((slice_index_or ends k d).messages ≡ [])
      × IsOther own k (slice_index_or ends k d).receiver

-- and of links from them
pub record TakesBelow (own bound : ℕ) (ends : List Side) : Type 0 where
  pub len : AreBelow own bound (length ends)
  pub each : (k : ℕ) (d : Side) → k < length ends → ((slice_index_or ends k d).receiver ≡ own) × ((slice_index_or ends k d).messages ≡ [])
      × IsOther own k (slice_index_or ends k d).sender

-- so many nodes, and no link
pub record AreUnlinked (nodes : ℕ) (ends : List NodeEnds) : Type 0 where
  pub count : length ends ≡ nodes
  pub each : (n : ℕ) (d : NodeEnds) → n < nodes → slice_index_or ends n d ≡ no_ends

-- the links from the senders below the bound are there
pub record AreWiredBelow (nodes capacity bound : ℕ) (ends : List NodeEnds) : Type 0 where
  pub count : length ends ≡ nodes
  pub puts : (n : ℕ) (d : NodeEnds) → n < bound → PutsBelow capacity n nodes (slice_index_or ends n d).puts
  pub no_puts : (n : ℕ) (d : NodeEnds) → bound ≤ n → n < nodes → (slice_index_or ends n d).puts ≡ []
  pub takes : (n : ℕ) (d : NodeEnds) → n < nodes → TakesBelow n bound (slice_index_or ends n d).takes

-- all links are there
abbrev pub AreWired : ℕ → ℕ → List NodeEnds → Type 0
AreWired nodes capacity ends = AreWiredBelow nodes capacity nodes ends

-- an end was added to one node's links to others, and one to another one's from others
pub record AddedEnds (s r : ℕ) (p t : Side) (old new : List NodeEnds) : Type 0 where
  pub len : length new ≡ length old
  pub put : (d : NodeEnds) → (slice_index_or new s d).puts ≡ (slice_index_or old s d).puts ++ p ∷ []
  pub put_other : (d : NodeEnds) → (slice_index_or new s d).takes ≡ (slice_index_or old s d).takes
  pub take : (d : NodeEnds) → (slice_index_or new r d).takes ≡ (slice_index_or old r d).takes ++ t ∷ []
  pub take_other : (d : NodeEnds) → (slice_index_or new r d).puts ≡ (slice_index_or old r d).puts
  pub others : (k : ℕ) (d : NodeEnds) → k ≢ s → k ≢ r → slice_index_or new k d ≡ slice_index_or old k d

-- all nodes draw the numbers of their turns from this counter
abbrev pub HaveCounter : Counter → List HeldView → Type 0
HaveCounter counter held = All (λ (h : HeldView). h.counter ≡ counter) held

-- so many nodes, which draw the numbers of their turns from one counter
pub record AreHeld (nodes : ℕ) (held : List HeldView) : Type 0 where
  pub count : length held ≡ nodes
  pub counter : Counter
  pub numbers : HaveCounter counter held
