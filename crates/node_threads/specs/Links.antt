-- The links after a run: the two ends of each, put together.
use Rattle.std.specs.Prelude.{◌≡◌, ◌≢◌, ℕ, ◌+◌, ◌*◌, ◌-◌, List, ◌∷◌, length, slice_get, slice_index_or, Some}
use Rattle.link_ring.specs.Sides.{Side, Paired}
use Rattle.link_ring.specs.declared.gathering.LinkEnd.{LinkEnd}
use Rattle.histories.specs.Lists.{IsAmong}
use Rattle.node_lock.specs.HeldView.{IsOther}
use Rattle.node_threads.specs.Nodes.{NodeEnds}

-- the link was gathered of an end of one node and an end of another one
pub record IsLinkOf (from to : NodeEnds) (link : LinkEnd) : Type 0 where
  pub put_end : Side
  pub take_end : Side
  pub is_put : IsAmong put_end from.puts
  pub is_take : IsAmong take_end to.takes
  pub paired : Paired put_end take_end
  pub sender : link.sender ≡ put_end.sender
  pub receiver : link.receiver ≡ put_end.receiver
  pub put : link.put.messages ≡ put_end.messages
  pub taken : link.taken.messages ≡ take_end.messages

-- a link for each ordered pair of different nodes, by sender and then receiver
pub record AreGathered (ends : List NodeEnds) (links : List LinkEnd) : Type 0 where
  pub count : length links ≡ length ends * (length ends - 1)
  pub each : (i k j : ℕ) (from to : NodeEnds) → slice_get ends i ≡ Some from → slice_get ends j ≡ Some to → IsOther i k j
      → (link : LinkEnd) × (slice_get links (i * (length ends - 1) + k) ≡ Some link) × IsLinkOf from to link

-- the next end of one node's links to others was taken out, and that of another one's from others
pub record TookEnds (s r : ℕ) (p t : Side) (old new : List NodeEnds) : Type 0 where
  pub len : length new ≡ length old
  pub put : (d : NodeEnds) → (slice_index_or old s d).puts ≡ p ∷ (slice_index_or new s d).puts
  pub put_other : (d : NodeEnds) → (slice_index_or new s d).takes ≡ (slice_index_or old s d).takes
  pub take : (d : NodeEnds) → (slice_index_or old r d).takes ≡ t ∷ (slice_index_or new r d).takes
  pub take_other : (d : NodeEnds) → (slice_index_or new r d).puts ≡ (slice_index_or old r d).puts
  pub others : (k : ℕ) (d : NodeEnds) → k ≢ s → k ≢ r → slice_index_or new k d ≡ slice_index_or old k d

-- what is left of a node's ends
pub record IsPartOf (left ends : NodeEnds) : Type 0 where
  pub puts : (x : Side) → IsAmong x left.puts → IsAmong x ends.puts
  pub takes : (x : Side) → IsAmong x left.takes → IsAmong x ends.takes

-- what is left of the ends of all nodes
pub record AreParts (left ends : List NodeEnds) : Type 0 where
  pub len : length left ≡ length ends
  pub each : (n : ℕ) (l e : NodeEnds) → slice_get left n ≡ Some l → slice_get ends n ≡ Some e → IsPartOf l e

-- the links that were there stay
abbrev pub StartsWith : List LinkEnd → List LinkEnd → Type 0
StartsWith more links = (p : ℕ) (link : LinkEnd) → slice_get links p ≡ Some link → slice_get more p ≡ Some link

-- the links from one node to each other one were added
pub record GatheredMore (sender : ℕ) (ends left : List NodeEnds) (links more : List LinkEnd) : Type 0 where
  pub parts : AreParts left ends
  pub len : length more ≡ length links + (length ends - 1)
  pub stay : StartsWith more links
  pub each : (k j : ℕ) (from to : NodeEnds) → slice_get ends sender ≡ Some from → slice_get ends j ≡ Some to → IsOther sender k j
      → (link : LinkEnd) × (slice_get more (length links + k) ≡ Some link) × IsLinkOf from to link
