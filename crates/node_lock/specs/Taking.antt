-- What a turn does to a node, to its links to the others and to its history.
use Rattle.std.specs.Prelude.{◌≡◌, ℕ, List, [], ◌∷◌, ◌++◌, length}
use Rattle.sector_disk.specs.Memory.{Memory}
use Rattle.link_ring.specs.Sides.{Side}
use Rattle.histories.specs.HistoryEvent.{Entry}
use Rattle.durable_node.specs.Node.{Node}
use Rattle.node_lock.specs.declared.worker.Worker.{Worker}
use Rattle.node_lock.specs.Asking.{Asked}
use Rattle.node_lock.specs.declared.turn.Site.{Site as Standing}
use Rattle.node_lock.specs.Doing.{StandsForSome, TurnDid}
use Rattle.node_lock.specs.HeldView.{AreEnds}
use Rattle.node_lock.specs.Sending.{NotesLost, SentOn, SameSides}
use Rattle.node_lock.specs.Drawing.{IsGiven}
use Rattle.node_lock.specs.Wearing.{AreaRises}
use Rattle.node_lock.specs.declared.turn_log.Loss.{Loss}
use Rattle.node_lock.specs.History.{Turn}

-- a node, the ends of its links to the others, the turns that were taken at it, which of their messages were lost, their numbers and those
-- that were drawn
pub record Site : Type 0 where
  pub node : Node Memory
  pub puts : List Side
  pub turns : List Turn
  pub lost : List Loss
  pub numbers : List ℕ
  pub drawn : List ℕ

abbrev pub site : Node Memory → List Side → List Turn → List Loss → List ℕ → List ℕ → Site
site node puts turns lost numbers drawn = record { node = node; puts = puts; turns = turns; lost = lost; numbers = numbers; drawn = drawn }

abbrev pub site_of : Standing → Site
site_of s = site s.node s.puts.items s.history.turns s.history.lost s.history.numbers s.numbers.drawn

-- the node stands for a state, and its links are to the others
abbrev pub IsReady : Standing → Type 0
IsReady s = StandsForSome s.node × AreEnds s.node.id s.puts.items

abbrev pub turn_of : Worker → ℕ → Entry → Turn
turn_of worker index e = record { worker = worker; index = index; entry = e }

-- the node did what was asked, what it sent went onto the links, and just that is the history's next turn
pub record TookTurn (worker : Worker) (index : ℕ) (asked : Asked) (e : Entry) (old new : Site) : Type 0 where
  pub did : TurnDid old.node asked e.what e.sent new.node
  pub id : new.node.id ≡ old.node.id
  pub nodes : new.node.nodes ≡ old.node.nodes
  pub sent : SentOn e.sent old.puts new.puts
  pub turns : new.turns ≡ old.turns ++ turn_of worker index e ∷ []
  pub lost : NotesLost (length old.turns) e.sent old.lost new.lost old.puts new.puts
  pub number : IsGiven old.drawn new.drawn old.numbers new.numbers
  pub area : AreaRises old.node.disk new.node.disk e.what

-- no turn was taken: nothing changed but room, and no mounting is shown
pub record TookNone (old new : Site) : Type 0 where
  pub node : new.node ≡ record old.node { mounted = new.node.mounted }
  pub puts : SameSides old.puts new.puts
  pub turns : new.turns ≡ old.turns
  pub lost : new.lost ≡ old.lost
  pub numbers : new.numbers ≡ old.numbers
  pub drawn : new.drawn ≡ old.drawn
