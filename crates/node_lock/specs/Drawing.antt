-- The numbers that the turns of all nodes draw, in the order in which they are drawn.
use Rattle.std.specs.Prelude.{ℕ, ◌≡◌, ◌+◌, ◌%◌, ◌^◌, ◌<◌, ◌==◌, nat_lt, ⊤, if◌then◌else◌, List, [], ◌∷◌, ◌++◌}
use Rattle.std.specs.List.{AllByRecursion}
use Rattle.atomic_table.specs.Seated.{TableId}
use Rattle.atomic_table.specs.Table.{Me, State, Step}
use Rattle.node_lock.specs.declared.turn_numbers.Drawn.{Drawn}

-- a counter, as proofs tell it from any other one: by its table
abbrev pub Counter : Type 0
Counter = TableId

-- the numbers of a node: the counter that it draws from, and those that it drew, the last of them first
pub record Numbers : Type 0 where
  pub counter : Counter
  pub drawn : List ℕ

-- each of the numbers is below the one before it, and the first below the bound
abbrev pub IsFalling : ℕ → List ℕ → Type 0
IsFalling bound [] = ⊤
IsFalling bound (n ∷ ns) = (n < bound) × IsFalling n ns

-- how often x stands in the list
abbrev pub times : ℕ → List ℕ → ℕ
times x [] = 0
times x (n ∷ ns) = (if n == x then 1 else 0) + times x ns

-- how often it was drawn by all nodes
abbrev pub times_by_all : ℕ → List Drawn → ℕ
times_by_all x [] = 0
times_by_all x (v ∷ vs) = times x v.numbers + times_by_all x vs

abbrev pub nothing_drawn : Drawn
nothing_drawn = record { numbers = [] }

-- so many numbers were drawn: each below that count once, and no other one. Those of each node rise
pub record AreDrawn (s : State (Unit {0}) Drawn) : Type 0 where
  pub count : ℕ
  pub word : s.words ≡ count % 2 ^ 64 ∷ []
  pub once : (x : ℕ) → times_by_all x s.views ≡ (if nat_lt x count then 1 else 0)
  pub falling : AllByRecursion (λ (v : Drawn). IsFalling count v.numbers) s.views

-- the node drew the next of all numbers
abbrev pub draws_next : Step (Unit {0}) → Me (Unit {0}) Drawn → ℕ → Me (Unit {0}) Drawn → Type 0
draws_next st m r m' = (count : ℕ) × (r ≡ count % 2 ^ 64) × (m'.0 ≡ record { numbers = count ∷ m.0.numbers }) × IsFalling count m.0.numbers

-- the number is the next of all, after those that the node drew before
pub record Draws (old : List ℕ) (number : ℕ) (new : List ℕ) : Type 0 where
  pub count : ℕ
  pub drawn : new ≡ count ∷ old
  pub falling : IsFalling count old
  pub is_count : count < 2 ^ 32 → number ≡ count

-- a number was drawn, of the same counter
pub record DrawsNext (old : Numbers) (number : ℕ) (new : Numbers) : Type 0 where
  pub counter : new.counter ≡ old.counter
  pub draws : Draws old.drawn number new.drawn

-- a turn was given the number that it drew, behind those of the turns before
pub record IsGiven (drawn new_drawn numbers new_numbers : List ℕ) : Type 0 where
  pub number : ℕ
  pub draws : Draws drawn number new_drawn
  pub given : new_numbers ≡ numbers ++ number ∷ []

-- the turns of a node have the numbers that it drew, the last of which stands first among these
abbrev pub AreGiven : List ℕ → List ℕ → Type 0
AreGiven [] numbers = numbers ≡ []
AreGiven (n ∷ ns) numbers = (number : ℕ) × (before : List ℕ) × (numbers ≡ before ++ number ∷ []) × (n < 2 ^ 32 → number ≡ n)
    × AreGiven ns before

-- the numbers of a node's turns are those that it drew, in their order, and rise
pub record HaveNumbers (drawn numbers : List ℕ) : Type 0 where
  pub bound : ℕ
  pub falling : IsFalling bound drawn
  pub given : AreGiven drawn numbers
