-- The tasks that all nodes made are one book, which agrees with all moments.
use Rattle.std.proofs.Common.{◌≡◌, ◌≢◌, ℕ, zero, suc, ◌+◌, ◌<◌, true, false, List, [], ◌∷◌, ◌++◌, length, refl, sym, ◌∙◌, ap, subst, inl}
use Rattle.std.proofs.Common.{inr, arith, Option, Some, None, slice_get}
use Rattle.std.proofs.lemmas.Bool.Decides.{nat_tests}
use Rattle.group_task.specs.Group.{Group, same_group}
use Rattle.group_task.specs.Assignment.{Assignment}
use Rattle.group_task.proofs.PublicLaws.{with_has_same}
use Rattle.wire_msg.specs.Envelope.{Envelope}
use Rattle.wire_msg.specs.declared.body.Body.TheVariants.{Ready}
use Rattle.node_core.specs.declared.phase.Phase.{Phase}
use Rattle.node_core.specs.declared.phase.Phase.TheVariants.{Reorganization, Normal}
use Rattle.node_core.specs.State.{State}
use Rattle.node_core.specs.Words.{own_group, task_of}
use Rattle.histories.specs.Lists.{IsAmong}
use Rattle.histories.specs.NodeState.{opening}
use Rattle.histories.specs.HistoryEvent.{Entry}
use Rattle.histories.specs.History.{brought_in, sent_in, Follows, counts_given}
use Rattle.histories.specs.Rising.{Rises, EachRises}
use Rattle.histories.specs.Bundle.{Bundle}
use Rattle.histories.specs.Book.{members_in, IsTaskOf, AgreesAt, OneBook, OneCoordinator, OneTask}
use Rattle.histories.proofs.Tests.{same_group_self}
use Rattle.histories.proofs.Among.{sent_by_one, each_at}
use Rattle.histories.proofs.Lives.{Ordered, Placed, PlacedAt, Life, life, Tells}

-- a history was told the task by the creator of its group
pub record WasTold (h : List Entry) (t : Assignment) : Type 0 where
  pub by : Envelope
  pub brought : IsAmong by (brought_in h)
  pub says : by.body ≡ Ready t
  pub from_creator : by.sender ≡ t.group.creator

abbrev pub first_task : ℕ → Assignment
first_task n = task_of (own_group n 1) (n ∷ [])

abbrev pub WholeLife : ℕ → ℕ → List Entry → Type 0
WholeLife n nodes h = Life n nodes (opening n) h (first_task n ∷ []) (WasTold h)

whole_life : (n nodes : ℕ) (h : List Entry) → Follows n nodes (opening n) h → Rises 1 (counts_given n nodes (opening n) h)
    → WholeLife n nodes h
whole_life n nodes h follows rises = life n nodes (opening n) h 1 (first_task n ∷ []) (WasTold h) follows rises
    (λ m t i body sender. record { by = m; brought = i; says = body; from_creator = sender }) (
      (refl, omega arith, tt),
      refl,
      record {
        held = first_task n;
        is_held = refl;
        in_group = refl;
        is_member = with_has_same [] n;
        known =
            inl (inl refl);
      },
    )

-- one life for each history, the first that of node n
abbrev pub Lives : ℕ → ℕ → List (List Entry) → Type 0
Lives n nodes [] = Unit {0}
Lives n nodes (h ∷ hs) = WholeLife n nodes h × Lives (suc n) nodes hs

-- the tasks that all made
abbrev pub all_tasks : (n nodes : ℕ) (hs : List (List Entry)) → Lives n nodes hs → List Assignment
all_tasks n nodes [] lives = []
all_tasks n nodes (h ∷ hs) lives = lives.0.all ++ all_tasks (suc n) nodes hs lives.1

other_group : (g h : Group) → g.creator ≢ h.creator → same_group g h ≡ false
other_group g h ne = grind (arith, nat_tests)

other_count : (g h : Group) → h.count < g.count → same_group g h ≡ false
other_count g h lt = grind (arith, nat_tests)

-- the tasks of other creators aren't looked at
skip_others : (self limit : ℕ) (ts us : List Assignment) (g : Group) → Ordered self limit ts → g.creator ≢ self
    → members_in (ts ++ us) g ≡ members_in us g
skip_others self limit [] us g ordered ne = refl
skip_others self limit (t ∷ ts) us g ordered ne =
    let other : same_group t.group g ≡ false = other_group t.group g (λ e. ne (sym e ∙ ordered.0)) in
    rw other (skip_others self t.group.count ts us g ordered.2 ne)

below_limit : (self limit : ℕ) (ts : List Assignment) (t : Assignment) → Ordered self limit ts → IsAmong t ts
    → (t.group.creator ≡ self) × (t.group.count < limit)
below_limit self limit [] t ordered i = absurd i
below_limit self limit (x ∷ ts) t ordered i = elim i [
  | inl e ↦ rw e (ordered.0, ordered.1)
  | inr j ↦ (let rest = below_limit self x.group.count ts t ordered.2 j in (rest.0, omega (arith, rest.1, ordered.1)))
]

-- each of the tasks stands under its group
under_group : (self limit : ℕ) (ts us : List Assignment) (t : Assignment) → Ordered self limit ts → IsAmong t ts
    → members_in (ts ++ us) t.group ≡ Some t.members
under_group self limit [] us t ordered i = absurd i
under_group self limit (x ∷ ts) us t ordered i = elim i [
  | inl e ↦ (let same : same_group x.group t.group ≡ true = rw e (same_group_self x.group) in
      rw same (ap (λ (y : Assignment). Some y.members) (sym e)))
  | inr j ↦ (let other : same_group x.group t.group ≡ false =
      other_count x.group t.group (below_limit self x.group.count ts t ordered.2 j).1 in
      rw other (under_group self x.group.count ts us t ordered.2 j))
]

-- a history's life, whose tasks stand in the book
pub record Page (book : List Assignment) (node nodes : ℕ) (h : List Entry) : Type 0 where
  pub lived : WholeLife node nodes h
  pub in_book : (t : Assignment) → IsAmong t lived.all → members_in book t.group ≡ Some t.members

-- what stands in a later node's part stands in the whole
later_page : (n nodes : ℕ) (x : List Entry) (hs : List (List Entry)) (lives : Lives n nodes (x ∷ hs)) (m : ℕ) (h : List Entry) → n < m
    → Page (all_tasks (suc n) nodes hs lives.1) m nodes h → Page (all_tasks n nodes (x ∷ hs) lives) m nodes h
later_page n nodes x hs lives m h lt page = record {
  lived = page.lived;
  in_book = λ t i.
      let creator = (below_limit m (page.lived.last + 1) page.lived.all t page.lived.ordered i).0 in
      skip_others n (lives.0.last + 1) lives.0.all (all_tasks (suc n) nodes hs lives.1) t.group lives.0.ordered (λ e.
      absurd (omega (arith, e, creator, lt)))
      ∙ page.in_book t i;
}

page_of : (n nodes : ℕ) (hs : List (List Entry)) (lives : Lives n nodes hs) (k : ℕ) (h : List Entry) → slice_get hs k ≡ Some h → (m : ℕ)
    → m ≡ n + k
    → Page (all_tasks n nodes hs lives) m nodes h
page_of n nodes [] lives k h at m is = absurd cc
page_of n nodes (x ∷ hs) lives zero h at m is =
    let same : x ≡ h = cc at in
    let first : Page (all_tasks n nodes (x ∷ hs) lives) n nodes x = record {
      lived = lives.0;
      in_book = λ t i. under_group n (lives.0.last + 1) lives.0.all (all_tasks (suc n) nodes hs lives.1) t lives.0.ordered i;
    } in
    let number : n ≡ m = omega (arith, is) in
    subst (λ (j : ℕ). Page (all_tasks n nodes (x ∷ hs) lives) j nodes h) number
    (subst (λ (y : List Entry). Page (all_tasks n nodes (x ∷ hs) lives) n nodes y) same first)
page_of n nodes (x ∷ hs) lives (suc k) h at m is =
    later_page n nodes x hs lives m h (omega (arith, is)) (page_of (suc n) nodes hs lives.1 k h at m (omega (arith, is)))

-- what a bundle gives for each node
abbrev pub Each : ℕ → ℕ → List (List Entry) → Type 0
Each n nodes hs = (k : ℕ) (h : List Entry) → slice_get hs k ≡ Some h → (m : ℕ) → m ≡ n + k
    → Follows m nodes (opening m) h × Rises 1 (counts_given m nodes (opening m) h)

pub lives_of : (n nodes : ℕ) (hs : List (List Entry)) → Each n nodes hs → Lives n nodes hs
lives_of n nodes [] each = tt
lives_of n nodes (h ∷ hs) each =
    let first = each 0 h refl n (omega arith) in
    (whole_life n nodes h first.0 first.1, lives_of (suc n) nodes hs (λ k x at m is. each (suc k) x at m (omega (arith, is))))

pub each_of : (hs : List (List Entry)) → Bundle hs → EachRises hs → Each 0 (length hs) hs
each_of hs bundle rises k h at m is =
    let number : k ≡ m = omega (arith, is) in
    subst (λ (j : ℕ). Follows j (length hs) (opening j) h × Rises 1 (counts_given j (length hs) (opening j) h)) number
    (bundle.follows k h at, rises k h at)

abbrev pub the_lives : (hs : List (List Entry)) → Bundle hs → EachRises hs → Lives 0 (length hs) hs
the_lives hs bundle rises = lives_of 0 (length hs) hs (each_of hs bundle rises)

pub book_of : (hs : List (List Entry)) → Bundle hs → EachRises hs → List Assignment
book_of hs bundle rises = all_tasks 0 (length hs) hs (the_lives hs bundle rises)

the_page : (hs : List (List Entry)) (bundle : Bundle hs) (rises : EachRises hs) (n : ℕ) (h : List Entry) → slice_get hs n ≡ Some h
    → Page (book_of hs bundle rises) n (length hs) h
unfolding book_of
the_page hs bundle rises n h at = page_of 0 (length hs) hs (the_lives hs bundle rises) n h at n (omega arith)

-- what was told stands in the book
told_in_book : (hs : List (List Entry)) (bundle : Bundle hs) (rises : EachRises hs) (n : ℕ) (h : List Entry) → slice_get hs n ≡ Some h
    → (t : Assignment) → WasTold h t
    → members_in (book_of hs bundle rises) t.group ≡ Some t.members
told_in_book hs bundle rises n h at t told =
    let sent = sent_by_one told.by hs (bundle.delivers n h at told.by told.brought) in
    let page = the_page hs bundle rises sent.node sent.history sent.at in
    page.in_book t (each_at (Tells sent.node page.lived.all) (sent_in sent.history) told.by page.lived.tells sent.sent t told.says).1

placed_agrees : (book : List Assignment) (n : ℕ) (v : State) (all : List Assignment) (Told : Assignment → Type 0)
    → ((t : Assignment) → IsAmong t all → members_in book t.group ≡ Some t.members)
    → ((t : Assignment) → Told t → members_in book t.group ≡ Some t.members)
    → PlacedAt n v all Told → AgreesAt book n v
placed_agrees book n v all Told made told h = (
  λ in_it. elim in_it [ inl is ↦ placed Reorganization is | inr is ↦ (placed Normal is).0 ],
  λ is.
      let task = (placed Normal is).1 in
      let members : members_in book task.held.group ≡ Some task.held.members =
      elim task.known [ inl i ↦ made task.held i | inr w ↦ told task.held w ] in
      rw task.is_held (
        task.in_group,
        subst (λ (g : Group). members_in book g ≡ Some task.held.members) task.in_group members,
        task.is_member,
      ),
)
  where
    placed : (phase : Phase) → v.phase ≡ phase → Placed n phase v.coordinator v.group v.task all Told
    placed phase is = subst (λ (p : Phase). Placed n p v.coordinator v.group v.task all Told) is h

pub one_book : OneBook
one_book hs bundle rises = (
  book_of hs bundle rises,
  λ n v moment.
      let page = the_page hs bundle rises n moment.0 moment.1 in
      placed_agrees (book_of hs bundle rises) n v page.lived.all (WasTold moment.0) page.in_book
      (told_in_book hs bundle rises n moment.0 moment.1)
      (page.lived.moments v moment.2),
)

pub one_coordinator : OneCoordinator
one_coordinator hs bundle rises n m v w at_v at_w in_v in_w same =
    let agrees = (one_book hs bundle rises).1 in
    (agrees n v at_v).0 in_v ∙ (ap (λ (g : Group). g.creator) same ∙ sym ((agrees m w at_w).0 in_w))

-- two tasks of one group in one book
same_task : (book : List Assignment) (n m : ℕ) (group : Group) (t u : Option Assignment) → IsTaskOf book n group t → IsTaskOf book m group u
    → t ≡ u
same_task book n m group None u h k = absurd h
same_task book n m group (Some t) None h k = absurd k
same_task book n m group (Some t) (Some u) h k =
    let members : t.members ≡ u.members = cc (h.1, k.1) in
    let groups : t.group ≡ u.group = h.0 ∙ sym k.0 in
    λ i. Some (record { group = groups i; members = members i })

pub one_task : OneTask
one_task hs bundle rises n m v w at_v at_w in_v in_w same =
    let book = (one_book hs bundle rises).0 in
    let agrees = (one_book hs bundle rises).1 in
    same_task book n m w.group v.task w.task (subst (λ (g : Group). IsTaskOf book n g v.task) same ((agrees n v at_v).1 in_v))
    ((agrees m w at_w).1 in_w)
