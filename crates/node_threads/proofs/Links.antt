-- The links are made one after another before the run, and gathered one after another behind it.
use Rattle.std.proofs.Common.{◌≡◌, ◌≢◌, ℕ, ◌+◌, ◌<◌, ◌≤◌, List, [], ◌∷◌, ◌++◌, length, slice_index_or, refl, ap, sym, ◌∙◌, subst, inl, inr}
use Rattle.std.proofs.Common.{arith, ◌*◌, ◌-◌, Some, slice_get}
use Rattle.std.proofs.lemmas.Bool.{cases_eq, cases_lt}
use Rattle.std.proofs.lemmas.List.{length-append, get_or_append_left, get_or_push}
use Rattle.std.proofs.lemmas.List.Elements.{All-push}
use Rattle.std.proofs.lemmas.Option.{slice_get_within, get_or_from_slice_get, same_Some}
use Rattle.link_ring.specs.Sides.{Ring, Side, unused, unused_put}
use Rattle.link_ring.specs.declared.gathering.LinkEnd.{LinkEnd}
use Rattle.histories.specs.Lists.{IsAmong}
use Rattle.node_lock.specs.Drawing.{Counter}
use Rattle.node_lock.specs.HeldView.{HeldView, IsOther}
use Rattle.node_threads.specs.Nodes.{NodeEnds, no_ends}
use Rattle.node_threads.proofs.Places.{at_or_before, place_of, get_more, get_last}
use Rattle.node_threads.specs.Wired.{AreBelow, PutsBelow, TakesBelow, AreUnlinked, AreWiredBelow, AddedEnds, HaveCounter}
use Rattle.node_threads.specs.Links.{IsLinkOf, IsPartOf, AreGathered, AreParts, StartsWith, GatheredMore, TookEnds}

-- the links from the nodes below the sender are there, and those from the sender to the nodes below the receiver
pub record IsWiring (nodes capacity sender receiver : ℕ) (ends : List NodeEnds) : Type 0 where
  pub count : length ends ≡ nodes
  pub before : (n : ℕ) (d : NodeEnds) → n < sender → PutsBelow capacity n nodes (slice_index_or ends n d).puts
  pub puts : (d : NodeEnds) → PutsBelow capacity sender receiver (slice_index_or ends sender d).puts
  pub no_puts : (n : ℕ) (d : NodeEnds) → sender < n → n < nodes → (slice_index_or ends n d).puts ≡ []
  pub linked : (n : ℕ) (d : NodeEnds) → n < receiver → TakesBelow n (sender + 1) (slice_index_or ends n d).takes
  pub unlinked : (n : ℕ) (d : NodeEnds) → receiver ≤ n → n < nodes → TakesBelow n sender (slice_index_or ends n d).takes

-- ---- one node's list

no_puts_below : (capacity own : ℕ) (xs : List Side) → xs ≡ [] → PutsBelow capacity own 0 xs
no_puts_below capacity own xs none = subst (PutsBelow capacity own 0) (sym none)
    (record { len = (λ below. absurd (omega (arith, below)), λ above. refl); each = λ k d lt. absurd (omega (arith, lt)) })

no_takes_below : (own : ℕ) (xs : List Side) → xs ≡ [] → TakesBelow own 0 xs
no_takes_below own xs none = subst (TakesBelow own 0) (sym none)
    (record { len = (λ below. absurd (omega (arith, below)), λ above. refl); each = λ k d lt. absurd (omega (arith, lt)) })

-- the node itself is passed over
itself : (own bound many : ℕ) → bound ≡ own → AreBelow own bound many → AreBelow own (bound + 1) many
itself own bound many same len = (λ below. omega (arith, same, len.1), λ above. absurd (omega (arith, same, above)))

one_more : (own bound many more : ℕ) → own ≢ bound → more ≡ many + 1 → AreBelow own bound many → AreBelow own (bound + 1) more
one_more own bound many more ne is len = (λ below. omega (arith, ne, is, len.0, len.1), λ above. omega (arith, ne, is, len.0, len.1))

next_other : (own bound many : ℕ) → own ≢ bound → AreBelow own bound many → IsOther own many bound
next_other own bound many ne len = elim (cases_lt own bound) [
  | inl lt ↦ (λ below. absurd (omega (arith, len.0 lt, lt, below)), λ above. omega (arith, len.0 lt))
  | inr ge ↦ (λ below. omega (arith, len.1 ge), λ above. absurd (ne (omega (arith, ge, above, len.1 ge))))
]

-- what holds of each at its place, with one more
each_pushed : {A : Type 0} (P : ℕ → A → Type 0) (xs : List A) (x : A) → ((k : ℕ) (d : A) → k < length xs → P k (slice_index_or xs k d))
    → P (length xs) x
    → (k : ℕ) (d : A) → k < length (xs ++ x ∷ []) → P k (slice_index_or (xs ++ x ∷ []) k d)
each_pushed P xs x all last k d lt = elim (at_or_before k (length xs) (omega (arith, lt, length-append xs (x ∷ [])))) [
  | inl before ↦ rw (get_or_append_left xs (x ∷ []) d k before) (all k d before)
  | inr at ↦ rw (get_or_push xs x d k (sym at)) (subst (λ (n : ℕ). P n x) (sym at) last)
]

puts_more : (ring : Ring) (capacity own bound : ℕ) (xs : List Side) → own ≢ bound → PutsBelow capacity own bound xs
    → PutsBelow capacity own (bound + 1) (xs ++ (unused_put ring own bound capacity) ∷ [])
puts_more ring capacity own bound xs ne all =
    let end = unused_put ring own bound capacity in
    record {
      len = one_more own bound (length xs) (length (xs ++ end ∷ [])) ne (length-append xs (end ∷ [])) all.len;
      each = each_pushed (λ k (e : Side). (e.sender ≡ own) × (e.capacity ≡ capacity) × (e.messages ≡ [])
          × IsOther own k e.receiver) xs end all.each (refl, refl, refl, next_other own bound (length xs) ne all.len);
    }

takes_more : (ring : Ring) (capacity own bound : ℕ) (xs : List Side) → own ≢ bound → TakesBelow own bound xs
    → TakesBelow own (bound + 1) (xs ++ (unused ring bound own capacity) ∷ [])
takes_more ring capacity own bound xs ne all =
    let end = unused ring bound own capacity in
    record {
      len = one_more own bound (length xs) (length (xs ++ end ∷ [])) ne (length-append xs (end ∷ [])) all.len;
      each = each_pushed (λ k (e : Side). (e.receiver ≡ own) × (e.messages ≡ []) × IsOther own k e.sender) xs end all.each (
        refl,
        refl,
        next_other own bound (length xs) ne all.len,
      );
    }

-- one node more is held, which has the counter of the others
pub counter_more : (counter : Counter) (old new : List HeldView) (h : HeldView) → new ≡ old ++ h ∷ [] → h.counter ≡ counter
    → HaveCounter counter old → HaveCounter counter new
counter_more counter old new h is same all = subst (HaveCounter counter) (sym is)
    (All-push (λ (g : HeldView). g.counter ≡ counter) old h all same)

-- ---- the ends of all nodes

pub unlinked_wired : (nodes capacity : ℕ) (ends : List NodeEnds) → AreUnlinked nodes ends → AreWiredBelow nodes capacity 0 ends
unlinked_wired nodes capacity ends none = record {
  count = none.count;
  puts = λ n d below. absurd (omega (arith, below));
  no_puts = λ n d above within. ap (λ (e : NodeEnds). e.puts) (none.each n d within);
  takes = λ n d within. no_takes_below n (slice_index_or ends n d).takes (ap (λ (e : NodeEnds). e.takes) (none.each n d within));
}

pub unlinked_pushed : (n : ℕ) (ends more : List NodeEnds) (e : NodeEnds) → more ≡ ends ++ e ∷ [] → e ≡ no_ends → AreUnlinked n ends
    → AreUnlinked (n + 1) more
unlinked_pushed n ends more e is none all =
    let long = length-append ends (e ∷ []) in
    subst (AreUnlinked (n + 1)) (sym is) (record {
      count = omega (arith, all.count, long);
      each = λ k d lt. each_pushed (λ k (x : NodeEnds). x ≡ no_ends) ends e (λ k d lt. all.each k d (omega (arith, lt, all.count))) none k d
          (omega (arith, lt, all.count, long));
    })

pub begins : (nodes capacity sender : ℕ) (ends : List NodeEnds) → sender < nodes → AreWiredBelow nodes capacity sender ends
    → IsWiring nodes capacity sender 0 ends
begins nodes capacity sender ends within all = record {
  count = all.count;
  before = all.puts;
  puts = λ d. no_puts_below capacity sender (slice_index_or ends sender d).puts (all.no_puts sender d (omega arith) within);
  no_puts = λ n d above below. all.no_puts n d (omega (arith, above)) below;
  linked = λ n d below. absurd (omega (arith, below));
  unlinked = λ n d above below. all.takes n d below;
}

pub ends_with : (nodes capacity sender : ℕ) (ends : List NodeEnds) → IsWiring nodes capacity sender nodes ends
    → AreWiredBelow nodes capacity (sender + 1) ends
ends_with nodes capacity sender ends all = record {
  count = all.count;
  puts = λ n d below. elim (at_or_before n sender below) [
    | inl before ↦ all.before n d before
    | inr at ↦ subst (λ (m : ℕ). PutsBelow capacity m nodes (slice_index_or ends m d).puts) (sym at) (all.puts d)
  ];
  no_puts = λ n d above below. all.no_puts n d (omega (arith, above)) below;
  takes = λ n d below. all.linked n d below;
}

-- no link from a node to itself
pub wires_past : (nodes capacity s r : ℕ) (ends : List NodeEnds) → s < nodes → r ≡ s → IsWiring nodes capacity s r ends
    → IsWiring nodes capacity s (r + 1) ends
wires_past nodes capacity s r ends within same all = record {
  count = all.count;
  before = all.before;
  puts = λ d. let mine = all.puts d in record { len = itself s r (length (slice_index_or ends s d).puts) same mine.len; each = mine.each };
  no_puts = all.no_puts;
  linked = λ n d below. elim (at_or_before n r below) [
    | inl before ↦ all.linked n d before
    | inr at ↦ (let mine = all.unlinked n d (omega (arith, at)) (omega (arith, at, same, within)) in
        record { len = itself n s (length (slice_index_or ends n d).takes) (sym (at ∙ same)) mine.len; each = mine.each })
  ];
  unlinked = λ n d above below. all.unlinked n d (omega (arith, above)) below;
}

-- ---- a link more

-- where a node's ends are after two ends were added
puts_far : (s r n : ℕ) (p t : Side) (old new : List NodeEnds) (d : NodeEnds) → n ≢ s → AddedEnds s r p t old new
    → (slice_index_or new n d).puts ≡ (slice_index_or old n d).puts
puts_far s r n p t old new d far add = elim (cases_eq n r) [
  | inl at ↦ subst (λ (m : ℕ). (slice_index_or new m d).puts ≡ (slice_index_or old m d).puts) (sym at) (add.take_other d)
  | inr away ↦ ap (λ (x : NodeEnds). x.puts) (add.others n d far away)
]

takes_far : (s r n : ℕ) (p t : Side) (old new : List NodeEnds) (d : NodeEnds) → n ≢ r → AddedEnds s r p t old new
    → (slice_index_or new n d).takes ≡ (slice_index_or old n d).takes
takes_far s r n p t old new d far add = elim (cases_eq n s) [
  | inl at ↦ subst (λ (m : ℕ). (slice_index_or new m d).takes ≡ (slice_index_or old m d).takes) (sym at) (add.put_other d)
  | inr away ↦ ap (λ (x : NodeEnds). x.takes) (add.others n d away far)
]

pub links_more : (ring : Ring) (nodes capacity s r : ℕ) (old new : List NodeEnds) → r < nodes → r ≢ s
    → AddedEnds s r (unused_put ring s r capacity) (unused ring s r capacity) old new
    → IsWiring nodes capacity s r old → IsWiring nodes capacity s (r + 1) new
links_more ring nodes capacity s r old new r_in ne add all =
    let x = unused_put ring s r capacity in
    let y = unused ring s r capacity in
    record {
      count = add.len ∙ all.count;
      before = λ n f below. subst (PutsBelow capacity n nodes) (sym (puts_far s r n x y old new f (λ same. omega (arith, below, same)) add))
          (all.before n f below);
      puts = λ f. subst (PutsBelow capacity s (r + 1)) (sym (add.put f))
          (puts_more ring capacity s r (slice_index_or old s f).puts (λ same. ne (sym same)) (all.puts f));
      no_puts = λ n f above below. puts_far s r n x y old new f (λ same. omega (arith, above, same)) add ∙ all.no_puts n f above below;
      linked = λ n f below. elim (at_or_before n r below) [
        | inl before ↦ subst (TakesBelow n (s + 1)) (sym (takes_far s r n x y old new f (λ same. omega (arith, before, same)) add))
            (all.linked n f before)
        | inr at ↦ subst (λ (m : ℕ). TakesBelow m (s + 1) (slice_index_or new m f).takes) (sym at)
            (subst (TakesBelow r (s + 1)) (sym (add.take f)) (takes_more ring capacity r s (slice_index_or old r f).takes ne
            (all.unlinked r f (omega arith) r_in)))
      ];
      unlinked = λ n f above below. subst (TakesBelow n s) (sym (takes_far s r n x y old new f (λ same. omega (arith, above, same)) add))
          (all.unlinked n f (omega (arith, above)) below);
    }

-- ---- as the code has them

pub none_unlinked : (ends : List NodeEnds) → ends ≡ [] → AreUnlinked 0 ends
none_unlinked ends none = record { count = ap length none; each = λ n d lt. absurd (omega (arith, lt)) }

pub end_of : (n m k l : ℕ) → n ≤ m → m ≤ n → m ≡ k → l ≡ k → n ≡ l
end_of n m k l below above is is' = omega (arith, below, above, is, is')

pub linked_as : (ring : Ring) (nodes capacity s r : ℕ) (p t : Side) (old new : List NodeEnds) → r < nodes → r ≢ s
    → p ≡ unused_put ring s r capacity → t ≡ unused ring s r capacity
    → AddedEnds s r p t old new → IsWiring nodes capacity s r old → IsWiring nodes capacity s (r + 1) new
linked_as ring nodes capacity s r p t old new within ne is is' add all =
    links_more ring nodes capacity s r old new within ne
    (subst (λ (x : Side). AddedEnds s r (unused_put ring s r capacity) x old new) is'
    (subst (λ (x : Side). AddedEnds s r x t old new) is add)) all

-- the links from the sender to the nodes below the receiver were added
pub record IsGathering (sender receiver : ℕ) (ends left : List NodeEnds) (links more : List LinkEnd) : Type 0 where
  pub parts : AreParts left ends
  pub len : (sender < receiver → length more + 1 ≡ length links + receiver) × (receiver ≤ sender → length more ≡ length links + receiver)
  pub stay : StartsWith more links
  pub each : (k j : ℕ) (from to : NodeEnds) → j < receiver → slice_get ends sender ≡ Some from → slice_get ends j ≡ Some to
      → IsOther sender k j → (link : LinkEnd) × (slice_get more (length links + k) ≡ Some link) × IsLinkOf from to link

-- the links from the nodes below the sender are there
pub record AreGatheredBelow (sender : ℕ) (ends left : List NodeEnds) (links : List LinkEnd) : Type 0 where
  pub parts : AreParts left ends
  pub count : length links ≡ sender * (length ends - 1)
  pub each : (i k j : ℕ) (from to : NodeEnds) → i < sender → slice_get ends i ≡ Some from → slice_get ends j ≡ Some to → IsOther i k j
      → (link : LinkEnd) × (slice_get links (i * (length ends - 1) + k) ≡ Some link) × IsLinkOf from to link

-- ---- what is left

all_left : (ends : List NodeEnds) → AreParts ends ends
all_left ends = record {
  len = refl;
  each = λ n l e at at'.
      subst (IsPartOf l) (same_Some l e (sym at ∙ at')) (record { puts = λ x is. is; takes = λ x is. is });
}

parts_of_parts : (xs ys zs : List NodeEnds) → AreParts xs ys → AreParts ys zs → AreParts xs zs
parts_of_parts xs ys zs p q = record {
  len = p.len ∙ q.len;
  each = λ n a c at at'.
      let b = place_of ys n (omega (arith, slice_get_within xs n a at, p.len)) in
      let ab = p.each n a b.0 at b.1 in
      let bc = q.each n b.0 c b.1 at' in
      record { puts = λ x is. bc.puts x (ab.puts x is); takes = λ x is. bc.takes x (ab.takes x is) };
}

-- less is left of two nodes' ends
less_left : (old new : List NodeEnds) (s r : ℕ) (p t : Side) → TookEnds s r p t old new → AreParts new old
less_left old new s r p t took = record {
  len = took.len;
  each = λ n l e at at'. subst (λ (v : NodeEnds). IsPartOf v e) (get_or_from_slice_get new n l l at)
      (subst (IsPartOf (slice_index_or new n l)) (get_or_from_slice_get old n e l at') (part n l));
}
  where
    part : (n : ℕ) (d : NodeEnds) → IsPartOf (slice_index_or new n d) (slice_index_or old n d)
    part n d = elim (cases_eq n s) [
      | inl at ↦ subst (λ (m : ℕ). IsPartOf (slice_index_or new m d) (slice_index_or old m d)) (sym at)
          (record { puts = λ x is. subst (IsAmong x) (sym (took.put d)) (inr is); takes = λ x is. subst (IsAmong x) (took.put_other d) is })
      | inr far ↦ elim (cases_eq n r) [
        | inl at ↦ subst (λ (m : ℕ). IsPartOf (slice_index_or new m d) (slice_index_or old m d)) (sym at)
            (record {
              puts = λ x is. subst (IsAmong x) (took.take_other d) is;
              takes =
                  λ x is. subst (IsAmong x) (sym (took.take d)) (inr is);
            })
        | inr away ↦ subst (IsPartOf (slice_index_or new n d)) (took.others n d far away) (record { puts = λ x is. is; takes = λ x is. is })
      ]
    ]

-- ---- one sender

not_itself : (s k : ℕ) → IsOther s k s → ⊥
not_itself s k other = elim (cases_lt k s) [ inl lt ↦ omega (arith, lt, other.0 lt) | inr ge ↦ omega (arith, ge, other.1 ge) ]

-- no link from a node to itself
pub gathers_past : (s r : ℕ) (ends left : List NodeEnds) (links more : List LinkEnd) → r ≡ s → IsGathering s r ends left links more
    → IsGathering s (r + 1) ends left links more
gathers_past s r ends left links more same all = record {
  parts = all.parts;
  len = (λ below. omega (arith, same, all.len.1), λ above. absurd (omega (arith, same, above)));
  stay = all.stay;
  each = λ k j from to below at at' other. elim (at_or_before j r below) [
    | inl before ↦ all.each k j from to before at at' other
    | inr itself ↦ absurd (not_itself s k (subst (IsOther s k) (itself ∙ same) other))
  ];
}

next_len : (s r many more : ℕ) → r ≢ s → ((s < r → more + 1 ≡ many + r) × (r ≤ s → more ≡ many + r))
    → (s < r + 1 → more + 1 + 1 ≡ many + (r + 1)) × (r + 1 ≤ s → more + 1 ≡ many + (r + 1))
next_len s r many more ne len = (λ below. omega (arith, ne, len.0, len.1), λ above. omega (arith, ne, len.0, len.1))

next_place : (s r k many more : ℕ) → r ≢ s → ((s < r → more + 1 ≡ many + r) × (r ≤ s → more ≡ many + r)) → IsOther s k r → many + k ≡ more
next_place s r k many more ne len other = elim (cases_lt s r) [
  | inl lt ↦ elim (cases_lt k s) [
    | inl less ↦ absurd (omega (arith, other.0 less, less, lt))
    | inr ge ↦ omega (arith, other.1 ge, len.0 lt)
  ]
  | inr ge ↦ elim (cases_lt k s) [
    | inl less ↦ omega (arith, other.0 less, len.1 ge)
    | inr above ↦ absurd (ne (omega (arith, other.1 above, above, ge)))
  ]
]

-- what is left of a node's ends, where it has a place
part_at : (old ends : List NodeEnds) (n : ℕ) (e : NodeEnds) → AreParts old ends → slice_get ends n ≡ Some e
    → IsPartOf (slice_index_or old n e) e
part_at old ends n e all at =
    let o = place_of old n (omega (arith, slice_get_within ends n e at, all.len)) in
    subst (λ (v : NodeEnds). IsPartOf v e) (sym (get_or_from_slice_get old n o.0 e o.1)) (all.each n o.0 e o.1 at)

-- a link more: its ends are the next ones of both nodes
pub gathers : (s r : ℕ) (ends old new : List NodeEnds) (links more grown : List LinkEnd) (p t : Side) (link : LinkEnd)
    → grown ≡ more ++ link ∷ [] → TookEnds s r p t old new → r ≢ s
    → ((from to : NodeEnds) → IsAmong p from.puts → IsAmong t to.takes → IsLinkOf from to link) → IsGathering s r ends old links more
    → IsGathering s (r + 1) ends new links grown
gathers s r ends old new links more grown p t link is took ne joined all = subst (IsGathering s (r + 1) ends new links) (sym is) (record {
  parts = parts_of_parts new old ends (less_left old new s r p t took) all.parts;
  len = subst (λ (n : ℕ). (s < r + 1 → n + 1 ≡ length links + (r + 1)) × (r + 1 ≤ s → n ≡ length links + (r + 1)))
      (sym (length-append more (link ∷ []))) (next_len s r (length links) (length more) ne all.len);
  stay = λ q l at. get_more more (link ∷ []) q l (all.stay q l at);
  each = λ k j from to below at at' other. elim (at_or_before j r below) [
    | inl before ↦ (let was = all.each k j from to before at at' other in
        (was.0, get_more more (link ∷ []) (length links + k) was.0 was.1, was.2))
    | inr here ↦ (
        let to_at : slice_get ends r ≡ Some to = subst (λ (m : ℕ). slice_get ends m ≡ Some to) here at' in
        let put = (part_at old ends s from all.parts at).puts p (subst (IsAmong p) (sym (took.put from)) (inl refl)) in
        let take = (part_at old ends r to all.parts to_at).takes t (subst (IsAmong t) (sym (took.take to)) (inl refl)) in (
          link,
          get_last more (length links + k) link (next_place s r k (length links) (length more) ne all.len
              (subst (IsOther s k) here other)),
          joined from to put take,
        ))
  ];
})

pub gathered_more : (sender : ℕ) (ends left : List NodeEnds) (links more : List LinkEnd) → sender < length ends
    → IsGathering sender (length ends) ends left links more → GatheredMore sender ends left links more
gathered_more sender ends left links more within all = record {
  parts = all.parts;
  len = omega (arith, all.len.0 within, within);
  stay = all.stay;
  each = λ k j from to at at' other. all.each k j from to (slice_get_within ends j to at') at at' other;
}

-- ---- all senders

times_more : (n m : ℕ) → (n + 1) * m ≡ n * m + m
times_more n m = grind arith

pub sender_gathered : (sender : ℕ) (ends left rest : List NodeEnds) (links more : List LinkEnd) → AreGatheredBelow sender ends left links
    → GatheredMore sender left rest links more → AreGatheredBelow (sender + 1) ends rest more
sender_gathered sender ends left rest links more all new = record {
  parts = parts_of_parts rest left ends new.parts all.parts;
  count = new.len ∙ ((λ i. all.count i + (all.parts.len i - 1)) ∙ sym (times_more sender (length ends - 1)));
  each = λ i k j from to below at at' other. elim (at_or_before i sender below) [
    | inl before ↦ (let old = all.each i k j from to before at at' other in
        (old.0, new.stay (i * (length ends - 1) + k) old.0 old.1, old.2))
    | inr here ↦ (
        let a = place_of left i (omega (arith, slice_get_within ends i from at, all.parts.len)) in
        let b = place_of left j (omega (arith, slice_get_within ends j to at', all.parts.len)) in
        let a_at : slice_get left sender ≡ Some a.0 = subst (λ (m : ℕ). slice_get left m ≡ Some a.0) here a.1 in
        let l = new.each k j a.0 b.0 a_at b.1 (subst (λ (m : ℕ). IsOther m k j) here other) in
        let a_part = all.parts.each i a.0 from a.1 at in
        let b_part = all.parts.each j b.0 to b.1 at' in
        let place : length links + k ≡ i * (length ends - 1) + k =
        ap (λ (n : ℕ). n + k) (all.count ∙ ap (λ (n : ℕ). n * (length ends - 1)) (sym here)) in (
          l.0,
          ap (slice_get more) (sym place) ∙ l.1,
          (record {
            put_end = l.2.put_end;
            take_end = l.2.take_end;
            is_put = a_part.puts l.2.put_end l.2.is_put;
            is_take = b_part.takes l.2.take_end l.2.is_take;
            paired = l.2.paired;
            sender = l.2.sender;
            receiver = l.2.receiver;
            put = l.2.put;
            taken = l.2.taken;
          }),
        ))
  ];
}

pub all_gathered : (ends left : List NodeEnds) (links : List LinkEnd) → AreGatheredBelow (length ends) ends left links
    → AreGathered ends links
all_gathered ends left links all = record {
  count = all.count;
  each =
      λ i k j from to at at' other. all.each i k j from to (slice_get_within ends i from at) at at' other;
}
