-- A check goes on: a node is stopped, waits, or takes its next entry.
use Rattle.std.proofs.Common.{◌≡◌, ◌≢◌, ◌<◌, ◌==◌, ◌⊎◌, ◌||◌, ℕ, ◌+◌, Bool, true, false, cond, eqb, List, [], ◌∷◌, ◌++◌, length, slice_get}
use Rattle.std.proofs.Common.{Some, inl, inr, refl, sym, ap, ◌∙◌, subst, arith}
use Rattle.std.proofs.lemmas.Bool.{cases_Bool, eqb-true, eq-eqb}
use Rattle.std.proofs.lemmas.Bool.Decides.{nat_tests}
use Rattle.group_task.specs.Ids.{has, with_id, without_id}
use Rattle.group_task.proofs.PublicLaws.{has-with_id, has-without_id}
use Rattle.wire_msg.specs.Envelope.{Envelope}
use Rattle.histories.specs.Lists.{IsAmong, Each}
use Rattle.histories.specs.NodeState.{NodeState}
use Rattle.histories.specs.HistoryEvent.{AreAddressed}
use Rattle.histories.proofs.PublicLaws.{among_left, among_right, among_either, each_more}
use Rattle.trace_check.specs.declared.search.NodeCursor.{NodeCursor}
use Rattle.trace_check.specs.Claims.{Claim, MayCome, after_claim, brought_by}
use Rattle.trace_check.specs.Orders.{history, taken, state_of, IsSent, MayTake}
use Rattle.trace_check.specs.Posts.{IsPosted, Posts}
use Rattle.trace_check.specs.Twins.{Twin}
use Rattle.trace_check.specs.Searches.{twin_at, IsDead, SeatFits, IsDesk, IsTaken, PostsAll}
use Rattle.trace_check.specs.Verdicts.{Turned}
use Rattle.trace_check.proofs.Turning.{turns}

clash : (b : Bool) → b ≡ true → b ≡ false → ⊥
clash true t f = absurd cc
clash false t f = absurd cc

or_right : (a b : Bool) → b ≡ true → (a || b) ≡ true
or_right true b h = refl
or_right false b h = h

-- ---- ids

without_same : (ids : List ℕ) (n : ℕ) → has (without_id ids n) n ≡ false
without_same ids n = has-without_id n n ids ∙ ap (λ (b : Bool). cond b false (has ids n)) (eq-eqb n n refl)

test_other : (k n : ℕ) → k ≢ n → eqb k n ≡ false
test_other k n other = elim (cases_Bool (eqb k n)) [ inl same ↦ absurd (other (eqb-true k n same)) | inr not_same ↦ not_same ]

without_other : (ids : List ℕ) (n k : ℕ) → k ≢ n → has (without_id ids n) k ≡ has ids k
without_other ids n k other = has-without_id n k ids ∙ ap (λ (b : Bool). cond b false (has ids k)) (test_other k n other)

with_same : (ids : List ℕ) (n : ℕ) → has (with_id ids n) n ≡ true
with_same ids n = has-with_id n n ids ∙ ap (λ (b : Bool). b || has ids n) (eq-eqb n n refl)

with_other : (ids : List ℕ) (n k : ℕ) → k ≢ n → has (with_id ids n) k ≡ has ids k
with_other ids n k other = has-with_id n k ids ∙ ap (λ (b : Bool). b || has ids k) (test_other k n other)

pub same_or_other : (k n : ℕ) → (k ≡ n) ⊎ (k ≢ n)
same_or_other k n = elim (cases_Bool (eqb k n)) [
  | inl same ↦ inl (eqb-true k n same)
  | inr not_same ↦ inr (λ same. clash (eqb k n) (eq-eqb k n same) not_same)
]

-- ---- nodes

abbrev pub twin_in : ℕ → ℕ → NodeState → Twin
twin_in id nodes node = record { id = id; nodes = nodes; node = node }

-- nodes are the same but for one
pub record Reseats (old new : List NodeCursor) (n : ℕ) (s : NodeCursor) : Type 0 where
  pub count : length new ≡ length old
  pub here : (t : NodeCursor) → slice_get new n ≡ Some t → t ≡ s
  pub others : (k : ℕ) → k ≢ n → slice_get new k ≡ slice_get old k

-- ---- what is taken

pub taken_same : (n : ℕ) (past : List ℕ) → taken n (n ∷ past) ≡ taken n past + 1
taken_same n past = let same : (n == n) ≡ true = grind (arith, nat_tests) in rw same refl

pub taken_other : (k n : ℕ) (past : List ℕ) → k ≢ n → taken k (n ∷ past) ≡ taken k past
taken_other k n past other = let apart : (n == k) ≡ false = test_other n k (λ same. other (sym same)) in rw apart refl

module _ (hs : List (List Claim)) (seats seats' : List NodeCursor) (ready stopped : List ℕ) (posted : List Envelope) (past : List ℕ) (n : ℕ)
    (old new : NodeCursor) (search : IsDesk hs seats ready stopped posted past) (reseats : Reseats seats seats' n new)
    (at : slice_get seats n ≡ Some old) where
  -- the node is stopped
  pub stop_desk : new.place ≡ old.place → IsDead hs past n → IsDesk hs seats' (without_id ready n) (with_id stopped n) posted past
  stop_desk same is_dead = record {
    count = reseats.count ∙ search.count;
    fits = λ k s here. elim (same_or_other k n) [
      | inl is ↦ record {
        place =
            let s_is : s ≡ new = reseats.here s (subst (λ (j : ℕ). slice_get seats' j ≡ Some s) is here) in
            ap (λ (t : NodeCursor). t.place) s_is ∙ same ∙ (search.fits n old at).place ∙ ap (λ (j : ℕ). taken j past) (sym is);
        node_model = λ going. absurd (clash (has (with_id stopped n) k) (ap (λ (j : ℕ). has (with_id stopped n) j) is
            ∙ with_same stopped n) going);
      }
      | inr other ↦ (
          let fits = search.fits k s (sym (reseats.others k other) ∙ here) in
          record { place = fits.place; node_model = λ going. fits.node_model (sym (with_other stopped n k other) ∙ going) }
          )
    ];
    legal = search.legal;
    least = search.least;
    posts = search.posts;
    live = λ k is_ready. elim (same_or_other k n) [
      | inl is ↦ absurd (clash (has (without_id ready n) k) is_ready (ap (λ (j : ℕ). has (without_id ready n) j) is ∙ without_same ready n))
      | inr other ↦ with_other stopped n k other ∙ search.live k (sym (without_other ready n k other) ∙ is_ready)
    ];
    waits = λ k not_ready may. elim (same_or_other k n) [
      | inl is ↦ (let may_n : MayTake hs past n = subst (λ (j : ℕ). MayTake hs past j) is may in
          is_dead may_n.claim may_n.next may_n.possible may_n.addressed)
      | inr other ↦ search.waits k (sym (without_other ready n k other) ∙ not_ready) may
    ];
    dead = λ k gone. elim (same_or_other k n) [
      | inl is ↦ subst (λ (j : ℕ). IsDead hs past j) (sym is) is_dead
      | inr other ↦ search.dead k (sym (with_other stopped n k other) ∙ gone)
    ];
  }

-- the node waits
pub wait_desk : (hs : List (List Claim)) (seats : List NodeCursor) (ready stopped : List ℕ) (posted : List Envelope) (past : List ℕ) (n : ℕ)
    → IsDesk hs seats ready stopped posted past
    → (MayTake hs past n → ⊥) → IsDesk hs seats (without_id ready n) stopped posted past
wait_desk hs seats ready stopped posted past n search cant = record {
  count = search.count;
  fits = search.fits;
  legal = search.legal;
  least = search.least;
  posts = search.posts;
  live = λ k is_ready. elim (same_or_other k n) [
    | inl is ↦ absurd (clash (has (without_id ready n) k) is_ready (ap (λ (j : ℕ). has (without_id ready n) j) is ∙ without_same ready n))
    | inr other ↦ search.live k (sym (without_other ready n k other) ∙ is_ready)
  ];
  waits = λ k not_ready may. elim (same_or_other k n) [
    | inl is ↦ cant (subst (λ (j : ℕ). MayTake hs past j) is may)
    | inr other ↦ search.waits k (sym (without_other ready n k other) ∙ not_ready) may
  ];
  dead = search.dead;
}

-- ---- a node takes its next entry

-- what was brought was sent before, where none of it is sent now
sent_before : (hs : List (List Claim)) (past : List ℕ) (n : ℕ) (c : Claim) (ms : List Envelope) (k : ℕ) → Turned hs past n c
    → ((m : Envelope) → IsAmong m c.sent → m.receiver ≡ k → ⊥)
    → Each (λ (m : Envelope). IsSent hs (n ∷ past) m) ms → AreAddressed k ms → Each (λ (m : Envelope). IsSent hs past m) ms
sent_before hs past n c [] k turned none sent addressed = tt
sent_before hs past n c (m ∷ ms) k turned none sent addressed = (
  elim (turned.sends m sent.0) [ inl before ↦ before | inr now ↦ absurd (none m now addressed.0) ],
  sent_before hs past n c ms k turned none sent.1 addressed.1,
)

module _ (hs : List (List Claim)) (seats seats' : List NodeCursor) (ready ready' stopped : List ℕ) (posted posted' : List Envelope)
    (past : List ℕ) (n : ℕ) (old new : NodeCursor) where
  pub may_take : IsDesk hs seats ready stopped posted past → slice_get seats n ≡ Some old → has ready n ≡ true
      → (t : IsTaken hs posted n old new) → MayTake hs past n
  may_take search at is_ready t =
      let fits = search.fits n old at in
      let twin : old.node_model ≡ twin_at hs past n = fits.node_model (search.live n is_ready) in
      record {
        claim = t.claim;
        next = subst (λ (k : ℕ). slice_get (history hs n) k ≡ Some t.claim) fits.place t.next;
        possible = subst (λ (w : Twin). MayCome w.id w.nodes w.node t.claim) twin t.possible;
        sent = each_more (λ (m : Envelope). IsPosted posted m) (λ (m : Envelope). IsSent hs past m) (brought_by t.claim.action)
            (λ m is. (search.posts m).0 is) t.sent;
        addressed = t.addressed;
      }

  pub take_desk : IsDesk hs seats ready stopped posted past → Reseats seats seats' n new → slice_get seats n ≡ Some old → has ready n ≡ true
      → ((m : ℕ) → m < n → has ready m ≡ false)
      → (t : IsTaken hs posted n old new) → PostsAll stopped posted posted' ready ready' t.claim.sent
      → IsDesk hs seats' ready' stopped posted' (n ∷ past)
  take_desk search reseats at is_ready first t all =
      let fits = search.fits n old at in
      let going : has stopped n ≡ false = search.live n is_ready in
      let twin : old.node_model ≡ twin_at hs past n = fits.node_model going in
      let may = may_take search at is_ready t in
      let next : slice_get (history hs n) (taken n past) ≡ Some t.claim =
      subst (λ (k : ℕ). slice_get (history hs n) k ≡ Some t.claim) fits.place t.next in
      let turned : Turned hs past n t.claim = turns hs past n t.claim next in
      let c = t.claim in
      let not_this : (k : ℕ) → has ready' k ≡ false → k ≢ n = λ k not_ready is. clash (has ready' n) (all.grows n is_ready)
      (ap (λ (j : ℕ). has ready' j) (sym is) ∙ not_ready) in
      record {
        count = reseats.count ∙ search.count;
        fits = λ k s here. elim (same_or_other k n) [
          | inl is ↦ (
              let s_is : s ≡ new = reseats.here s (subst (λ (j : ℕ). slice_get seats' j ≡ Some s) is here) in
              let more : taken n (n ∷ past) ≡ taken n past + 1 = taken_same n past in
              subst (λ (j : ℕ). SeatFits hs (n ∷ past) j (has stopped j) s) (sym is) (record {
                place = ap (λ (x : NodeCursor). x.place) s_is ∙ t.place ∙ ap (λ (p : ℕ). p + 1) fits.place ∙ sym more;
                node_model = λ _.
                    ap (λ (x : NodeCursor). x.node_model) s_is ∙ t.node_model
                    ∙ ap (λ (w : Twin). record w { node = after_claim w.id w.nodes w.node c }) twin
                    ∙ ap (λ (x : NodeState). twin_in n (length hs) x) (sym turned.state)
                    ∙ ap (λ (p : ℕ). twin_in n (length hs) (state_of hs n p)) (sym more);
              })
              )
          | inr other ↦ (
              let was = search.fits k s (sym (reseats.others k other) ∙ here) in
              let same : taken k (n ∷ past) ≡ taken k past = taken_other k n past other in
              record {
                place = was.place ∙ sym same;
                node_model = λ gone. was.node_model gone ∙ ap (λ (p : ℕ). twin_in k (length hs) (state_of hs k p)) (sym same);
              }
              )
        ];
        legal = (may, search.legal);
        least = (λ m less. search.waits m (first m less), search.least);
        posts = λ m. (
          λ there. elim ((all.posts m).0 there) [ inl now ↦ turned.adds m now | inr before ↦ turned.keeps m ((search.posts m).0 before) ],
          λ sent. (all.posts m).1 (elim (turned.sends m sent) [ inl before ↦ inr ((search.posts m).1 before) | inr now ↦ inl now ]),
        );
        live = λ k is. elim (all.only k is) [ inl before ↦ search.live k before | inr live ↦ live ];
        waits = λ k not_ready later.
            let same : taken k (n ∷ past) ≡ taken k past = taken_other k n past (not_this k not_ready) in
            let was_not : has ready k ≡ false = elim (cases_Bool (has ready k)) [
              | inl was ↦
                  absurd (clash (has ready' k) (all.grows k was) not_ready)
              | inr was ↦ was
            ] in
            let its_next : slice_get (history hs k) (taken k past) ≡ Some later.claim =
            subst (λ (p : ℕ). slice_get (history hs k) p ≡ Some later.claim) same later.next in
            let its_possible : MayCome k (length hs) (state_of hs k (taken k past)) later.claim =
            subst (λ (p : ℕ). MayCome k (length hs) (state_of hs k p) later.claim) same later.possible in
            elim (cases_Bool (has stopped k)) [
              | inl gone ↦ search.dead k gone later.claim its_next its_possible later.addressed
              | inr live ↦ search.waits k was_not (record {
                claim = later.claim;
                next = its_next;
                possible = its_possible;
                sent = sent_before hs past n c (brought_by later.claim.action) k turned
                    (λ m now to. clash (has ready' k) (ap (λ (j : ℕ). has ready' j) (sym to)
                    ∙ all.wakes m now (ap (λ (j : ℕ). has stopped j) to ∙ live)) not_ready) later.sent later.addressed;
                addressed = later.addressed;
              })
            ];
        dead = λ k gone.
            let other : k ≢ n = λ is. clash (has stopped n) (ap (λ (j : ℕ). has stopped j) (sym is) ∙ gone) going in
            subst (λ (p : ℕ). (d : Claim) → slice_get (history hs k) p ≡ Some d → MayCome k (length hs) (state_of hs k p) d
            → AreAddressed k (brought_by d.action) → ⊥) (sym (taken_other k n past other)) (search.dead k gone);
      }

-- ---- messages that are sent

pub posts_none : (stopped : List ℕ) (posted : List Envelope) (ready : List ℕ) → PostsAll stopped posted posted ready ready []
posts_none stopped posted ready = record {
  posts = λ m. (λ there. inr there, λ either. elim either [ inl none ↦ absurd none | inr before ↦ before ]);
  grows = λ k is. is;
  wakes = λ m none. absurd none;
  only = λ k is. inl is;
}

-- one message, whose receiver is woken
pub posts_one : (stopped : List ℕ) (posted posted' : List Envelope) (ready ready' : List ℕ) (m : Envelope) → Posts posted posted' m
    → ready' ≡ cond (has stopped m.receiver) ready (with_id ready m.receiver) → PostsAll stopped posted posted' ready ready' (m ∷ [])
posts_one stopped posted posted' ready ready' m posts is =
    elim (cases_Bool (has stopped m.receiver)) [
      | inl gone ↦ (
          let same : ready' ≡ ready = is ∙ ap (λ (b : Bool). cond b ready (with_id ready m.receiver)) gone in
          record {
            posts = λ n. (
              λ there. elim ((posts n).0 there) [ inl now ↦ inl (inl now) | inr before ↦ inr before ],
              λ either. (posts n).1 (elim either [
                | inl now ↦ elim now [ inl it ↦ inl it | inr none ↦ absurd none ]
                | inr before ↦ inr before
              ]),
            );
            grows = λ k was. ap (λ (r : List ℕ). has r k) same ∙ was;
            wakes = λ n among live. elim among [
              | inl it ↦ absurd (clash (has stopped m.receiver) gone (ap (λ (e : Envelope). has stopped e.receiver) (sym it) ∙ live))
              | inr none ↦ absurd none
            ];
            only = λ k now. inl (ap (λ (r : List ℕ). has r k) (sym same) ∙ now);
          }
          )
      | inr live ↦ (
          let more : ready' ≡ with_id ready m.receiver = is ∙ ap (λ (b : Bool). cond b ready (with_id ready m.receiver)) live in
          let grown : (k : ℕ) → has ready' k ≡ (eqb k m.receiver || has ready k) = λ k. ap (λ (r : List ℕ). has r k) more
          ∙ has-with_id m.receiver k ready in
          record {
            posts = λ n. (
              λ there. elim ((posts n).0 there) [ inl now ↦ inl (inl now) | inr before ↦ inr before ],
              λ either. (posts n).1 (elim either [
                | inl now ↦ elim now [ inl it ↦ inl it | inr none ↦ absurd none ]
                | inr before ↦ inr before
              ]),
            );
            grows = λ k was. grown k ∙ or_right (eqb k m.receiver) (has ready k) was;
            wakes = λ n among _. elim among [
              | inl it ↦ ap (λ (e : Envelope). has ready' e.receiver) it ∙ ap (λ (r : List ℕ). has r m.receiver) more
                  ∙ with_same ready m.receiver
              | inr none ↦ absurd none
            ];
            only = λ k now. elim (same_or_other k m.receiver) [
              | inl it ↦ inr (ap (λ (j : ℕ). has stopped j) it ∙ live)
              | inr other ↦ inl (sym (with_other ready m.receiver k other) ∙ ap (λ (r : List ℕ). has r k) (sym more) ∙ now)
            ];
          }
          )
    ]

-- and some more
pub posts_more : (stopped : List ℕ) (p0 p1 p2 : List Envelope) (r0 r1 r2 : List ℕ) (xs ys : List Envelope) → PostsAll stopped p0 p1 r0 r1 xs
    → PostsAll stopped p1 p2 r1 r2 ys
    → PostsAll stopped p0 p2 r0 r2 (xs ++ ys)
posts_more stopped p0 p1 p2 r0 r1 r2 xs ys a b = record {
  posts = λ m. (
    λ there. elim ((b.posts m).0 there) [
      | inl later ↦ inl (among_right m xs ys later)
      | inr before ↦ elim ((a.posts m).0 before) [ inl early ↦ inl (among_left m xs ys early) | inr old ↦ inr old ]
    ],
    λ either. (b.posts m).1 (elim either [
      | inl among ↦ elim (among_either m xs ys among) [ inl early ↦ inr ((a.posts m).1 (inl early)) | inr later ↦ inl later ]
      | inr old ↦ inr ((a.posts m).1 (inr old))
    ]),
  );
  grows = λ k was. b.grows k (a.grows k was);
  wakes = λ m among live. elim (among_either m xs ys among) [
    | inl early ↦ b.grows m.receiver (a.wakes m early live)
    | inr later ↦ b.wakes m later live
  ];
  only = λ k now. elim (b.only k now) [ inl before ↦ a.only k before | inr live ↦ inr live ];
}
