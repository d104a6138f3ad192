-- What is kept of a run, one act further.
use Rattle.std.proofs.Common.{◌≡◌, ℕ, zero, suc, ◌+◌, ◌-◌, ◌<◌, ◌≤◌, ◌^◌, Bool, true, false, List, [], ◌∷◌, ◌++◌, length, take, drop}
use Rattle.std.proofs.Common.{Option, Some, None, Result, Ok, Err, OnOk, codes, slice_get, refl, sym, ap, subst, ◌∙◌, append_assoc}
use Rattle.std.proofs.Common.{append-nil, zero-le, arith, inl, inr, ◌⊎◌}
use Rattle.std.proofs.lemmas.List.{drop_all, length-append, length-drop, drop-append-le, take-append-le, take_rest}
use Rattle.std.proofs.lemmas.Option.{slice_get_within}
use Rattle.std.proofs.Math.Seq.{drop-append_seam}
use Rattle.wire_msg.specs.Envelope.{Envelope}
use Rattle.sim_net.specs.Network.{Network}
use Rattle.node_core.specs.State.{is_down}
use Rattle.histories.specs.NodeState.{NodeState}
use Rattle.schedule.specs.declared.act.Act.{Act}
use Rattle.runs.specs.declared.outcome.Outcome.{Outcome}
use Rattle.cluster_sim.specs.Names.{node_named}
use Rattle.cluster_sim.specs.Operated.{Operates}
use Rattle.cluster_sim.specs.World.{AreasRise, AreasWithin, AreUnarmed, FaultsAt, WorldView, Acted, StandsFor, armed_by}
use Rattle.runs.proofs.PublicLaws.{step_adds}
use Rattle.runs.specs.World.{World, start}
use Rattle.runs.specs.Step.{step_sent}
use Rattle.runs.specs.Growth.{RunsGrow, RunsOpen}
use Rattle.invite_console.specs.declared.running.ActEnd.{ActEnd}
use Rattle.invite_console.specs.declared.details.Details.{Details}
use Rattle.invite_console.specs.Acts.{act_line, sent_text}
use Rattle.invite_console.specs.Kept.{AreKept, IsKept, IsKeptSoFar, IsRun, act_head, between, lines, lines_of, run_text, sent_at, sent_by}
use Rattle.invite_console.specs.Kept.{written_at, written_by}
use Rattle.invite_console.specs.Sim.{AddsNodes, AddsRowBy, AddsRows, PrintsRun}
use Rattle.invite_console.proofs.Sims.{begins, ends, further, line_is}

-- ---- a list that grows

-- the second list begins with the first
pub record Front {A : Type 0} (xs ys : List A) : Type 0 where
  pub more : List A
  pub whole : ys ≡ xs ++ more

same_front : {A : Type 0} (xs : List A) → Front xs xs
same_front xs = record { more = []; whole = sym (append-nil xs) }

front_of : {A : Type 0} (xs ys more : List A) → ys ≡ xs ++ more → Front xs ys
front_of xs ys more whole = record { more = more; whole = whole }

get_left : {A : Type 0} (xs ys : List A) (i : ℕ) → i < length xs → slice_get (xs ++ ys) i ≡ slice_get xs i
get_left [] ys i on = absurd (omega arith)
get_left (x ∷ xs) ys zero on = refl
get_left (x ∷ xs) ys (suc i) on = get_left xs ys i (omega arith)

get_front : {A : Type 0} (xs ys : List A) (i : ℕ) → Front xs ys → i < length xs → slice_get ys i ≡ slice_get xs i
get_front xs ys i front on = ap (λ l. slice_get l i) front.whole ∙ get_left xs front.more i on

get_seam : {A : Type 0} (xs : List A) (x : A) → slice_get (xs ++ x ∷ []) (length xs) ≡ Some x
get_seam [] x = refl
get_seam (y ∷ xs) x = get_seam xs x

get_either : {A : Type 0} (xs : List A) (x y : A) (i : ℕ) → slice_get (xs ++ x ∷ []) i ≡ Some y
    → (slice_get xs i ≡ Some y) ⊎ ((i ≡ length xs) × (x ≡ y))
get_either [] x y zero at_i = inr (refl, cc)
get_either [] x y (suc i) at_i = absurd cc
get_either (z ∷ xs) x y zero at_i = inl at_i
get_either (z ∷ xs) x y (suc i) at_i = elim (get_either xs x y i at_i) [
  | inl there ↦ inl there
  | inr here ↦ inr (ap suc here.0, here.1)
]

front_length : {A : Type 0} (xs ys : List A) → Front xs ys → length xs ≤ length ys
front_length xs ys front = let whole = ap length front.whole ∙ length-append xs front.more in omega (arith, whole)

between_front : {A : Type 0} (from to : ℕ) (xs ys : List A) → Front xs ys → from ≤ to → to ≤ length xs
    → between from to ys ≡ between from to xs
between_front from to xs ys front order within =
    let room : to - from ≤ length (drop from xs) = (let left = length-drop from xs in omega (arith, left, order, within)) in
    ap (λ l. between from to l) front.whole
    ∙ ap (λ l. take (to - from) l) (drop-append-le from xs front.more (omega (arith, order, within)))
    ∙ take-append-le (to - from) (drop from xs) front.more room

-- ---- the lines so far

sent_front : (kept kept' : List ActEnd) (i : ℕ) → Front kept kept' → i ≤ length kept → sent_at kept' i ≡ sent_at kept i
sent_front kept kept' zero front on = refl
sent_front kept kept' (suc i) front on = ap sent_by (get_front kept kept' i front (omega (arith, on)))

written_front : (kept kept' : List ActEnd) (i : ℕ) → Front kept kept' → i ≤ length kept → written_at kept' i ≡ written_at kept i
written_front kept kept' zero front on = refl
written_front kept kept' (suc i) front on = ap written_by (get_front kept kept' i front (omega (arith, on)))

-- the line of an act is the same, whatever was added behind
line_stays : (names : Bool) (sent written : ℕ) (k : Option ActEnd) (text text' : List ℕ) (ms ms' : List Envelope) → Front text text'
    → Front ms ms'
    → ((kept : ActEnd) → k ≡ Some kept → IsKept sent written (length ms) (length text) kept)
    → lines_of names k sent written text' ms' ≡ lines_of names k sent written text ms
line_stays names sent written None text text' ms ms' front_t front_m is = refl
line_stays names sent written (Some k) text text' ms ms' front_t front_m is =
    let it = is k refl in
    ap (λ t. t ++ (sent_text names sent (between sent k.sent ms') ++ codes "\n"))
    (between_front written k.written text text' front_t it.written_grows it.written_within)
    ∙ ap (λ m. between written k.written text ++ (sent_text names sent m ++ codes "\n"))
    (between_front sent k.sent ms ms' front_m it.sent_grows it.sent_within)

lines_stay : (names : Bool) (kept kept' : List ActEnd) (text text' : List ℕ) (ms ms' : List Envelope) (n : ℕ)
    → AreKept kept (length ms) (length text) → Front kept kept' → Front text text' → Front ms ms' → n ≤ length kept
    → lines names kept' text' ms' n ≡ lines names kept text ms n
lines_stay names kept kept' text text' ms ms' zero are fk ft fm on = refl
lines_stay names kept kept' text text' ms ms' (suc i) are fk ft fm on =
    let last = lines names kept text ms i in
    ap (λ l. l ++ lines_of names (slice_get kept' i) (sent_at kept' i) (written_at kept' i) text' ms')
    (lines_stay names kept kept' text text' ms ms' i are fk ft fm (omega (arith, on)))
    ∙ ap (λ k. last ++ lines_of names k (sent_at kept' i) (written_at kept' i) text' ms') (get_front kept kept' i fk (omega (arith, on)))
    ∙ ap (λ s. last ++ lines_of names (slice_get kept i) s (written_at kept' i) text' ms') (sent_front kept kept' i fk (omega (arith, on)))
    ∙ ap (λ s. last ++ lines_of names (slice_get kept i) (sent_at kept i) s text' ms') (written_front kept kept' i fk (omega (arith, on)))
    ∙ ap (λ l. last ++ l) (line_stays names (sent_at kept i) (written_at kept i) (slice_get kept i) text text' ms ms' ft fm (are i))

-- ---- the table, behind any text

-- what was added to a text, and that it may be added to any
pub record AddsAnywhere (Adds : List ℕ → List ℕ → Type 0) (old new : List ℕ) : Type 0 where
  pub added : List ℕ
  pub whole : new ≡ old ++ added
  pub anywhere : (p : List ℕ) → Adds p (p ++ added)

row_by : (down : Bool) (id : ℕ) (s : NodeState) (old new : List ℕ) → AddsRowBy down id s old new
    → AddsAnywhere (AddsRowBy down id s) old new
row_by true id s old new row = record { added = _; whole = row; anywhere = λ p. refl }
row_by false id s old new row = record { added = _; whole = row.2; anywhere = λ p. (row.0, row.1, refl) }

rows_by : (id : ℕ) (states : List NodeState) (old new : List ℕ) → AddsRows id states old new → AddsAnywhere (AddsRows id states) old new
rows_by id [] old new rows = record { added = []; whole = rows ∙ sym (append-nil old); anywhere = λ p. append-nil p }
rows_by id (s ∷ states) old new rows =
    let first = row_by (is_down s.state.phase) id s old rows.0 rows.1 in
    let rest = rows_by (id + 1) states rows.0 new rows.2 in
    record {
      added = first.added ++ rest.added;
      whole = rest.whole ∙ ap (λ l. l ++ rest.added) first.whole ∙ append_assoc old first.added rest.added;
      anywhere = λ p. (
        p ++ first.added,
        first.anywhere p,
        subst (λ e. AddsRows (id + 1) states (p ++ first.added) e)
            (append_assoc p first.added rest.added) (rest.anywhere (p ++ first.added)),
      );
    }

nodes_by : (asked : Bool) (states : List NodeState) (old new : List ℕ) → AddsNodes asked states old new
    → AddsAnywhere (AddsNodes asked states) old new
nodes_by false states old new rows = record { added = []; whole = rows ∙ sym (append-nil old); anywhere = λ p. append-nil p }
nodes_by true states old new rows = rows_by 0 states old new rows

added_is : (Adds : List ℕ → List ℕ → Type 0) (old new : List ℕ) (it : AddsAnywhere Adds old new) → it.added ≡ drop (length old) new
added_is Adds old new it = sym (ap (λ l. drop (length old) l) it.whole ∙ drop-append_seam old it.added)

behind_any : (Adds : List ℕ → List ℕ → Type 0) (old new p : List ℕ) → AddsAnywhere Adds old new → Adds p (p ++ drop (length old) new)
behind_any Adds old new p it = subst (λ t. Adds p (p ++ t)) (added_is Adds old new it) (it.anywhere p)

grown_by : (Adds : List ℕ → List ℕ → Type 0) (old new : List ℕ) → AddsAnywhere Adds old new → Front old new
grown_by Adds old new it = front_of old new it.added it.whole

between_end : {A : Type 0} (from : ℕ) (xs : List A) → between from (length xs) xs ≡ drop from xs
between_end from xs = take_rest xs from

-- ---- one act further

-- behind any place, a text that grew has what it had there, and what was added
grown_behind : {A : Type 0} (from : ℕ) (xs ys : List A) → Front xs ys → from ≤ length xs
    → drop from ys ≡ drop from xs ++ drop (length xs) ys
grown_behind from xs ys front on =
    ap (λ l. drop from l) front.whole
    ∙ drop-append-le from xs front.more on
    ∙ ap (λ l. drop from xs ++ l) (sym (ap (λ l. drop (length xs) l) front.whole ∙ drop-append_seam xs front.more))

lines_more : (names : Bool) (kept : List ActEnd) (k : ActEnd) (text text' : List ℕ) (ms ms' : List Envelope)
    → AreKept kept (length ms) (length text) → Front text text' → Front ms ms' → sent_at kept (length kept) ≡ length ms
    → k.sent ≡ length ms' → k.written ≡ length text'
    → lines names (kept ++ k ∷ []) text' ms' (suc (length kept))
    ≡ lines names kept text ms (length kept) ++ (drop (written_at kept (length kept)) text'
    ++ (sent_text names (length ms) (drop (length ms) ms') ++ codes "\n"))
lines_more names kept k text text' ms ms' are ft fm all_sent is_sent is_written =
    let n = length kept in
    let kept' = kept ++ k ∷ [] in
    let fk = front_of kept kept' (k ∷ []) refl in
    let before = lines names kept text ms n in
    let from = written_at kept n in
    let sent : sent_at kept' n ≡ length ms = sent_front kept kept' n fk (omega arith) ∙ all_sent in
    let written : written_at kept' n ≡ from = written_front kept kept' n fk (omega arith) in
    let front : between from k.written text' ≡ drop from text' = ap (λ (to : ℕ). between from to text') is_written
    ∙ between_end from text' in
    let said : between (length ms) k.sent ms' ≡ drop (length ms) ms' = ap (λ (to : ℕ). between (length ms) to ms') is_sent
    ∙ between_end (length ms) ms' in
    ap (λ l. l ++ lines_of names (slice_get kept' n) (sent_at kept' n) (written_at kept' n) text' ms')
    (lines_stay names kept kept' text text' ms ms' n are fk ft fm (omega arith))
    ∙ ap (λ x. before ++ lines_of names x (sent_at kept' n) (written_at kept' n) text' ms') (get_seam kept k)
    ∙ ap (λ x. before ++ lines_of names (Some k) x (written_at kept' n) text' ms') sent
    ∙ ap (λ x. before ++ lines_of names (Some k) (length ms) x text' ms') written
    ∙ ap (λ x. before ++ (x ++ (sent_text names (length ms) (between (length ms) k.sent ms') ++ codes "\n"))) front
    ∙ ap (λ x. before ++ (drop from text' ++ (sent_text names (length ms) x ++ codes "\n"))) said

-- what is printed so far
run_is : (names : Bool) (kept : List ActEnd) (text : List ℕ) (ms : List Envelope)
    → run_text names kept text ms ≡ lines names kept text ms (length kept) ++ drop (written_at kept (length kept)) text
run_is names kept text ms = ap (λ l. lines names kept text ms (length kept) ++ l) (between_end (written_at kept (length kept)) text)

-- The same, where the text grew.
run_grows : (names : Bool) (kept : List ActEnd) (text text' : List ℕ) (ms ms' : List Envelope)
    → AreKept kept (length ms) (length text) → Front text text' → Front ms ms' → written_at kept (length kept) ≤ length text
    → run_text names kept text' ms' ≡ run_text names kept text ms ++ drop (length text) text'
run_grows names kept text text' ms ms' are ft fm within =
    let n = length kept in
    let from = written_at kept n in
    let before = lines names kept text ms n in
    run_is names kept text' ms'
    ∙ ap (λ l. l ++ drop from text') (lines_stay names kept kept text text' ms ms' n are (same_front kept) ft fm (omega arith))
    ∙ ap (λ l. before ++ l) (grown_behind from text text' ft within)
    ∙ sym (append_assoc before (drop from text) (drop (length text) text'))
    ∙ ap (λ l. l ++ drop (length text) text') (sym (run_is names kept text ms))

-- The same, where an act that sent messages is kept.
run_more : (names : Bool) (kept : List ActEnd) (k : ActEnd) (text text' : List ℕ) (ms ms' : List Envelope)
    → AreKept kept (length ms) (length text) → Front text text' → Front ms ms' → written_at kept (length kept) ≤ length text
    → sent_at kept (length kept) ≡ length ms
    → k.sent ≡ length ms' → k.written ≡ length text'
    → run_text names (kept ++ k ∷ []) text' ms' ≡ run_text names kept text ms
    ++ (drop (length text) text' ++ (sent_text names (length ms) (drop (length ms) ms') ++ codes "\n"))
run_more names kept k text text' ms ms' are ft fm within all_sent is_sent is_written =
    let n = length kept in
    let kept' = kept ++ k ∷ [] in
    let from = written_at kept n in
    let before = lines names kept text ms n in
    let added = drop (length text) text' in
    let said = sent_text names (length ms) (drop (length ms) ms') ++ codes "\n" in
    let more : length kept' ≡ suc n = (let l = length-append kept (k ∷ []) in omega (arith, l)) in
    let last : written_at kept' (length kept') ≡ length text' = ap (λ (i : ℕ). written_at kept' i) more ∙ ap written_by (get_seam kept k)
    ∙ is_written in
    let none : drop (written_at kept' (length kept')) text' ≡ [] = ap (λ (i : ℕ). drop i text') last
    ∙ drop_all (length text') text' (omega arith) in
    run_is names kept' text' ms'
    ∙ ap (λ l. lines names kept' text' ms' (length kept') ++ l) none
    ∙ append-nil (lines names kept' text' ms' (length kept'))
    ∙ ap (λ (i : ℕ). lines names kept' text' ms' i) more
    ∙ lines_more names kept k text text' ms ms' are ft fm all_sent is_sent is_written
    ∙ ap (λ l. before ++ (l ++ said)) (grown_behind from text text' ft within)
    ∙ ap (λ l. before ++ l) (append_assoc (drop from text) added said)
    ∙ sym (append_assoc before (drop from text) (added ++ said))
    ∙ ap (λ l. l ++ (added ++ said)) (sym (run_is names kept text ms))

-- one more is kept
one_kept : (kept : List ActEnd) (k : ActEnd) (m t m' t' : ℕ) → AreKept kept m t → m ≤ m' → t ≤ t' → sent_at kept (length kept) ≡ m
    → written_at kept (length kept) ≤ t
    → k.sent ≡ m' → k.written ≡ t' → AreKept (kept ++ k ∷ []) m' t'
one_kept kept k m t m' t' are more_m more_t all_sent within is_sent is_written = λ i x at_i.
    let fk = front_of kept (kept ++ k ∷ []) (k ∷ []) refl in
    elim (get_either kept k x i at_i) [
      | inl there ↦
          let on = slice_get_within kept i x there in
          let old = are i x there in
          let o1 = old.sent_within in
          let o2 = old.written_within in
          subst (λ s. IsKept s (written_at (kept ++ k ∷ []) i) m' t' x) (sym (sent_front kept (kept ++ k ∷ []) i fk (omega (arith, on))))
          (subst (λ s. IsKept (sent_at kept i) s m' t' x) (sym (written_front kept (kept ++ k ∷ []) i fk (omega (arith, on))))
          (record {
            sent_grows = old.sent_grows;
            sent_within = omega (arith, o1, more_m);
            written_grows =
                old.written_grows;
            written_within = omega (arith, o2, more_t);
          }))
      | inr here ↦
          let end : i ≤ length kept = (let e = here.0 in omega (arith, e)) in
          subst (λ y. IsKept (sent_at (kept ++ k ∷ []) i) (written_at (kept ++ k ∷ []) i) m' t' y) here.1
          (subst (λ s. IsKept s (written_at (kept ++ k ∷ []) i) m' t' k) (sym (sent_front kept (kept ++ k ∷ []) i fk end
          ∙ ap (λ j. sent_at kept j) here.0 ∙ all_sent))
          (subst (λ s. IsKept m s m' t' k) (sym (written_front kept (kept ++ k ∷ []) i fk end ∙ ap (λ j. written_at kept j) here.0))
          (record {
            sent_grows = omega (arith, is_sent, more_m);
            sent_within = omega (arith, is_sent);
            written_grows =
                omega (arith, is_written, more_t, within);
            written_within = omega (arith, is_written);
          })))
    ]

-- the messages of a step stand behind those before it
sent_grows : (old new : WorldView) (w : World) (a : Act) (outcome : Outcome) → StandsFor old w → Acted w a outcome new
    → Front old.net.sent new.net.sent
sent_grows old new w a outcome stands acted =
    let n = length w.states in
    front_of old.net.sent new.net.sent (step_sent n w acted.step)
    (ap (λ (net : Network). net.sent) acted.stands.net ∙ step_adds n w acted.step acted.next.allowed
    ∙ ap (λ (net : Network). net.sent ++ step_sent n w acted.step) (sym stands.net))

-- more is kept of as many messages as before
kept_longer : (kept : List ActEnd) (m m' t t' : ℕ) → AreKept kept m t → m ≤ m' → t ≤ t' → AreKept kept m' t'
kept_longer kept m m' t t' are more_m more_t = λ i k at_i.
    let it = are i k at_i in
    let o1 = it.sent_within in
    let o2 = it.written_within in
    record {
      sent_grows = it.sent_grows;
      sent_within = omega (arith, o1, more_m);
      written_grows = it.written_grows;
      written_within =
          omega (arith, o2, more_t);
    }

-- an act was done that sent messages, and what came of it was kept
pub act_kept : RunsGrow → (details : Details) (nodes slots : ℕ) (old new : WorldView) (before : List Act) (a : Act) (outcome : Outcome)
    (kept kept' : List ActEnd) (k : ActEnd) (text shown text' : List ℕ)
    → ((w : World) → StandsFor old w → Acted w a outcome new) → Operates a old new outcome
    → FaultsAt (armed_by a) (node_named (length old.nodes) old.net.sent a) old new outcome
    → ((w : World) → StandsFor old w → AreasRise old new outcome) → length before + 3 < 2 ^ 64 → new.slots ≡ old.slots
    → ((w : World) → StandsFor old w → AddsNodes details.nodes w.states text shown)
    → text' ≡ shown ++ act_head (length before) a outcome → k.sent ≡ length new.net.sent → k.written ≡ length text' → kept' ≡ kept ++ k ∷ []
    → IsKeptSoFar details nodes slots old before kept text → IsKeptSoFar details nodes slots new (before ++ a ∷ []) kept' text'
act_kept grow details nodes slots old new before a outcome kept kept' k text shown text' acted operates faults rises short same rows head
    is_sent is_written is_more so =
    let w = so.so.world in
    let stands = so.so.stands in
    let did = acted w stands in
    let n = length before in
    let sent = length old.net.sent in
    let printed = run_text details.names kept text old.net.sent in
    let adds = nodes_by details.nodes w.states text shown (rows w stands) in
    let t = drop (length text) shown in
    let front = act_head n a outcome in
    let said = sent_text details.names sent (drop sent new.net.sent) ++ codes "\n" in
    let whole : text' ≡ text ++ (t ++ front) =
    head ∙ ap (λ l. l ++ front) (adds.whole ∙ ap (λ l. text ++ l) (added_is (AddsNodes details.nodes w.states) text shown adds))
    ∙ append_assoc text t front in
    let ft = front_of text text' (t ++ front) whole in
    let fm = sent_grows old new w a outcome stands did in
    let last : drop (length text) text' ≡ t ++ front = ap (λ l. drop (length text) l) whole ∙ drop-append_seam text (t ++ front) in
    let line : run_text details.names (kept ++ k ∷ []) text' new.net.sent
    ≡ (printed ++ t) ++ act_line details.names n a outcome (drop sent new.net.sent) =
    run_more details.names kept k text text' old.net.sent new.net.sent so.are ft fm so.within so.all_sent is_sent is_written
    ∙ ap (λ l. printed ++ (l ++ said)) last
    ∙ ap (λ l. printed ++ l) (append_assoc t front said)
    ∙ sym (append_assoc printed t (front ++ said))
    ∙ ap (λ l. (printed ++ t) ++ l) (line_is details.names n old new w a outcome stands did) in
    let more : suc (length kept) ≡ length (kept ++ k ∷ []) = (let l = length-append kept (k ∷ []) in omega (arith, l)) in
    let seam = get_seam kept k in
    let longest : written_at (kept ++ k ∷ []) (length (kept ++ k ∷ [])) ≡ length text' =
    subst (λ (i : ℕ). written_at (kept ++ k ∷ []) i ≡ length text') more (ap written_by seam ∙ is_written) in
    subst (λ (ks : List ActEnd). IsKeptSoFar details nodes slots new (before ++ a ∷ []) ks text') (sym is_more) (record {
      are = one_kept kept k sent (length text) (length new.net.sent) (length text') so.are (front_length old.net.sent new.net.sent fm)
          (front_length text text' ft) so.all_sent so.within is_sent is_written;
      all_sent = subst (λ (i : ℕ). sent_at (kept ++ k ∷ []) i ≡ length new.net.sent) more (ap sent_by seam ∙ is_sent);
      within = omega (arith, longest);
      so = further grow details nodes slots old new before a outcome printed (printed ++ t)
          (run_text details.names (kept ++ k ∷ []) text' new.net.sent) so.so acted operates faults rises short same
          (λ w' st. behind_any (AddsNodes details.nodes w'.states) text shown printed
          (nodes_by details.nodes w'.states text shown (rows w' st))) line;
    })

-- an act was done that sent nothing: its line is whole
pub act_quiet : RunsGrow → (details : Details) (nodes slots : ℕ) (old new : WorldView) (before : List Act) (a : Act) (outcome : Outcome)
    (kept : List ActEnd) (text shown headed text' : List ℕ)
    → ((w : World) → StandsFor old w → Acted w a outcome new) → Operates a old new outcome
    → FaultsAt (armed_by a) (node_named (length old.nodes) old.net.sent a) old new outcome
    → ((w : World) → StandsFor old w → AreasRise old new outcome) → length before + 3 < 2 ^ 64 → new.slots ≡ old.slots
    → ((w : World) → StandsFor old w → AddsNodes details.nodes w.states text shown)
    → headed ≡ shown ++ act_head (length before) a outcome → text' ≡ headed ++ codes "\n" → length new.net.sent ≡ length old.net.sent
    → IsKeptSoFar details nodes slots old before kept text → IsKeptSoFar details nodes slots new (before ++ a ∷ []) kept text'
act_quiet grow details nodes slots old new before a outcome kept text shown headed text' acted operates faults rises short same rows head
    ended unsent so =
    let w = so.so.world in
    let stands = so.so.stands in
    let did = acted w stands in
    let n = length before in
    let sent = length old.net.sent in
    let printed = run_text details.names kept text old.net.sent in
    let adds = nodes_by details.nodes w.states text shown (rows w stands) in
    let t = drop (length text) shown in
    let front = act_head n a outcome in
    let none : drop sent new.net.sent ≡ [] = drop_all sent new.net.sent (omega (arith, unsent)) in
    let said : sent_text details.names sent (drop sent new.net.sent) ++ codes "\n" ≡ codes "\n" =
    ap (λ (l : List Envelope). sent_text details.names sent l ++ codes "\n") none in
    let whole : text' ≡ text ++ (t ++ (front ++ codes "\n")) =
    ended ∙ ap (λ l. l ++ codes "\n") head ∙ append_assoc shown front (codes "\n")
    ∙ ap (λ l. l ++ (front ++ codes "\n")) (adds.whole ∙ ap (λ l. text ++ l) (added_is (AddsNodes details.nodes w.states) text shown adds))
    ∙ append_assoc text t (front ++ codes "\n") in
    let ft = front_of text text' (t ++ (front ++ codes "\n")) whole in
    let fm = sent_grows old new w a outcome stands did in
    let last : drop (length text) text' ≡ t ++ (front ++ codes "\n") = ap (λ l. drop (length text) l) whole
    ∙ drop-append_seam text (t ++ (front ++ codes "\n")) in
    let line : run_text details.names kept text' new.net.sent
    ≡ (printed ++ t) ++ act_line details.names n a outcome (drop sent new.net.sent) =
    run_grows details.names kept text text' old.net.sent new.net.sent so.are ft fm so.within
    ∙ ap (λ l. printed ++ l) last
    ∙ sym (append_assoc printed t (front ++ codes "\n"))
    ∙ ap (λ l. (printed ++ t) ++ (front ++ l)) (sym said)
    ∙ ap (λ l. (printed ++ t) ++ l) (line_is details.names n old new w a outcome stands did) in
    let longer = front_length text text' ft in
    let before_within = so.within in
    record {
      are = kept_longer kept sent (length new.net.sent) (length text) (length text') so.are (omega (arith, unsent)) longer;
      all_sent = so.all_sent ∙ sym unsent;
      within = omega (arith, before_within, longer);
      so = further grow details nodes slots old new before a outcome printed (printed ++ t)
          (run_text details.names kept text' new.net.sent) so.so acted operates faults rises short same
          (λ w' st. behind_any (AddsNodes details.nodes w'.states) text shown printed
          (nodes_by details.nodes w'.states text shown (rows w' st))) line;
    }

pub on_ok : {T F A B : Type 0} (result : Result T F) → OnOk result A → (A → B) → OnOk result B
on_ok (Ok t) a more = more a
on_ok (Err e) a more = tt

-- ---- the beginning, and the end

-- a cluster that was opened has kept nothing
pub begins_kept : RunsOpen → (details : Details) (nodes slots : ℕ) (view : WorldView) → view.slots ≡ slots → StandsFor view (start nodes)
    → AreUnarmed view.nodes → AreasWithin 2 view.nodes → IsKeptSoFar details nodes slots view [] [] []
begins_kept opens details nodes slots view same stands unarmed areas = record {
  are = λ i k at_i. absurd cc;
  all_sent = sym (ap (λ (net : Network). length net.sent) stands.net);
  within = zero-le;
  so = begins opens details nodes slots view same stands unarmed areas;
}

-- all acts were done, and the nodes were added
pub run_kept : (details : Details) (nodes slots : ℕ) (view : WorldView) (acts : List Act) (kept : List ActEnd) (text text' : List ℕ)
    → IsKeptSoFar details nodes slots view acts kept text
    → ((w : World) → StandsFor view w → AddsRows 0 w.states text text') → IsRun details nodes slots acts kept text' view.net.sent
run_kept details nodes slots view acts kept text text' so rows =
    let printed = run_text details.names kept text view.net.sent in
    let t = drop (length text) text' in
    let ft = grown_by (AddsRows 0 so.so.world.states) text text' (rows_by 0 so.so.world.states text text' (rows so.so.world so.so.stands))
    in
    let longer = front_length text text' ft in
    let whole : printed ++ t ≡ run_text details.names kept text' view.net.sent =
    sym (run_grows details.names kept text text' view.net.sent view.net.sent so.are ft (same_front view.net.sent) so.within) in
    record {
      are = kept_longer kept (length view.net.sent) (length view.net.sent) (length text) (length text') so.are (omega arith) longer;
      printed = subst (λ l. PrintsRun details nodes slots acts l) whole
          (ends details nodes slots view acts printed (printed ++ t) so.so (λ w st.
          behind_any (AddsRows 0 w.states) text text' printed (rows_by 0 w.states text text' (rows w st))));
    }
