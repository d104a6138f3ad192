-- Every run of a schedule keeps groups and jobs.
use Rattle.std.proofs.Common.{◌≡◌, ℕ, suc, ◌<◌, List, [], take, drop, slice_get, refl, sym, ◌∙◌, ap, subst, inl, inr, arith, rules}
use Rattle.std.proofs.Common.{Option, Some, None, IfSome}
use Rattle.std.proofs.lemmas.List.{take-append-drop}
use Rattle.group_task.specs.Group.{Group}
use Rattle.group_task.specs.Assignment.{Assignment}
use Rattle.wire_msg.specs.Envelope.{Envelope}
use Rattle.node_core.specs.declared.phase.Phase.TheVariants.{Down, Normal}
use Rattle.node_core.specs.declared.in_hand.InHand.{InHand}
use Rattle.node_core.specs.State.{State}
use Rattle.wire_msg.specs.Kinds.{group_in}
use Rattle.node_core.specs.Start.{down}
use Rattle.job_model.specs.Durable.{formatted}
use Rattle.std.specs.Prelude.{◌≤◌, All, AllPairs, Contains, slice_index_or, true, unwrap_or}
use Rattle.std.proofs.lemmas.Option.{slice_get-get_or}
use Rattle.job_model.specs.declared.node_command.NodeCommand.TheVariants.{Done}
use Rattle.runs.specs.declared.attempt_at.AttemptAt.{AttemptAt}
use Rattle.group_task.specs.Ids.{has}
use Rattle.node_core.specs.Words.{task_of}
use Rattle.histories.specs.Lists.{IsAmong}
use Rattle.histories.specs.NodeState.{NodeState, opening}
use Rattle.histories.specs.Named.{StateHolds}
use Rattle.histories.specs.Book.{IsTaskOf, AgreesAt, IsInGroup, members_in}
use Rattle.histories.specs.Rising.{Rises}
use Rattle.histories.specs.Kept.{CommandsKept}
use Rattle.histories.specs.Marks.{commands_of, mountings_of, marks_of}
use Rattle.histories.proofs.PublicLaws.{counts_rise, each_at, one_worker, each_kept}
use Rattle.histories.specs.Moments.{IsMoment}
use Rattle.schedule.specs.declared.act.Act.{Act}
use Rattle.runs.specs.World.{start, node_in}
use Rattle.runs.specs.Step.{Step}
use Rattle.runs.specs.Run.{RunFrom, world_at, history_in, histories_of}
use Rattle.runs.specs.Given.{AllGiven, groups_of}
use Rattle.runs.specs.Acts.{IsRunOf}
use Rattle.histories.specs.Counts.{IsShort}
use Rattle.runs.specs.Reporting.{Moment, Report, own_commands, own_mountings, report_of}
use Rattle.runs.proofs.Finished.{finished_at}
use Rattle.runs.specs.ExactRuns.{IsExactRun}
use Rattle.runs.specs.Headline.{IsFinished, IsPromised, IsShown, IsWorking, NamesGiven, EverySchedule}
use Rattle.runs.proofs.Runs.{get_among, history_follows, runs_are_bundles, starts_opened}
use Rattle.runs.proofs.RunBooks.{state_moment, run_book}
use Rattle.runs.proofs.Given.{given_before, given_inside}
use Rattle.runs.proofs.Tagged.{history_few}
use Rattle.runs.proofs.Reports.{moments_from, opening_is, moments_are, groups_are, commands_reported, mounted_reported}
use Rattle.runs.proofs.Acknowledged.{among_at}
use Rattle.runs.proofs.Elements.{among, contains, some_more}
use Rattle.runs.proofs.Exact.{all_acts_run}
use Rattle.runs.proofs.ExactRuns.{exact_run, run_of}
use Rattle.runs.proofs.Picked.{above, own_counts, own_counts_of, rising_places}
use Rattle.runs.proofs.Moments.{run_front, acts_front, as_many, front_report, moment_state, moment_says, opening_shown}

-- ---- 2

kept_by_history : (nodes : ℕ) (steps : List Step) → RunFrom nodes (start nodes) steps → IsShort steps → (n : ℕ) → n < nodes
    → let h = history_in n nodes (start nodes) steps in CommandsKept (commands_of (marks_of n nodes h)) (mountings_of (marks_of n nodes h))
kept_by_history nodes steps run few n lt =
    each_kept n nodes (history_in n nodes (start nodes) steps)
    (history_follows n nodes steps (start nodes) (opening n) (starts_opened nodes n lt) run)
    (omega (arith, few, history_few n nodes steps (start nodes)))

kept_by_report : (nodes slots : ℕ) (acts : List Act) (steps : List Step) → IsRunOf nodes slots (start nodes) acts steps → IsShort steps
    → (n : ℕ) → n < nodes
    → CommandsKept (own_commands n (report_of nodes acts steps).commands) (own_mountings n (report_of nodes acts steps).mounted)
kept_by_report nodes slots acts steps is_run few n lt =
    rw (commands_reported nodes slots n acts steps is_run lt, mounted_reported nodes slots n acts steps is_run lt)
    (kept_by_history nodes steps (all_acts_run nodes slots (start nodes) acts steps is_run) few n lt)

-- ---- 3

each_rises : (nodes slots : ℕ) (acts : List Act) (steps : List Step) → IsRunOf nodes slots (start nodes) acts steps → (n : ℕ) → n < nodes
    → Rises 0 (own_counts n (report_of nodes acts steps).groups)
each_rises nodes slots acts steps is_run n lt =
    rw (groups_are nodes slots acts steps is_run, own_counts_of nodes n steps lt)
    (omega arith, counts_rise n nodes (opening n) (history_in n nodes (start nodes) steps) 1 (omega arith))

-- so have the groups, whoever gave them
module _ (nodes slots : ℕ) (acts : List Act) (steps : List Step) (is_run : IsRunOf nodes slots (start nodes) acts steps) where
  giver_rises : (g : Group) → IsAmong g (report_of nodes acts steps).groups
      → Rises 0 (own_counts g.creator (report_of nodes acts steps).groups)
  giver_rises g i = each_rises nodes slots acts steps is_run g.creator
      (given_inside nodes steps (all_acts_run nodes slots (start nodes) acts steps is_run) g
      (subst (IsAmong g) (groups_are nodes slots acts steps is_run) i))

  each_counted : All (λ (g : Group). 1 ≤ g.count) (report_of nodes acts steps).groups
  each_counted k d within =
      let gs : List Group = (report_of nodes acts steps).groups in
      let at = slice_get-get_or gs k d within in
      let g : Group = slice_index_or gs k d in
      let higher : 0 < g.count = above g.creator gs 0 (giver_rises g (get_among gs k g at)) k g at refl in
      omega (arith, higher)

  all_rising : AllPairs (λ (g h : Group). g.creator ≡ h.creator → g.count < h.count) (report_of nodes acts steps).groups
  all_rising i j d lt within same =
      let gs : List Group = (report_of nodes acts steps).groups in
      let at_i = slice_get-get_or gs i d (omega (arith, lt, within)) in
      let g : Group = slice_index_or gs i d in
      rising_places g.creator gs 0 (giver_rises g (get_among gs i g at_i)) i j g (slice_index_or gs j d) lt at_i
      (slice_get-get_or gs j d within) refl (sym same)

down_or_given : (P : Group → Type 0) (states : List NodeState) (n : ℕ)
    → ((s : NodeState) → slice_get states n ≡ Some s → StateHolds P s.state) → StateHolds P (node_in states n).state
down_or_given P states n h = by_state (slice_get states n) h
  where
    by_state : (o : Option NodeState) → ((s : NodeState) → o ≡ Some s → StateHolds P s.state)
        → StateHolds P (unwrap_or o (record { state = down n; durable = formatted; doubt = None })).state
    by_state None h = λ up. absurd (up refl)
    by_state (Some s) h = h s refl

moment_given : (nodes slots : ℕ) (acts : List Act) (steps : List Step) → IsRunOf nodes slots (start nodes) acts steps → (k : ℕ) (m : Moment)
    → slice_get (report_of nodes acts steps).moments k ≡ Some m
    → NamesGiven (report_of nodes (take (suc k) acts) steps).groups m
moment_given nodes slots acts steps is_run k m at =
    let front : List Step = take (suc k) steps in
    let run : RunFrom nodes (start nodes) steps = all_acts_run nodes slots (start nodes) acts steps is_run in
    let given : List Group = groups_of nodes front in
    let all : AllGiven (world_at nodes (start nodes) front) given =
    given_before nodes front (run_front (suc k) nodes steps (start nodes) run) in
    let there : slice_get (moments_from nodes (start nodes) acts steps) k ≡ Some m =
    subst (λ (ms : List Moment). slice_get ms k ≡ Some m) (moments_are nodes acts steps) at in
    let P : Group → Type 0 = λ g. IsAmong g given in
    let by_state : StateHolds P m.state = rw (moment_state k nodes acts steps (start nodes) m there)
    (down_or_given P (world_at nodes (start nodes) front).states m.node (λ s here. all.vectors m.node s here)) in
    let by_messages = moment_says (λ (x : Envelope). IfSome (group_in x.body) P) k nodes acts steps (start nodes) m there all.messages in
    subst (λ (gs : List Group). NamesGiven gs m)
    (sym (ap (λ (x : Report). x.groups) (front_report nodes (suc k) acts steps)
    ∙ groups_are nodes slots (take (suc k) acts) front (acts_front (suc k) nodes slots acts steps (start nodes) is_run))) (record {
      by_state = λ up. (
        contains m.state.group given (by_state up).0,
        some_more (λ (t : Assignment). P t.group) (λ (t : Assignment). Contains given t.group) m.state.task (λ t i.
            contains t.group given i) (by_state up).1,
      );
      by_messages = λ x sent. some_more P (Contains given) (group_in x.body) (λ g i. contains g given i)
          (each_at (λ (y : Envelope). IfSome (group_in y.body) P) m.sent x by_messages (among x m.sent sent));
    })

-- ---- 4

down_or_agrees : (book : List Assignment) (states : List NodeState) (n : ℕ)
    → ((s : NodeState) → slice_get states n ≡ Some s → AgreesAt book n s.state) → AgreesAt book n (node_in states n).state
down_or_agrees book states n h = by_state (slice_get states n) h
  where
    by_state : (o : Option NodeState) → ((s : NodeState) → o ≡ Some s → AgreesAt book n s.state)
        → AgreesAt book n (unwrap_or o (record { state = down n; durable = formatted; doubt = None })).state
    by_state None h = (λ in_it. elim in_it [ inl e ↦ absurd cc | inr e ↦ absurd cc ], λ e. absurd cc)
    by_state (Some s) h = h s refl

-- the tasks that were made agree with all states that are shown
record IsAgreed (r : Report) : Type 0 where
  book : List Assignment
  agrees : (n : ℕ) (s : State) → IsShown r n s → AgreesAt book n s

its_book : (nodes : ℕ) (acts : List Act) (steps : List Step) → RunFrom nodes (start nodes) steps → IsAgreed (report_of nodes acts steps)
its_book nodes acts steps run =
    let law = run_book nodes steps run in
    record {
      book = law.0;
      agrees = λ n s shown. elim shown [
        | inl first ↦ (let it = opening_shown (start nodes).states n s
            (subst (λ (xs : List State). slice_get xs n ≡ Some s) (opening_is nodes acts steps) first) in
            subst (λ (x : State). AgreesAt law.0 n x) it.2 (law.1 [] steps refl n it.0 it.1))
        | inr moment ↦ (
            let m : Moment = moment.0 in
            let place = among_at m (report_of nodes acts steps).moments (among m (report_of nodes acts steps).moments moment.1) in
            let k : ℕ = place.0 in
            let front : List Step = take (suc k) steps in
            let agrees : AgreesAt law.0 m.node (node_in (world_at nodes (start nodes) front).states m.node).state =
            down_or_agrees law.0 (world_at nodes (start nodes) front).states m.node
            (λ x here. law.1 front (drop (suc k) steps) (take-append-drop (suc k) steps) m.node x here) in
            subst (λ (x : State). AgreesAt law.0 n x) moment.3
            (subst (λ (j : ℕ). AgreesAt law.0 j m.state) moment.2 (rw
            (moment_state k nodes acts steps (start nodes) m (subst (λ (ms : List Moment). slice_get ms k
            ≡ Some m) (moments_are nodes acts steps) place.1)) agrees)))
      ];
    }

abbrev members_by : List Assignment → Group → List ℕ
members_by book g = unwrap_or (members_in book g) []

task_by : (book : List Assignment) (n : ℕ) (g : Group) (task : Option Assignment) → IsTaskOf book n g task
    → (task ≡ Some (task_of g (members_by book g))) × (has (members_by book g) n ≡ true)
task_by book n g None h = absurd h
task_by book n g (Some t) h =
    let same : members_by book g ≡ t.members = ap (λ (o : Option (List ℕ)). unwrap_or o []) h.1 in
    (λ i. Some (record { group = h.0 i; members = sym same i }), subst (λ (ms : List ℕ). has ms n ≡ true) (sym same) h.2)

-- and so has each group its members, as the headline says it
record HasBook (r : Report) : Type 0 where
  members : Group → List ℕ
  coordinator : (n : ℕ) (s : State) → IsShown r n s → IsInGroup s.phase → s.coordinator ≡ s.group.creator
  task : (n : ℕ) (s : State) → IsWorking r n s → (s.task ≡ Some (task_of s.group (members s.group))) × (has (members s.group) n ≡ true)

book_by : (r : Report) → IsAgreed r → HasBook r
book_by r it = record {
  members = members_by it.book;
  coordinator = λ n s shown. (it.agrees n s shown).0;
  task = λ n s works. task_by it.book n s.group s.task ((it.agrees n s works.0).1 works.1);
}

-- ---- jobs

-- a state that is shown in Normal is a moment of the node's history
shown_moment : (nodes : ℕ) (acts : List Act) (steps : List Step) (n : ℕ) (s : State) → IsWorking (report_of nodes acts steps) n s
    → IsMoment (histories_of nodes steps) n s
shown_moment nodes acts steps n s works = elim works.0 [
  | inl first ↦ (let it = opening_shown (start nodes).states n s
      (subst (λ (xs : List State). slice_get xs n ≡ Some s) (opening_is nodes acts steps) first) in
      subst (λ (x : State). IsMoment (histories_of nodes steps) n x) it.2 (state_moment nodes steps [] steps refl n it.0 it.1))
  | inr moment ↦ (
      let m : Moment = moment.0 in
      let place = among_at m (report_of nodes acts steps).moments (among m (report_of nodes acts steps).moments moment.1) in
      let k : ℕ = place.0 in
      let front : List Step = take (suc k) steps in
      let states : List NodeState = (world_at nodes (start nodes) front).states in
      let here : (node_in states m.node).state ≡ s = sym (moment_state k nodes acts steps (start nodes) m
      (subst (λ (ms : List Moment). slice_get ms k ≡ Some m) (moments_are nodes acts steps) place.1)) ∙ moment.3 in
      subst (λ (j : ℕ). IsMoment (histories_of nodes steps) j s) moment.2
      (is_up m.node (slice_get states m.node) here (λ x at. state_moment nodes steps front (drop (suc k) steps)
      (take-append-drop (suc k) steps) m.node x at)))
]
  where
    is_up : (j : ℕ) (o : Option NodeState) → (unwrap_or o (record { state = down j; durable = formatted; doubt = None })).state ≡ s
        → ((x : NodeState) → o ≡ Some x → IsMoment (histories_of nodes steps) j x.state)
        → IsMoment (histories_of nodes steps) j s
    is_up j None here at = (let none : Down ≡ Normal = ap (λ (x : State). x.phase) here ∙ works.1 in absurd cc)
    is_up j (Some x) here at = subst (λ (y : State). IsMoment (histories_of nodes steps) j y) here (at x refl)

worker_of_two : (nodes : ℕ) (acts : List Act) (steps : List Step) → RunFrom nodes (start nodes) steps → (n m : ℕ) (s t : State)
    → IsWorking (report_of nodes acts steps) n s → IsWorking (report_of nodes acts steps) m t → s.group ≡ t.group
    → (a b : InHand) → Contains s.hand a → Contains t.hand b → a.work.queue ≡ b.work.queue → n ≡ m
worker_of_two nodes acts steps run n m s t of_s of_t same a b in_s in_t queue =
    one_worker (histories_of nodes steps) (runs_are_bundles nodes steps run) n m s t (shown_moment nodes acts steps n s of_s)
    (shown_moment nodes acts steps m t of_t)
    of_s.1 of_t.1 same a b (among a s.hand in_s) (among b t.hand in_t) queue

-- each part by its law, which may take fewer premises than the part has
pub keeps : (nodes slots : ℕ) (acts : List Act) (steps : List Step) → IsShort acts → IsExactRun nodes slots (start nodes) acts steps
    → IsPromised nodes slots acts (report_of nodes acts steps)
keeps nodes slots acts steps short exact =
    let is_run : IsRunOf nodes slots (start nodes) acts steps = run_of slots nodes acts steps short exact in
    let run : RunFrom nodes (start nodes) steps = all_acts_run nodes slots (start nodes) acts steps is_run in
    let few : IsShort steps = omega (arith, short, as_many nodes slots acts steps (start nodes) is_run) in
    let r : Report = report_of nodes acts steps in
    let the_book : HasBook r = book_by r (its_book nodes acts steps run) in
    let ended : (k : ℕ) (t : AttemptAt) (id : ℕ) → Contains (report_of nodes (take k acts) steps).commands t → t.node < nodes
    → t.tried.command ≡ Done id → IsFinished (λ j. report_of nodes (take j acts) steps) r k t.node id =
    λ k t id tried within done. finished_at nodes slots acts steps is_run k t id
    (among t (report_of nodes (take k acts) steps).commands tried) within done in
    record {
      run = record { short = short; steps = steps; is_run = search (rules, exact); reported = search rules };
      keeps = record {
        kept = search (rules, kept_by_report nodes slots acts steps is_run few);
        counted = search (rules, each_counted nodes slots acts steps is_run);
        rising = search (rules, all_rising nodes slots acts steps is_run);
        given = search (rules, moment_given nodes slots acts steps is_run);
        members = the_book.members;
        coordinator = search (rules, the_book.coordinator);
        task = search (rules, the_book.task);
        one_worker = search (rules, worker_of_two nodes acts steps run);
        finished = search (rules, ended);
      };
    }

pub every_schedule : EverySchedule
every_schedule nodes slots acts steps short is_run never_area_exhausted =
    keeps nodes slots acts steps short (exact_run slots nodes acts steps short is_run never_area_exhausted)
