-- A job is done only after an owner of its queue finished it, which the report shows.
use Rattle.std.proofs.Common.{◌≡◌, ◌≢◌, ℕ, zero, suc, ◌<◌, ◌≤◌, List, [], ◌∷◌, length, map, take, slice_get, refl, sym, ◌∙◌, ap, subst, inl}
use Rattle.std.proofs.Common.{inr, arith, rules, Some, Contains}
use Rattle.std.proofs.lemmas.Option.{slice_get_within}
use Rattle.std.proofs.lemmas.List.{append-nil, length-take}
use Rattle.job_model.specs.declared.work.Work.{Work}
use Rattle.job_model.specs.declared.node_command.NodeCommand.TheVariants.{Raise, Put, Done}
use Rattle.node_core.specs.State.{State}
use Rattle.node_core.specs.declared.in_hand.InHand.{InHand}
use Rattle.histories.specs.Jobs.{WasPut}
use Rattle.histories.specs.Lists.{IsAmong}
use Rattle.histories.specs.Marks.{commands_of, marks_of}
use Rattle.histories.specs.NodeState.{opening}
use Rattle.histories.specs.HistoryEvent.{Entry}
use Rattle.histories.specs.History.{vectors}
use Rattle.histories.specs.Moments.{IsMoment}
use Rattle.histories.specs.declared.attempt.Attempt.{Attempt}
use Rattle.histories.proofs.PublicLaws.{OwnedAt, pending_was_put, work_is_job}
use Rattle.schedule.specs.declared.act.Act.{Act}
use Rattle.std.specs.List.{range_with_len}
use Rattle.runs.specs.World.{start}
use Rattle.runs.specs.Step.{Step}
use Rattle.runs.specs.Run.{world_at, history_in, histories_of}
use Rattle.runs.specs.Acts.{IsRunOf}
use Rattle.runs.specs.declared.attempt_at.AttemptAt.{AttemptAt}
use Rattle.runs.specs.Reporting.{Moment, Report, own_commands, first_report, report_of}
use Rattle.runs.specs.Headline.{IsFinished, IsShown, first_moments}
use Rattle.runs.specs.Uses.{DoneWasFinished}
use Rattle.runs.proofs.Elements.{among, contains}
use Rattle.runs.proofs.Exact.{all_acts_run}
use Rattle.runs.proofs.Ended.{EndedIn, done_ended}
use Rattle.runs.proofs.Keeping.{opens_with}
use Rattle.runs.proofs.Runs.{get_among, node_of, how_many, runs_are_bundles}
use Rattle.runs.proofs.RunBooks.{state_moment}
use Rattle.runs.proofs.Reported.{state_there}
use Rattle.runs.proofs.Acknowledged.{among_at}
use Rattle.runs.proofs.Moments.{acts_front, front_report}
use Rattle.runs.proofs.Reports.{commands_reported, moments_are, moments_from, opening_is}
use Rattle.runs.proofs.Shown.{vector_shown, moments_front}

-- what the histories say of a node, the moments show
report_shows : (nodes slots n : ℕ) (acts : List Act) (steps : List Step) (v : State) → IsRunOf nodes slots (start nodes) acts steps
    → IsMoment (histories_of nodes steps) n v
    → IsShown (report_of nodes acts steps) n v
report_shows nodes slots n acts steps v run moment =
    let it = node_of nodes 0 n nodes steps moment.0 n (omega arith) moment.1 in
    let here : IsAmong v (vectors n nodes (opening n) (history_in n nodes (start nodes) steps)) =
    subst (λ (xs : List Entry). IsAmong v (vectors n nodes (opening n) xs)) it.is_history
    (subst (λ (j : ℕ). IsAmong v (vectors n j (opening n) moment.0)) (how_many nodes 0 nodes steps) moment.2) in
    elim (vector_shown nodes slots n acts steps (start nodes) (opening n) v it.is_node run here) [
      | inl e ↦ inl (rw (opening_is nodes acts steps, e) (state_there (start nodes).states n (opening n) it.is_node))
      | inr m ↦ (let place = among_at m.0 (report_of nodes acts steps).moments
          (subst (λ (ms : List Moment). IsAmong m.0 ms) (sym (moments_are nodes acts steps)) m.1) in
          inr (m.0, contains m.0 (report_of nodes acts steps).moments (get_among _ place.0 m.0 place.1), m.2, m.3))
    ]

-- ---- fronts of fronts

take_front : {A : Type 0} (j k : ℕ) (xs : List A) → j ≤ k → take j (take k xs) ≡ take j xs
take_front zero k xs le = refl
take_front (suc j) zero xs le = absurd (let bad : suc j ≤ 0 = le in omega (arith, bad))
take_front (suc j) (suc k) [] le = refl
take_front (suc j) (suc k) (x ∷ xs) le = ap (λ (ys : List _). x ∷ ys) (take_front j k xs (omega (arith, le)))

get_front : {A : Type 0} (k j : ℕ) (xs : List A) (x : A) → slice_get (take k xs) j ≡ Some x → slice_get xs j ≡ Some x
get_front zero j xs x at = absurd cc
get_front (suc k) j [] x at = absurd cc
get_front (suc k) zero (y ∷ xs) x at = at
get_front (suc k) (suc j) (y ∷ xs) x at = get_front k j xs x at

front_moments : (nodes k : ℕ) (acts : List Act) (steps : List Step)
    → (report_of nodes (take k acts) steps).moments ≡ take k (report_of nodes acts steps).moments
front_moments nodes k acts steps =
    ap (λ (x : Report). x.moments) (front_report nodes k acts steps)
    ∙ (moments_are nodes (take k acts) (take k steps) ∙ (moments_front k nodes acts steps (start nodes)
    ∙ ap (λ (ms : List Moment). take k ms) (sym (moments_are nodes acts steps))))

-- what the report of the first acts shows, the first moments show
front_shows : (nodes k n : ℕ) (acts : List Act) (steps : List Step) (v : State) → IsShown (report_of nodes (take k acts) steps) n v
    → IsShown (first_moments k (report_of nodes acts steps)) n v
front_shows nodes k n acts steps v shown = elim shown [
  | inl first ↦ inl (subst (λ (xs : List State). slice_get xs n ≡ Some v) (opening_is nodes (take k acts) steps
      ∙ sym (opening_is nodes acts steps)) first)
  | inr it ↦ inr (it.0, subst (λ (ms : List Moment). Contains ms it.0) (front_moments nodes k acts steps) it.1, it.2, it.3)
]

-- ---- a job in hand was put

in_hand_put : (nodes slots n : ℕ) (acts : List Act) (steps : List Step) (v : State) (job : InHand)
    → IsRunOf nodes slots (start nodes) acts steps → IsMoment (histories_of nodes steps) n v → IsAmong job v.hand
    → job.origin < nodes → WasPut (own_commands job.origin (report_of nodes acts steps).commands) job.id job.work
in_hand_put nodes slots n acts steps v job run moment held within =
    let hs : List (List Entry) = histories_of nodes steps in
    let bundle = runs_are_bundles nodes steps (all_acts_run nodes slots (start nodes) acts steps run) in
    let of = work_is_job hs bundle n v moment job held in
    let it = node_of nodes 0 job.origin nodes steps of.history job.origin (omega arith) of.at in
    let put = pending_was_put job.origin (length hs) of.history (bundle.follows job.origin of.history of.at) of.state of.is_state of.job
    of.pending in
    let mine : own_commands job.origin (report_of nodes acts steps).commands ≡ commands_of (marks_of job.origin (length hs) of.history) =
    commands_reported nodes slots job.origin acts steps run within
    ∙ (ap (λ (h : List Entry). commands_of (marks_of job.origin nodes h)) (sym it.is_history)
    ∙ ap (λ (k : ℕ). commands_of (marks_of job.origin k of.history)) (sym (how_many nodes 0 nodes steps))) in
    subst (λ (ts : List Attempt). WasPut ts job.id job.work) (sym mine)
    (subst (λ (work : Work). WasPut (commands_of (marks_of job.origin (length hs) of.history)) job.id work) of.of_work
    (subst (λ (k : ℕ). WasPut (commands_of (marks_of job.origin (length hs) of.history)) k of.job.work) of.of_id put))

-- ---- a job that is done

only_raises : (ids : List ℕ) (t : AttemptAt) → IsAmong t
    (map (λ (n : ℕ). record { node = n; tried = record { command = Raise; acked = Some 1 } }) ids) → t.tried.command ≡ Raise
only_raises [] t i = absurd i
only_raises (n ∷ ids) t i = elim i [ inl e ↦ ap (λ (x : AttemptAt). x.tried.command) e | inr j ↦ only_raises ids t j ]

-- what is finished in the first acts, the whole report shows
finished_within : (nodes slots k : ℕ) (acts : List Act) (steps : List Step) (origin id : ℕ) → IsRunOf nodes slots (start nodes) acts steps
    → origin < nodes
    → EndedIn nodes (start nodes) (take k acts) (take k steps) origin id
    → IsFinished (λ j. report_of nodes (take j acts) steps) (report_of nodes acts steps) k origin id
finished_within nodes slots k acts steps origin id run within ended =
    let worker : ℕ = ended.0 in
    let place : ℕ = ended.1 in
    let f = ended.2 in
    let few : length (take k steps) ≤ k = rw (length-take k steps) (omega arith) in
    let le : place ≤ k = omega (arith, ended.3, few) in
    let front = acts_front place nodes slots acts steps (start nodes) run in
    let there : slice_get (world_at nodes (start nodes) (take place steps)).states worker ≡ Some f.was =
    subst (λ (xs : List Step). slice_get (world_at nodes (start nodes) xs).states worker ≡ Some f.was)
    (take_front place k steps le) f.is_state in
    let moment = state_moment nodes (take place steps) (take place steps) [] (append-nil (take place steps)) worker f.was there in
    let put = in_hand_put nodes slots worker (take place acts)
    (take place steps) f.was.state f.work.job front moment f.work.held (rw f.work.of_origin within) in
    let was_put : WasPut (own_commands origin (report_of nodes (take place acts) (take place steps)).commands) id f.work.job.work =
    subst (λ (o : ℕ). WasPut (own_commands o (report_of nodes (take place acts) (take place steps)).commands) id f.work.job.work)
    f.work.of_origin
    (subst (λ (j : ℕ). WasPut (own_commands f.work.job.origin (report_of nodes (take place acts) (take place steps)).commands) j
    f.work.job.work) f.work.of_id put) in
    let before = sym (front_report nodes place acts steps) in
    let by_then : (t : Attempt) × Contains (own_commands origin (report_of nodes (take place acts) steps).commands) t
    × (t.command ≡ Put f.work.job.work) × ((a : ℕ) → t.acked ≡ Some a → a ≡ id) = (
      was_put.0,
      subst (λ (x : Report). Contains (own_commands origin x.commands) was_put.0) before (contains was_put.0 _ was_put.1),
      was_put.2,
      was_put.3,
    ) in
    let soon : worker ≢ origin → suc place < k = λ ne. omega (arith, ended.4 ne, few) in
    let ms : List Moment = moments_from nodes (start nodes) acts steps in
    let in_front : slice_get (take k ms) place ≡ Some f.moment =
    subst (λ (xs : List Moment). slice_get xs place ≡ Some f.moment) (moments_front k nodes acts steps (start nodes)) f.at in
    let at_front : slice_get ms place ≡ Some f.moment = get_front k place ms f.moment in_front in
    let no_more : length (take k ms) ≤ k = rw (length-take k ms) (omega arith) in
    let in_time : place < k = omega (arith, slice_get_within (take k ms) place f.moment in_front, no_more) in
    let shown : IsShown (report_of nodes (take place acts) steps) worker f.was.state =
    subst (λ (x : Report). IsShown x worker f.was.state) before
    (report_shows nodes slots worker (take place acts) (take place steps) f.was.state front moment) in
    let told : slice_get (report_of nodes acts steps).moments place ≡ Some f.moment =
    subst (λ (ms : List Moment). slice_get ms place ≡ Some f.moment) (sym (moments_are nodes acts steps)) at_front in
    record {
      worker = worker;
      place = place;
      moment = f.moment;
      told = told;
      of_act = f.of_act;
      not_refused = search (rules, f.not_refused);
      in_time = in_time;
      earlier = search (rules, soon);
      state = f.was.state;
      works = (front_shows nodes place worker acts steps f.was.state shown, f.work.is_normal);
      work = f.work.job.work;
      in_hand = contains _ f.was.state.hand
          (subst (λ (j : InHand). IsAmong j f.was.state.hand) (λ i. record {
            origin = f.work.of_origin i;
            id = f.work.of_id i;
            work = f.work.job.work;
          }) f.work.held);
      owned = f.work.owned;
      put = search (rules, by_then);
    }

pub finished_at : (nodes slots : ℕ) (acts : List Act) (steps : List Step) → IsRunOf nodes slots (start nodes) acts steps
    → (k : ℕ) (t : AttemptAt) (id : ℕ) → IsAmong t (report_of nodes (take k acts) steps).commands → t.node < nodes
    → t.tried.command ≡ Done id
    → IsFinished (λ j. report_of nodes (take j acts) steps) (report_of nodes acts steps) k t.node id
finished_at nodes slots acts steps run k t id among within done =
    let tried = subst (λ (x : Report). IsAmong t x.commands) (front_report nodes k acts steps) among in
    elim (done_ended (λ o j. ⊥) slots nodes (take k acts) (take k steps) (start nodes) (first_report nodes)
    (acts_front k nodes slots acts steps (start nodes) run) (opens_with OwnedAt nodes (λ n. tt)) (λ m j i body. i) t id tried done) [
      | inl first ↦ absurd (let both : Raise ≡ Done id = sym (only_raises (range_with_len 0 nodes) t first) ∙ done in cc)
      | inr ended ↦ elim ended [
        | inl none ↦ absurd none.0
        | inr it ↦ finished_within nodes slots k acts steps t.node id run within it
      ]
    ]

-- ---- what a user takes

pub done_was_finished : DoneWasFinished
done_was_finished nodes after r h k t id i within is =
    let by = h.finished k t id (contains t (after k).commands i) within is in
    let job : InHand = record { origin = t.node; id = id; work = by.work } in (
      by.worker,
      by.place,
      by.moment,
      by.in_time,
      by.earlier,
      by.told,
      by.of_act,
      by.not_refused,
      (
        by.state,
        job,
        by.works,
        among job by.state.hand by.in_hand,
        refl,
        refl,
        by.owned,
        (by.put.0, among by.put.0 (own_commands t.node (after by.place).commands) by.put.1, by.put.2, by.put.3),
      ),
    )
