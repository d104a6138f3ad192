-- What processes answer of jobs.
use Rattle.std.proofs.Common.{◌≡◌, ◌⊎◌, ℕ, Bool, true, false, not, ◌||◌, List, [], ◌∷◌, ◌++◌, length, refl, sym, ◌∙◌, ap, subst, inl, inr}
use Rattle.std.proofs.Common.{arith, Some, None, append_assoc, append-nil}
use Rattle.std.specs.Prelude.{◌==◌, if◌then◌else◌, Ok}
use Rattle.std.proofs.lemmas.Bool.{cases_Bool, cond_both}
use Rattle.job_model.specs.declared.job.Job.{Job}
use Rattle.job_model.specs.declared.work.Work.{Work}
use Rattle.job_model.specs.declared.node_command.NodeCommand.TheVariants.{Done}
use Rattle.node_core.specs.declared.event.Event.{Event}
use Rattle.node_core.specs.declared.event.Event.TheVariants as on
use Rattle.node_core.specs.declared.phase.Phase.TheVariants.{Down, Normal}
use Rattle.node_core.specs.declared.fault.CoreFault.TheVariants as fault
use Rattle.node_core.specs.declared.fault.CoreFault.{CoreFault}
use Rattle.node_core.specs.State.{in_phase, is_down}
use Rattle.histories.specs.Lists.{IsAmong}
use Rattle.histories.specs.NodeState.{NodeState}
use Rattle.histories.specs.HistoryEvent.{Entry, event_of}
use Rattle.histories.specs.declared.history_event.HistoryEvent.{HistoryEvent}
use Rattle.histories.specs.declared.history_event.HistoryEvent.TheVariants.{Did, Crashed}
use Rattle.histories.specs.After.{after, sent_at}
use Rattle.histories.specs.History.{Follows, replay}
use Rattle.histories.specs.Possible.{IsPossible}
use Rattle.histories.proofs.PublicLaws.{among_either, among_right, stays_up}
use Rattle.node_session.specs.declared.asked.Asked.{Asked}
use Rattle.node_session.specs.Turns.{CallEnd, Turn, Goes, end_of}
use Rattle.node_session.specs.Chains.{LineOutcome, AreGoing, AllGoing, ComesOfEvent, IsWrittenAnew, MayCome, after_turns}
use Rattle.node_session.specs.Chains.{behind_end, brought_up, entries_in, event_line_end, is_failed, line_end}
use Rattle.node_session.specs.Chains as chains
use Rattle.node_session.specs.Lines.{At, AreOf, Comes, ComesOf, after_line}
use Rattle.node_session.specs.Seals.{asked_under}
use Rattle.node_session.specs.Serving.{OneHistory}
use Rattle.processes.specs.Files.{at_first}
use Rattle.processes.specs.Jobs.{TwoMoments, Tries}
use Rattle.processes.specs.Processes.{AreProcesses, Process, begun, entries_from, found, histories_of, left, mounts}
use Rattle.processes.specs.Processes.{process_entries, settled_as, settles}
use Rattle.processes.specs.Answers.{AcceptedIsKept, IsAccepted, LineAt, StandsBefore, left_by, lines_at, lines_in, lines_of_all}
use Rattle.processes.proofs.Clusters.{are_a_cluster, as_many, history_at, history_of}
use Rattle.processes.proofs.Finished.{done_was_finished}
use Rattle.processes.proofs.Following.{begun_state, line_leaves, process_ends, process_follows}
use Rattle.processes.proofs.Jobs.{jobs_are_kept, replay_both, tries_left}
use Rattle.processes.proofs.Settling.{Ended, simulates}

-- ---- moments in a list of entries

module _ (self nodes : ℕ) where
  record Before (s : NodeState) (es : List Entry) (t : NodeState) : Type 0 where
    first : List Entry
    rest : List Entry
    whole : first ++ rest ≡ es
    reach : replay self nodes s first ≡ t

  record Between (s : NodeState) (es : List Entry) (t u : NodeState) : Type 0 where
    first : List Entry
    more : List Entry
    rest : List Entry
    whole : first ++ more ++ rest ≡ es
    reach : replay self nodes s first ≡ t
    later : replay self nodes s (first ++ more) ≡ u

module _ (self nodes : ℕ) (s : NodeState) where
  replay_on : {t u : NodeState} (es fs : List Entry) → replay self nodes s es ≡ t → replay self nodes t fs ≡ u
      → replay self nodes s (es ++ fs) ≡ u
  replay_on es fs first second = replay_both self nodes s es fs ∙ ap (λ (x : NodeState). replay self nodes x fs) first ∙ second

  before_more : {t u : NodeState} (es fs : List Entry) → replay self nodes s es ≡ t → Before self nodes t fs u
      → Before self nodes s (es ++ fs) u
  before_more es fs is it = record {
    first = es ++ it.first;
    rest = it.rest;
    whole = append_assoc es it.first it.rest ∙ ap (λ (x : List Entry). es ++ x) it.whole;
    reach = replay_on es it.first is it.reach;
  }

  before_less : {u : NodeState} (es fs : List Entry) → Before self nodes s es u → Before self nodes s (es ++ fs) u
  before_less es fs it = record {
    first = it.first;
    rest = it.rest ++ fs;
    whole = sym (append_assoc it.first it.rest fs) ∙ ap (λ (x : List Entry). x ++ fs) it.whole;
    reach = it.reach;
  }

  between_more : {t u v : NodeState} (es fs : List Entry) → replay self nodes s es ≡ t → Between self nodes t fs u v
      → Between self nodes s (es ++ fs) u v
  between_more es fs is it = record {
    first = es ++ it.first;
    more = it.more;
    rest = it.rest;
    whole = ap (λ (x : List Entry). x ++ it.rest) (append_assoc es it.first it.more)
        ∙ append_assoc es (it.first ++ it.more) it.rest ∙ ap (λ (x : List Entry). es ++ x) it.whole;
    reach = replay_on es it.first is it.reach;
    later = ap (λ (x : List Entry). replay self nodes s x) (append_assoc es it.first it.more)
        ∙ replay_on es (it.first ++ it.more) is it.later;
  }

  between_less : {u v : NodeState} (es fs : List Entry) → Between self nodes s es u v → Between self nodes s (es ++ fs) u v
  between_less es fs it = record {
    first = it.first;
    more = it.more;
    rest = it.rest ++ fs;
    whole = sym (append_assoc (it.first ++ it.more) it.rest fs) ∙ ap (λ (x : List Entry). x ++ fs) it.whole;
    reach = it.reach;
    later = it.later;
  }

  -- one in the entries of before, the other in those behind them
  between_both : {t u v : NodeState} (es fs : List Entry) → replay self nodes s es ≡ t → Before self nodes s es u
      → Before self nodes t fs v → Between self nodes s (es ++ fs) u v
  between_both es fs is one two =
      let front : one.first ++ (one.rest ++ two.first) ≡ es ++ two.first = sym (append_assoc one.first one.rest two.first)
      ∙ ap (λ (x : List Entry). x ++ two.first) one.whole in record {
        first = one.first;
        more = one.rest ++ two.first;
        rest = two.rest;
        whole = ap (λ (x : List Entry). x ++ two.rest) front ∙ append_assoc es two.first two.rest
            ∙ ap (λ (x : List Entry). es ++ x) two.whole;
        reach = one.reach;
        later = ap (λ (x : List Entry). replay self nodes s x) front ∙ replay_on es two.first is two.reach;
      }

-- ---- the entries of a line

abbrev own_entries : ℕ → ℕ → NodeState → List Turn → List Entry
own_entries self nodes s ts = chains.entries_of self nodes s ts []

own_split : (self nodes : ℕ) (s : NodeState) (ts : List Turn) (later : List Entry) → AreGoing ts
    → chains.entries_of self nodes s ts later ≡ own_entries self nodes s ts ++ later
own_split self nodes s [] later going = refl
own_split self nodes s (Goes what ∷ ts) later going =
    ap (λ (es : List Entry). record { what = what; sent = sent_at self nodes s what } ∷ es)
    (own_split self nodes (after self nodes s what) ts later going.1)
own_split self nodes s (t ∷ ts) later going = absurd going.0

own_replay : (self nodes : ℕ) (s : NodeState) (ts : List Turn) → AreGoing ts
    → replay self nodes s (own_entries self nodes s ts) ≡ after_turns self nodes s ts
own_replay self nodes s [] going = refl
own_replay self nodes s (Goes what ∷ ts) going = own_replay self nodes (after self nodes s what) ts going.1
own_replay self nodes s (t ∷ ts) going = absurd going.0

-- ---- lines

-- what holds of a line of a process
pub record LineComes (self nodes slots : ℕ) (x : LineAt) : Type 0 where
  pub comes : ComesOf self nodes slots x.at x.line x.came
  pub going : AreGoing x.came.turns

-- of a line that is answered comes what may come of what it asks
pub asked_may : (self nodes slots : ℕ) (x : LineAt) {a : Asked} → LineComes self nodes slots x → x.at.stopped ≡ false
    → asked_under x.at.seal x.line ≡ a → MayCome self nodes slots x.at.state a x.came.turns
asked_may self nodes slots x line answered is = subst (λ (a : Asked). MayCome self nodes slots x.at.state a x.came.turns) is
    (subst (λ (b : Bool). Comes self nodes slots b x.at.state (asked_under x.at.seal x.line) x.came) answered line.comes).0

module _ (self nodes slots : ℕ) where
  line_comes : (a : At) (lines : List (List ℕ)) (all : List LineOutcome) (x : LineAt) → AreOf self nodes slots a lines all → AllGoing all
      → IsAmong x (lines_in self nodes a lines all) → LineComes self nodes slots x
  line_comes a [] [] x of going i = absurd i
  line_comes a (line ∷ lines) (came ∷ all) x of going i = elim i [
    | inl e ↦ rw e (record { comes = of.0; going = going.0 })
    | inr k ↦ line_comes (after_line self nodes a line came) lines all x of.1 going.1 k
  ]
  line_comes a lines all x of going i = absurd of

  line_before : (a : At) (lines : List (List ℕ)) (all : List LineOutcome) (y : LineAt) → AreOf self nodes slots a lines all → AllGoing all
      → IsAmong y (lines_in self nodes a lines all) → Before self nodes a.state (entries_in self nodes a.state all) (left_by self nodes y)
  line_before a [] [] y of going i = absurd i
  line_before a (line ∷ lines) (came ∷ all) y of going i =
      let own = own_entries self nodes a.state came.turns in
      let rest = entries_in self nodes (after_turns self nodes a.state came.turns) all in
      let leaves = own_replay self nodes a.state came.turns going.0 in
      subst (λ (es : List Entry). Before self nodes a.state es (left_by self nodes y))
      (sym (own_split self nodes a.state came.turns rest going.0)) (elim i [
        | inl e ↦ record { first = own; rest = rest; whole = refl; reach = leaves ∙ ap (left_by self nodes) (sym e) }
        | inr k ↦ before_more self nodes a.state own rest leaves
            (subst (λ (x : NodeState). Before self nodes x (entries_in self nodes x all) (left_by self nodes y))
            (sym (line_leaves self nodes slots a.stopped a line came of.0))
            (line_before (after_line self nodes a line came) lines all y of.1 going.1 k))
      ])
  line_before a lines all y of going i = absurd of

  lines_between : (a : At) (lines : List (List ℕ)) (all : List LineOutcome) (x y : LineAt) → AreOf self nodes slots a lines all
      → AllGoing all → StandsBefore x y (lines_in self nodes a lines all)
      → Between self nodes a.state (entries_in self nodes a.state all) (left_by self nodes x) (left_by self nodes y)
  lines_between a [] [] x y of going i = absurd i
  lines_between a (line ∷ lines) (came ∷ all) x y of going i =
      let own = own_entries self nodes a.state came.turns in
      let rest = entries_in self nodes (after_turns self nodes a.state came.turns) all in
      let leaves = own_replay self nodes a.state came.turns going.0 in
      let same = line_leaves self nodes slots a.stopped a line came of.0 in
      subst (λ (es : List Entry). Between self nodes a.state es (left_by self nodes x) (left_by self nodes y))
      (sym (own_split self nodes a.state came.turns rest going.0)) (elim i [
        | inl now ↦ between_both self nodes a.state own rest leaves
            (record { first = own; rest = []; whole = append-nil own; reach = leaves ∙ ap (left_by self nodes) (sym now.0) })
            (subst (λ (z : NodeState). Before self nodes z (entries_in self nodes z all) (left_by self nodes y)) (sym same)
            (line_before (after_line self nodes a line came) lines all y of.1 going.1 now.1))
        | inr k ↦ between_more self nodes a.state own rest leaves
            (subst (λ (z : NodeState). Between self nodes z (entries_in self nodes z all) (left_by self nodes x) (left_by self nodes y))
            (sym same) (lines_between (after_line self nodes a line came) lines all x y of.1 going.1 k))
      ])
  lines_between a lines all x y of going i = absurd of

  pub all_come : (s : NodeState) (ps : List Process) (x : LineAt) → AreProcesses self nodes slots s ps
      → IsAmong x (lines_of_all self nodes s ps) → LineComes self nodes slots x
  all_come s [] x are i = absurd i
  all_come s (p ∷ ps) x are i = elim (among_either x (lines_in self nodes (begun self nodes s p) p.life.lines p.life.all)
      (lines_of_all self nodes (left self nodes s p) ps) i) [
        | inl l ↦ line_comes (begun self nodes s p) p.life.lines p.life.all x are.1 are.2 l
        | inr r ↦ all_come (left self nodes s p) ps x are.3 r
      ]

stands_either : (x y : LineAt) (xs ys : List LineAt) → StandsBefore x y (xs ++ ys)
    → StandsBefore x y xs ⊎ ((IsAmong x xs × IsAmong y ys) ⊎ StandsBefore x y ys)
stands_either x y [] ys i = inr (inr i)
stands_either x y (z ∷ xs) ys i = elim i [
  | inl now ↦ elim (among_either y xs ys now.1) [ inl l ↦ inl (inl (now.0, l)) | inr r ↦ inr (inl (inl now.0, r)) ]
  | inr k ↦ elim (stands_either x y xs ys k) [
    | inl l ↦ inl (inr l)
    | inr r ↦ elim r [ inl both ↦ inr (inl (inr both.0, both.1)) | inr j ↦ inr (inr j) ]
  ]
]

pub last_among : (x y : LineAt) (xs : List LineAt) → StandsBefore x y xs → IsAmong y xs
last_among x y [] i = absurd i
last_among x y (z ∷ xs) i = elim i [ inl now ↦ inr now.1 | inr k ↦ inr (last_among x y xs k) ]

first_among : (x y : LineAt) (xs : List LineAt) → StandsBefore x y xs → IsAmong x xs
first_among x y [] i = absurd i
first_among x y (z ∷ xs) i = elim i [ inl now ↦ inl now.0 | inr k ↦ inr (first_among x y xs k) ]

-- ---- with the doubt of before

-- the entries in front stay in front
split_settled : (kept : Bool) (es fs : List Entry) → (rest : List Entry) × (settles kept es ++ rest ≡ settles kept (es ++ fs))
split_settled kept [] fs = (settles kept fs, refl)
split_settled kept (e ∷ es) fs =
    let more = split_settled kept es fs in
    let here : Entry = record { what = settled_as kept e.what; sent = e.sent } in
    elim (cases_Bool (mounts e.what)) [
      | inl is ↦ (fs, rw is refl)
      | inr is ↦ (more.0, rw is (ap (λ (x : List Entry). here ∷ x) more.1))
    ]

follows_front : (self nodes : ℕ) (s : NodeState) (es fs : List Entry) → Follows self nodes s (es ++ fs) → Follows self nodes s es
follows_front self nodes s [] fs follows = tt
follows_front self nodes s (e ∷ es) fs follows =
    (follows.0, follows.1, follows_front self nodes (after self nodes s e.what) es fs follows.2)

abbrev crash : List Entry
crash = record { what = Crashed; sent = [] } ∷ []

abbrev IsUp : NodeState → Type 0
IsUp s = is_down s.state.phase ≡ false

module _ (one : OneHistory) (self nodes slots : ℕ) where
  module _ {kept : Bool} {t s : NodeState} (p : Process) (ps : List Process) (ended : Ended self kept t s)
      (are : AreProcesses self nodes slots s (p ∷ ps)) where
    abbrev own : List Entry
    own = process_entries self nodes s p

    abbrev lines : List LineAt
    lines = lines_in self nodes (begun self nodes s p) p.life.lines p.life.all

    -- where the node is up, the doubt is settled
    up_settled : {u : NodeState} (es fs : List Entry) → es ++ fs ≡ own → replay self nodes (found self s p) es ≡ u → IsUp u
        → replay self nodes (after self nodes t Crashed) (settles (kept || p.kept) es) ≡ u
    up_settled es fs whole is up =
        let follows = follows_front self nodes (found self s p) es fs (rw whole (process_follows one self nodes slots s p ps are).0) in
        elim (simulates self nodes kept t s p es ended are.0 follows).ends [
          | inl both ↦ both.0 ∙ is
          | inr unsettled ↦ (let down_too : true ≡ false = ap (λ (x : NodeState). is_down x.state.phase) (sym unsettled.2)
              ∙ (ap (λ (x : NodeState). is_down x.state.phase) is ∙ up) in absurd cc)
        ]

    process_before : (y : LineAt) → IsUp (left_by self nodes y) → IsAmong y lines
        → Before self nodes t (crash ++ settles (kept || p.kept) own) (left_by self nodes y)
    process_before y up i =
        let it = subst (λ (z : NodeState). Before self nodes z (entries_in self nodes z p.life.all) (left_by self nodes y))
        (begun_state self nodes s p) (line_before self nodes slots (begun self nodes s p) p.life.lines p.life.all y are.1 are.2 i) in
        let split = split_settled (kept || p.kept) it.first it.rest in
        before_more self nodes t crash (settles (kept || p.kept) own) refl (record {
          first = settles (kept || p.kept) it.first;
          rest = split.0;
          whole = split.1 ∙ ap (settles (kept || p.kept)) it.whole;
          reach = up_settled it.first it.rest it.whole it.reach up;
        })

    process_between : (x y : LineAt) → IsUp (left_by self nodes x) → IsUp (left_by self nodes y) → StandsBefore x y lines
        → Between self nodes t (crash ++ settles (kept || p.kept) own) (left_by self nodes x) (left_by self nodes y)
    process_between x y up_x up_y i =
        let k = kept || p.kept in
        let it = subst (λ (z : NodeState). Between self nodes z (entries_in self nodes z p.life.all) (left_by self nodes x)
        (left_by self nodes y)) (begun_state self nodes s p)
        (lines_between self nodes slots (begun self nodes s p) p.life.lines p.life.all x y are.1 are.2 i) in
        let near = split_settled k it.first it.more in
        let far = split_settled k (it.first ++ it.more) it.rest in
        let all : it.first ++ (it.more ++ it.rest) ≡ own = sym (append_assoc it.first it.more it.rest) ∙ it.whole in
        between_more self nodes t crash (settles k own) refl (record {
          first = settles k it.first;
          more = near.0;
          rest = far.0;
          whole = ap (λ (x : List Entry). x ++ far.0) near.1 ∙ far.1 ∙ ap (settles k) it.whole;
          reach = up_settled it.first (it.more ++ it.rest) all it.reach up_x;
          later = ap (replay self nodes (after self nodes t Crashed)) near.1
              ∙ up_settled (it.first ++ it.more) it.rest it.whole it.later up_y;
        })

  all_before : (ps : List Process) {kept : Bool} {t s : NodeState} (y : LineAt) → Ended self kept t s → AreProcesses self nodes slots s ps
      → IsUp (left_by self nodes y) → IsAmong y (lines_of_all self nodes s ps)
      → Before self nodes t (entries_from self nodes kept s ps) (left_by self nodes y)
  all_before [] y ended are up i = absurd i
  all_before (p ∷ ps) {kept} {t} {s} y ended are up i =
      let here = crash ++ settles (kept || p.kept) (process_entries self nodes s p) in
      elim (among_either y (lines p ps ended are) (lines_of_all self nodes (left self nodes s p) ps) i) [
        | inl l ↦ before_less self nodes t here _ (process_before p ps ended are y up l)
        | inr r ↦ before_more self nodes t here _ refl (all_before ps y (process_ends one self nodes slots p ps ended are) are.3 up r)
      ]

  all_between : (ps : List Process) {kept : Bool} {t s : NodeState} (x y : LineAt) → Ended self kept t s
      → AreProcesses self nodes slots s ps → IsUp (left_by self nodes x) → IsUp (left_by self nodes y)
      → StandsBefore x y (lines_of_all self nodes s ps)
      → Between self nodes t (entries_from self nodes kept s ps) (left_by self nodes x) (left_by self nodes y)
  all_between [] x y ended are up_x up_y i = absurd i
  all_between (p ∷ ps) {kept} {t} {s} x y ended are up_x up_y i =
      let here = crash ++ settles (kept || p.kept) (process_entries self nodes s p) in
      let ends = process_ends one self nodes slots p ps ended are in
      elim (stands_either x y (lines p ps ended are) (lines_of_all self nodes (left self nodes s p) ps) i) [
        | inl l ↦ between_less self nodes t here _ (process_between p ps ended are x y up_x up_y l)
        | inr r ↦ elim r [
          | inl both ↦ between_both self nodes t here _ refl (process_before p ps ended are x up_x both.0)
              (all_before ps y ends are.3 up_y both.1)
          | inr j ↦ between_more self nodes t here _ refl (all_between ps x y ends are.3 up_x up_y j)
        ]
      ]

-- ---- a job that was accepted

abbrev the_job : ℕ → Work → Job
the_job id work = record { id = id; work = work }

-- the node is up and has the job
abbrev HasJob : NodeState → Job → Type 0
HasJob s job = (is_down s.state.phase ≡ false) × IsAmong job s.durable.pending

up_by : (down normal leads : Bool) (a b c : CoreFault) → (if down then Some a
    else (if not normal then Some b else (if not leads then Some c else None))) ≡ None → down ≡ false
up_by true normal leads a b c is = absurd cc
up_by false normal leads a b c is = refl

-- the one call of a line that submits work
taken_by : (self nodes : ℕ) (s : NodeState) (work : Work) (event : Event) (id : ℕ) → event ≡ on.Submit work
    → IsPossible self nodes s (Did event) → end_of self nodes s (Goes (Did event)) ≡ Ok (Some id)
    → (is_down s.state.phase ≡ false) × HasJob (after self nodes s (Did event)) (the_job id work)
taken_by self nodes s work (on.Submit w) id same may ended =
    let work_is : w ≡ work = cc same in
    let id_is : s.durable.next ≡ id = cc ended in
    let job_is : the_job id work ≡ the_job s.durable.next w = λ i. record { id = sym id_is i; work = sym work_is i } in
    let up = up_by (in_phase Down s.state.phase) (in_phase Normal s.state.phase)
    (s.state.coordinator == self) fault.Down fault.NotNormal (fault.NotCoordinator s.state.coordinator) may.1.by_core in (
      up,
      (
        stays_up nodes self s.durable.pending (on.Submit w) s.durable.next s.state up,
        among_right (the_job id work) s.durable.pending (the_job s.durable.next w ∷ []) (inl job_is),
      ),
    )
taken_by self nodes s work event id same may ended = absurd cc

submitted : (self nodes : ℕ) (s : NodeState) (work : Work) (what : HistoryEvent) (id : ℕ) → event_of what ≡ Some (on.Submit work)
    → IsPossible self nodes s what → end_of self nodes s (Goes what) ≡ Ok (Some id)
    → (is_down s.state.phase ≡ false) × HasJob (after self nodes s what) (the_job id work)
submitted self nodes s work (Did event) id is may ended =
    (let same : event ≡ on.Submit work = cc is in taken_by self nodes s work event id same may ended)
submitted self nodes s work what id is may ended = absurd cc

-- a line ends as its first call did, unless the call behind it failed
pub step_ended : (one two end : CallEnd) → is_failed end ≡ false → behind_end one two ≡ end → one ≡ end
step_ended one two end fine is = cond_both (is_failed two) _ _ (λ (e : CallEnd). e ≡ end → one ≡ end)
    (λ fails same. absurd (let both : false ≡ true = sym fine ∙ (ap is_failed (sym same) ∙ fails) in cc)) (λ _ same. same) is

none_behind : (self nodes slots : ℕ) (b c : Bool) (s : NodeState) (ts : List Turn) (job : Job) → b ≡ false
    → IsWrittenAnew (brought_up b c) self nodes slots s ts → HasJob s job → HasJob (after_turns self nodes s ts) job
none_behind self nodes slots true c s ts job up may i = absurd cc
none_behind self nodes slots false c s [] job up may i = i
none_behind self nodes slots false c s (t ∷ ts) job up may i = absurd may

submit_takes : (self nodes slots : ℕ) (s : NodeState) (ts : List Turn) (job : Job) → ComesOfEvent self nodes slots s (on.Submit job.work) ts
    → AreGoing ts → event_line_end self nodes s ts ≡ Ok (Some job.id) → HasJob (after_turns self nodes s ts) job
submit_takes self nodes slots s [] job may going ended = absurd may
submit_takes self nodes slots s (Goes what ∷ ts) job may going ended =
    let step = step_ended (end_of self nodes s (Goes what)) (line_end self nodes s (Goes what ∷ ts)) (Ok (Some job.id)) refl ended in
    let it = submitted self nodes s job.work what job.id may.0.0 may.0.1 step in
    none_behind self nodes slots (is_down s.state.phase) (is_down (after self nodes s what).state.phase)
    (after self nodes s what) ts job it.0 may.1 it.1
submit_takes self nodes slots s (t ∷ ts) job may going ended = absurd going.0

accepted_pends : (self nodes slots : ℕ) (x : LineAt) (job : Job) → LineComes self nodes slots x → IsAccepted self nodes x job
    → HasJob (left_by self nodes x) job
accepted_pends self nodes slots x job line it =
    submit_takes self nodes slots x.at.state x.came.turns job (asked_may self nodes slots x line it.answered it.asked) line.going it.ended

pub accepted_is_kept : OneHistory → AcceptedIsKept
accepted_is_kept one cluster are n node at x y before job accepted up =
    let nodes = length cluster in
    let s = at_first n node.file in
    let runs = are.processes n node at in
    let over = are_a_cluster one cluster are in
    let pends = accepted_pends n nodes node.slots x job (all_come n nodes node.slots s node.processes x runs
    (first_among x y (lines_at cluster n node) before)) accepted in
    let it = all_between one n nodes node.slots node.processes {kept = false} x y (inl (refl, refl)) runs pends.0 up before in
    let there = history_at 0 nodes cluster n n node at (omega arith) in
    let two : TwoMoments (histories_of cluster) n = record {
      node = history_of n nodes node;
      at = there;
      first = it.first;
      more = it.more;
      rest = it.rest;
      whole = it.whole;
    } in
    let many = as_many 0 nodes cluster in
    let first : IsAmong job (replay n (length (histories_of cluster)) s it.first).durable.pending =
    subst (λ (k : ℕ). IsAmong job (replay n k s it.first).durable.pending) (sym many)
    (subst (λ (t : NodeState). IsAmong job t.durable.pending) (sym it.reach) pends.1) in
    elim (jobs_are_kept (histories_of cluster) over n two job first) [
      | inl kept ↦ inl (subst (λ (t : NodeState). IsAmong job t.durable.pending) it.later
          (subst (λ (k : ℕ). IsAmong job (replay n k s (it.first ++ it.more)).durable.pending) many kept))
      | inr tries ↦ inr (done_was_finished (histories_of cluster) over n (history_of n nodes node) there job.id
          (subst (λ (es : List Entry). Tries n (length (histories_of cluster)) s es (Done job.id)) it.whole
          (tries_left n (length (histories_of cluster)) s (it.first ++ it.more) it.rest (Done job.id) tries)))
    ]
