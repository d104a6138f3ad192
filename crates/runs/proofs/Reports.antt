-- What the report of a run says, part by part.
use Rattle.std.proofs.Common.{◌≡◌, ◌≢◌, ℕ, ◌+◌, ◌<◌, Bool, true, false, List, [], ◌∷◌, ◌++◌, length, map, slice_get, refl, sym, ◌∙◌, ap}
use Rattle.std.proofs.Common.{subst, arith, Option, Some, None, append_assoc}
use Rattle.std.specs.Prelude.{if◌then◌else◌, ◌==◌, option_to_list, flat_map}
use Rattle.std.proofs.lemmas.List.{append-nil, length-append, map-id}
use Rattle.std.proofs.lemmas.Bool.Decides.{nat_tests}
use Rattle.group_task.specs.Group.{Group}
use Rattle.node_core.specs.Words.{own_group}
use Rattle.job_model.specs.declared.node_command.NodeCommand.{NodeCommand as Command}
use Rattle.job_model.specs.declared.node_command.NodeCommand.TheVariants.{Raise, Put, Done}
use Rattle.job_model.specs.Durable.{Durable, formatted}
use Rattle.job_model.specs.Answer.{answer_of}
use Rattle.histories.specs.NodeState.{NodeState, opening, wants_at}
use Rattle.histories.specs.declared.history_event.HistoryEvent.{HistoryEvent}
use Rattle.histories.specs.declared.history_event.HistoryEvent.TheVariants.{Did, Faulted}
use Rattle.histories.specs.HistoryEvent.{Entry}
use Rattle.histories.specs.After.{after, sent_at, given_at, raised, mounted_at}
use Rattle.histories.specs.Kept.{Mounting}
use Rattle.histories.specs.declared.attempt.Attempt.{Attempt}
use Rattle.histories.specs.Marks.{Mark, Acknowledged, Unanswered, Mounted, commands_of, mountings_of, tried_marks, failed_marks, marks_at}
use Rattle.histories.specs.Marks.{marks_from, marks_of}
use Rattle.histories.proofs.PublicLaws.{commands_append, eq_nat}
use Rattle.schedule.specs.declared.act.Act.{Act}
use Rattle.runs.proofs.Own.{append_own, all_mine, none_mine, one_each}
use Rattle.runs.specs.World.{World, node_in, start}
use Rattle.runs.specs.Step.{Step, Takes, Changes, Denies, world_after}
use Rattle.runs.specs.Run.{history_in}
use Rattle.runs.specs.Acts.{IsRunOf}
use Rattle.runs.specs.Given.{groups_at, groups_from, groups_of}
use Rattle.runs.specs.Reporting.{Moment, Report, moment_of, own_commands, own_mountings, first_report, tries, grown, report_from, report_of}
use Rattle.runs.specs.Reporting.{commands_at, group_of}
use Rattle.runs.specs.declared.attempt_at.AttemptAt.{AttemptAt}
use Rattle.runs.proofs.Runs.{node_there, state_here, state_elsewhere, starts_opened}

-- ---- openings, moments and groups

-- a moment for each act that has its step
abbrev pub moments_from : ℕ → World → List Act → List Step → List Moment
moments_from nodes w [] steps = []
moments_from nodes w (a ∷ acts) [] = []
moments_from nodes w (a ∷ acts) (step ∷ steps) = moment_of nodes w a step ∷ moments_from nodes (world_after nodes w step) acts steps

opening_kept : (nodes : ℕ) (acts : List Act) (steps : List Step) (w : World) (r : Report)
    → (report_from nodes w r acts steps).opening ≡ r.opening
opening_kept nodes [] steps w r = refl
opening_kept nodes (a ∷ acts) [] w r = refl
opening_kept nodes (a ∷ acts) (step ∷ steps) w r = opening_kept nodes acts steps (world_after nodes w step) (grown nodes w a step r)

pub opening_is : (nodes : ℕ) (acts : List Act) (steps : List Step)
    → (report_of nodes acts steps).opening ≡ map (λ (s : NodeState). s.state) (start nodes).states
opening_is nodes acts steps = opening_kept nodes acts steps (start nodes) (first_report nodes)

moments_added : (nodes : ℕ) (acts : List Act) (steps : List Step) (w : World) (r : Report)
    → (report_from nodes w r acts steps).moments ≡ r.moments ++ moments_from nodes w acts steps
moments_added nodes [] steps w r = sym (append-nil r.moments)
moments_added nodes (a ∷ acts) [] w r = sym (append-nil r.moments)
moments_added nodes (a ∷ acts) (step ∷ steps) w r =
    moments_added nodes acts steps (world_after nodes w step) (grown nodes w a step r)
    ∙ append_assoc r.moments (moment_of nodes w a step ∷ []) (moments_from nodes (world_after nodes w step) acts steps)

pub moments_are : (nodes : ℕ) (acts : List Act) (steps : List Step)
    → (report_of nodes acts steps).moments ≡ moments_from nodes (start nodes) acts steps
moments_are nodes acts steps = moments_added nodes acts steps (start nodes) (first_report nodes)

-- those of one node, with its number
abbrev pub with_node : ℕ → List Attempt → List AttemptAt
with_node m ts = map (λ (t : Attempt). record { node = m; tried = t }) ts

abbrev pub groups_by : List AttemptAt → List Group
groups_by ts = flat_map (λ (t : AttemptAt). group_of t.node t.tried.command t.tried.acked) ts

did_gives : (n : ℕ) (d : Durable) (wants : Option Command)
    → groups_by (with_node n (map (λ (c : Command). record { command = c; acked = Some (answer_of d c) }) (option_to_list wants)))
    ≡ map (own_group n) (raised d wants)
did_gives n d None = refl
did_gives n d (Some Raise) = refl
did_gives n d (Some (Put work)) = refl
did_gives n d (Some (Done id)) = refl

failed_gives : (n : ℕ) (wants : Option Command) → groups_by
    (with_node n (map (λ (c : Command). record { command = c; acked = None }) (option_to_list wants))) ≡ []
failed_gives n None = refl
failed_gives n (Some Raise) = refl
failed_gives n (Some (Put work)) = refl
failed_gives n (Some (Done id)) = refl

what_gives : (n nodes : ℕ) (s : NodeState) (what : HistoryEvent)
    → groups_by (with_node n (tries n nodes s what)) ≡ map (own_group n) (given_at n nodes s what)
what_gives n nodes s (Did event) = did_gives n s.durable (wants_at n nodes s event)
what_gives n nodes s (Faulted event) = failed_gives n (wants_at n nodes s event)
what_gives n nodes s _ = refl

step_gives : (nodes : ℕ) (w : World) (step : Step) → groups_by (commands_at nodes w step) ≡ groups_at nodes w step
step_gives nodes w (Takes n number what) = what_gives n nodes (node_in w.states n) what
step_gives nodes w _ = refl

groups_added : (nodes slots : ℕ) (acts : List Act) (steps : List Step) (w : World) (r : Report) → IsRunOf nodes slots w acts steps
    → (report_from nodes w r acts steps).groups ≡ r.groups ++ groups_from nodes w steps
groups_added nodes slots [] [] w r run = sym (append-nil r.groups)
groups_added nodes slots (a ∷ acts) (step ∷ steps) w r run =
    groups_added nodes slots acts steps (world_after nodes w step) (grown nodes w a step r) run.2
    ∙ (ap (λ (gs : List Group). (r.groups ++ gs) ++ groups_from nodes (world_after nodes w step) steps) (step_gives nodes w step)
    ∙ append_assoc r.groups (groups_at nodes w step) (groups_from nodes (world_after nodes w step) steps))
groups_added nodes slots _ _ w r run = absurd run

pub groups_are : (nodes slots : ℕ) (acts : List Act) (steps : List Step) → IsRunOf nodes slots (start nodes) acts steps
    → (report_of nodes acts steps).groups ≡ groups_of nodes steps
groups_are nodes slots acts steps run = groups_added nodes slots acts steps (start nodes) (first_report nodes) run

-- ---- what a node tried and mounted

mountings_append : (ms ns : List Mark) → mountings_of (ms ++ ns) ≡ mountings_of ms ++ mountings_of ns
mountings_append [] ns = refl
mountings_append (Acknowledged c a ∷ ms) ns = mountings_append ms ns
mountings_append (Unanswered c ∷ ms) ns = mountings_append ms ns
mountings_append (Mounted w ∷ ms) ns = ap (λ (ws : List Mounting). w ∷ ws) (mountings_append ms ns)

pub own_append : (n : ℕ) (xs ys : List AttemptAt) → own_commands n (xs ++ ys) ≡ own_commands n xs ++ own_commands n ys
own_append n xs ys = append_own (λ (t : AttemptAt). t.node) (λ (t : AttemptAt). t.tried) n xs ys

own_mounted_append : (n : ℕ) (xs ys : List (ℕ × Mounting)) → own_mountings n (xs ++ ys) ≡ own_mountings n xs ++ own_mountings n ys
own_mounted_append n xs ys = append_own (λ (w : ℕ × Mounting). w.0) (λ (w : ℕ × Mounting). w.1) n xs ys

abbrev mounted_there : ℕ → ℕ → Option Durable → List (ℕ × Mounting)
mounted_there m before d = map (λ (d : Durable). (m, record { before = before; state = d })) (option_to_list d)

-- the commands and mountings of an entry are its marks
did_tries : (d : Durable) (wants : Option Command) → map (λ (c : Command). record { command = c; acked = Some (answer_of d c) })
    (option_to_list wants) ≡ commands_of (tried_marks d wants)
did_tries d None = refl
did_tries d (Some c) = refl

failed_tries : (wants : Option Command) → map (λ (c : Command). record { command = c; acked = None }) (option_to_list wants)
    ≡ commands_of (failed_marks wants)
failed_tries None = refl
failed_tries (Some c) = refl

did_mounts : (d : Durable) (wants : Option Command) → [] ≡ mountings_of (tried_marks d wants)
did_mounts d None = refl
did_mounts d (Some c) = refl

failed_mounts : (wants : Option Command) → [] ≡ mountings_of (failed_marks wants)
failed_mounts None = refl
failed_mounts (Some c) = refl

tries_are : (n nodes count : ℕ) (s : NodeState) (what : HistoryEvent) → tries n nodes s what ≡ commands_of (marks_at n nodes s count what)
tries_are n nodes count s (Did event) = did_tries s.durable (wants_at n nodes s event)
tries_are n nodes count s (Faulted event) = failed_tries (wants_at n nodes s event)
tries_are n nodes count s _ = refl

mounts_are : (n nodes count : ℕ) (s : NodeState) (what : HistoryEvent)
    → map (λ (x : Durable). record { before = count; state = x }) (option_to_list (mounted_at s what))
    ≡ mountings_of (marks_at n nodes s count what)
mounts_are n nodes count s (Did event) = did_mounts s.durable (wants_at n nodes s event)
mounts_are n nodes count s (Faulted event) = failed_mounts (wants_at n nodes s event)
mounts_are n nodes count s _ = refl

-- what a report says of one node went on by these marks
record GoesOn (n : ℕ) (r r' : Report) (ms : List Mark) : Type 0 where
  commands : own_commands n r'.commands ≡ own_commands n r.commands ++ commands_of ms
  mounted : own_mountings n r'.mounted ≡ own_mountings n r.mounted ++ mountings_of ms

then_on : (n : ℕ) (r q p : Report) (ms ns : List Mark) → GoesOn n r q ms → GoesOn n q p ns → GoesOn n r p (ms ++ ns)
then_on n r q p ms ns first later = record {
  commands = later.commands ∙ ap (λ (ts : List Attempt). ts ++ commands_of ns) first.commands
      ∙ append_assoc (own_commands n r.commands) (commands_of ms) (commands_of ns)
      ∙ ap (λ (ts : List Attempt). own_commands n r.commands ++ ts) (sym (commands_append ms ns));
  mounted = later.mounted ∙ ap (λ (ws : List Mounting). ws ++ mountings_of ns) first.mounted
      ∙ append_assoc (own_mountings n r.mounted) (mountings_of ms) (mountings_of ns)
      ∙ ap (λ (ws : List Mounting). own_mountings n r.mounted ++ ws) (sym (mountings_append ms ns));
}

-- so many commands are reported of the node
abbrev so_many : ℕ → Report → ℕ
so_many n r = length (own_commands n r.commands)

more_reported : (n : ℕ) (r q : Report) (ms : List Mark) → GoesOn n r q ms → so_many n q ≡ so_many n r + length (commands_of ms)
more_reported n r q ms on = ap (λ (ts : List Attempt). length ts) on.commands ∙ length-append (own_commands n r.commands) (commands_of ms)

-- a step at the node, one at another node, and one of none
step_here : (m n nodes number : ℕ) (w : World) (a : Act) (what : HistoryEvent) (r : Report) (s : NodeState) → (m == n) ≡ true
    → slice_get w.states n ≡ Some s
    → GoesOn n r (grown nodes w a (Takes m number what) r) (marks_at n nodes s (so_many n r) what)
step_here m n nodes number w a what r s is at =
    let same : m ≡ n = eq_nat m n is in
    let here : node_in w.states m ≡ s = ap (λ (j : ℕ). node_in w.states j) same ∙ node_there w.states n s at in
    record {
      commands = own_append n r.commands (with_node m (tries m nodes (node_in w.states m) what))
          ∙ ap (λ (ts : List Attempt). own_commands n r.commands ++ ts)
          (all_mine (λ (t : AttemptAt). t.node) (λ (t : AttemptAt). t.tried) (λ (t : Attempt). record { node = m; tried = t }) m n (λ t.
          refl) is (tries m nodes (node_in w.states m) what) ∙ map-id _ ∙ (λ i. tries (same i) nodes (here i) what)
          ∙ tries_are n nodes (so_many n r) s what);
      mounted = own_mounted_append n r.mounted (mounted_there m (so_many m r) (mounted_at (node_in w.states m) what))
          ∙ ap (λ (ws : List Mounting). own_mountings n r.mounted ++ ws)
          (all_mine (λ (w : ℕ × Mounting). w.0) (λ (w : ℕ × Mounting). w.1) (λ (d : Durable). (
            m,
            record { before = so_many m r; state = d },
          )) m n (λ d. refl) is (option_to_list (mounted_at (node_in w.states m) what))
          ∙ (λ i. map (λ (x : Durable). record { before = so_many (same i) r; state = x }) (option_to_list (mounted_at (here i) what)))
          ∙ mounts_are n nodes (so_many n r) s what);
    }

step_elsewhere : (m n nodes number : ℕ) (w : World) (a : Act) (what : HistoryEvent) (r : Report) → (m == n) ≡ false
    → GoesOn n r (grown nodes w a (Takes m number what) r) []
step_elsewhere m n nodes number w a what r is = record {
  commands = own_append n r.commands (with_node m (tries m nodes (node_in w.states m) what))
      ∙ ap (λ (ts : List Attempt). own_commands n r.commands ++ ts)
      (none_mine (λ (t : AttemptAt). t.node) (λ (t : AttemptAt). t.tried) (λ (t : Attempt). record { node = m; tried = t }) m n (λ t.
      refl) is (tries m nodes (node_in w.states m) what));
  mounted = own_mounted_append n r.mounted (mounted_there m (so_many m r) (mounted_at (node_in w.states m) what))
      ∙ ap (λ (ws : List Mounting). own_mountings n r.mounted ++ ws)
      (none_mine (λ (w : ℕ × Mounting). w.0) (λ (w : ℕ × Mounting). w.1) (λ (d : Durable). (
        m,
        record { before = so_many m r; state = d },
      )) m n (λ d. refl) is (option_to_list (mounted_at (node_in w.states m) what)));
}

quiet_step : (n : ℕ) (r q : Report) → q.commands ≡ r.commands ++ [] → q.mounted ≡ r.mounted ++ [] → GoesOn n r q []
quiet_step n r q same_commands same_mounted = record {
  commands = ap (λ (ts : List AttemptAt). own_commands n ts) same_commands ∙ own_append n r.commands [];
  mounted = ap (λ (ws : List (ℕ × Mounting)). own_mountings n ws) same_mounted ∙ own_mounted_append n r.mounted [];
}

-- and so does the report of a run, by the marks of the node's history
quiet_on : (n nodes : ℕ) (r q p : Report) (s : NodeState) (es : List Entry) → GoesOn n r q []
    → GoesOn n q p (marks_from n nodes s (so_many n q) es) → GoesOn n r p (marks_from n nodes s (so_many n r) es)
quiet_on n nodes r q p s es none rest =
    let same : so_many n q ≡ so_many n r = (let more = more_reported n r q [] none in omega (arith, more)) in
    then_on n r q p [] _ none (subst (λ (k : ℕ). GoesOn n q p (marks_from n nodes s k es)) same rest)

report_goes_on : (n nodes slots : ℕ) (acts : List Act) (steps : List Step) (w : World) (r : Report) (s : NodeState)
    → slice_get w.states n ≡ Some s → IsRunOf nodes slots w acts steps
    → GoesOn n r (report_from nodes w r acts steps) (marks_from n nodes s (so_many n r) (history_in n nodes w steps))
report_goes_on n nodes slots [] [] w r s at run = record {
  commands = sym (append-nil (own_commands n r.commands));
  mounted = sym (append-nil (own_mountings n r.mounted));
}
report_goes_on n nodes slots [] (step ∷ steps) w r s at run = absurd run
report_goes_on n nodes slots (a ∷ acts) [] w r s at run = absurd run
report_goes_on n nodes slots (a ∷ acts) (Takes m number what ∷ steps) w r s at run =
    pick (m == n) refl (λ t u. report_goes_on n nodes slots acts steps (world_after nodes w (Takes m number what))
    (grown nodes w a (Takes m number what) r) t u run.2)
  where
    pick : (b : Bool) → (m == n) ≡ b
        → ((t : NodeState) → slice_get (world_after nodes w (Takes m number what)).states n ≡ Some t
        → GoesOn n (grown nodes w a (Takes m number what) r) (report_from nodes (world_after nodes w (Takes m number what))
        (grown nodes w a (Takes m number what) r) acts steps)
        (marks_from n nodes t (so_many n (grown nodes w a (Takes m number what) r))
        (history_in n nodes (world_after nodes w (Takes m number what)) steps)))
        → GoesOn n r (report_from nodes (world_after nodes w (Takes m number what)) (grown nodes w a (Takes m number what) r) acts steps)
        (marks_from n nodes s (so_many n r) ((if b then record { what = what; sent = sent_at m nodes (node_in w.states m) what } ∷ []
        else []) ++ history_in n nodes (world_after nodes w (Takes m number what)) steps))
    pick true is rest =
        let q = grown nodes w a (Takes m number what) r in
        let p = report_from nodes (world_after nodes w (Takes m number what)) q acts steps in
        let es = history_in n nodes (world_after nodes w (Takes m number what)) steps in
        let t = after n nodes s what in
        let now = step_here m n nodes number w a what r s is at in
        then_on n r q p (marks_at n nodes s (so_many n r) what) (marks_from n nodes t
        (so_many n r + length (commands_of (marks_at n nodes s (so_many n r) what))) es) now
        (subst (λ (k : ℕ). GoesOn n q p (marks_from n nodes t k es)) (more_reported n r q (marks_at n nodes s (so_many n r) what) now)
        (rest t (state_here m n nodes what w.states s (eq_nat m n is) at)))
    pick false is rest =
        let ne : n ≢ m = grind (arith, nat_tests) in
        quiet_on n nodes r (grown nodes w a (Takes m number what) r)
        (report_from nodes (world_after nodes w (Takes m number what)) (grown nodes w a (Takes m number what) r) acts steps) s
        (history_in n nodes (world_after nodes w (Takes m number what)) steps) (step_elsewhere m n nodes number w a what r is)
        (rest s (state_elsewhere m n nodes what w.states ne ∙ at))
report_goes_on n nodes slots (a ∷ acts) (Changes net ∷ steps) w r s at run =
    let q = grown nodes w a (Changes net) r in
    quiet_on n nodes r q _ s (history_in n nodes (world_after nodes w (Changes net)) steps) (quiet_step n r q refl refl)
    (report_goes_on n nodes slots acts steps (world_after nodes w (Changes net)) q s at run.2)
report_goes_on n nodes slots (a ∷ acts) (Denies named why ∷ steps) w r s at run =
    let q = grown nodes w a (Denies named why) r in
    quiet_on n nodes r q _ s (history_in n nodes w steps) (quiet_step n r q refl refl)
    (report_goes_on n nodes slots acts steps w q s at run.2)

-- ---- the openings

abbrev raised_first : ℕ → AttemptAt
raised_first n = record { node = n; tried = record { command = Raise; acked = Some 1 } }

abbrev mounted_first : ℕ → ℕ × Mounting
mounted_first n = (n, record { before = 0; state = formatted })

-- each node raised once
pub raised_once : (nodes n : ℕ) → n < nodes → own_commands n (first_report nodes).commands ≡ record { command = Raise; acked = Some 1 } ∷ []
raised_once nodes n lt = one_each (λ (t : AttemptAt). t.node) (λ (t : AttemptAt). t.tried) raised_first (λ i. refl) nodes 0 n (omega arith)
    (omega (arith, lt))

-- ---- what the report of a run says of a node is what its history says

own_reported : (nodes slots n : ℕ) (acts : List Act) (steps : List Step) → IsRunOf nodes slots (start nodes) acts steps → n < nodes
    → GoesOn n (first_report nodes) (report_of nodes acts steps) (marks_from n nodes (opening n) 1 (history_in n nodes (start nodes) steps))
own_reported nodes slots n acts steps run lt =
    let once : so_many n (first_report nodes) ≡ 1 = ap (λ (ts : List Attempt). length ts) (raised_once nodes n lt) in
    subst (λ (k : ℕ). GoesOn n (first_report nodes) (report_of nodes acts steps)
    (marks_from n nodes (opening n) k (history_in n nodes (start nodes) steps))) once
    (report_goes_on n nodes slots acts steps (start nodes) (first_report nodes) (opening n) (starts_opened nodes n lt) run)

pub commands_reported : (nodes slots n : ℕ) (acts : List Act) (steps : List Step) → IsRunOf nodes slots (start nodes) acts steps → n < nodes
    → own_commands n (report_of nodes acts steps).commands ≡ commands_of (marks_of n nodes (history_in n nodes (start nodes) steps))
commands_reported nodes slots n acts steps run lt =
    (own_reported nodes slots n acts steps run lt).commands ∙ ap (λ (ts : List Attempt). ts
    ++ commands_of (marks_from n nodes (opening n) 1 (history_in n nodes (start nodes) steps))) (raised_once nodes n lt)

pub mounted_reported : (nodes slots n : ℕ) (acts : List Act) (steps : List Step) → IsRunOf nodes slots (start nodes) acts steps → n < nodes
    → own_mountings n (report_of nodes acts steps).mounted ≡ mountings_of (marks_of n nodes (history_in n nodes (start nodes) steps))
mounted_reported nodes slots n acts steps run lt =
    (own_reported nodes slots n acts steps run lt).mounted
    ∙ ap (λ (ws : List Mounting). ws ++ mountings_of (marks_from n nodes (opening n) 1 (history_in n nodes (start nodes) steps)))
    (one_each (λ (w : ℕ × Mounting). w.0) (λ (w : ℕ × Mounting). w.1) mounted_first (λ i. refl) nodes 0 n (omega arith) (omega (
      arith,
      lt,
    )))
