-- One pass over the table: what each row does.
use Rattle.job_model.specs.declared.job.Job.{Job}
use Rattle.job_model.specs.declared.work.Work.{Work}
use Rattle.std.proofs.Common.{◌≡◌, ◌≢◌, ◌⊎◌, ℕ, ◌+◌, Bool, true, false, not, ◌&&◌, List, [], ◌∷◌, refl, sym, ap, ◌∙◌, subst, inl, inr}
use Rattle.std.proofs.Common.{Option, Some, None, IfSome}
use Rattle.std.specs.Prelude.{if◌then◌else◌, ◌==◌}
use Rattle.group_task.specs.Group.{Group, same_group}
use Rattle.group_task.specs.Assignment.{Assignment}
use Rattle.group_task.specs.Ids.{has, with_id, without_id, either_of, ids_below}
use Rattle.group_task.proofs.PublicLaws.{with_has_same}
use Rattle.job_model.specs.declared.node_command.NodeCommand.TheVariants.{Raise, Put, Done}
use Rattle.job_model.specs.Durable.{Durable}
use Rattle.job_model.specs.Fold.{is_pending}
use Rattle.job_model.specs.Answer.{answer_to}
use Rattle.wire_msg.specs.Envelope.{Envelope}
use Rattle.wire_msg.specs.declared.body.Body.{Body}
use Rattle.wire_msg.specs.declared.body.Body.TheVariants.{AreYouCoordinator, Coordinator, AreYouThere, Here, Invitation, Accept, Ready}
use Rattle.wire_msg.specs.declared.body.Body.TheVariants.{ReadyAck, Work as WorkMessage, Done as DoneMessage}
use Rattle.node_core.specs.declared.event.Event.{Event}
use Rattle.node_core.specs.declared.event.Event.TheVariants.{Timer as TimerEvent, Deliver, Submit, Finish, Recover}
use Rattle.node_core.specs.declared.fault.CoreFault.{CoreFault}
use Rattle.node_core.specs.declared.in_hand.InHand.{InHand}
use Rattle.node_core.specs.declared.timer.Timer.{Timer}
use Rattle.node_core.specs.declared.timer.Timer.TheVariants as timer
use Rattle.node_core.specs.declared.phase.Phase.{Phase}
use Rattle.node_core.specs.declared.phase.Phase.TheVariants.{Down, Election, Reorganization, Normal}
use Rattle.node_core.specs.State.{State, is_down, in_phase}
use Rattle.node_core.specs.Effect.{Effect, quietly, tells}
use Rattle.node_core.specs.Start.{alone, entering}
use Rattle.node_core.specs.Words.{letter, to_each, is_empty, leads_in, members_of, owner, holds, own_group, task_of}
use Rattle.node_core.specs.Priorities.{by_priority}
use Rattle.node_core.specs.Timers.{timed, merges, follows}
use Rattle.wire_msg.specs.Kinds.{group_in}
use Rattle.node_core.specs.Messages.{delivered, was_probed, takes_invitation, passed_on, is_told}
use Rattle.node_core.specs.Effects.{effect_of}
use Rattle.node_core.specs.Wants.{delivered_wants, wants_of}
use Rattle.node_core.specs.Refusals.{refusal_of}
use Rattle.histories.specs.Lists.{Each}
use Rattle.histories.specs.After.{raised}
use Rattle.histories.proofs.Tests.{and_left, and_right, not_true, eq_nat, differ, same_group_is, in_election, in_reorganization, in_normal}
use Rattle.histories.proofs.Tests.{in_either}
use Rattle.histories.proofs.Among.{each_append, each_split, each_map, each_chosen, each_left, each_by_priority}
use Rattle.histories.proofs.Moves.{stays, starts_alone, calls, joins, assigns, takes, completes, Says, WorkIn, Held, Knows, Does}

-- by whether the guard holds
guarded : (R : Effect → Type 0) (b : Bool) (x y : Effect) → (b ≡ true → R x) → (b ≡ false → R y) → R (if b then x else y)
guarded R true x y t f = t refl
guarded R false x y t f = f refl

either_phase : (b : Bool) → ((if b then Normal else Reorganization) ≡ Reorganization) ⊎ ((if b then Normal else Reorganization) ≡ Normal)
either_phase true = inr refl
either_phase false = inl refl

-- a node in a phase that isn't Down isn't down
not_down : {p q : Phase} → p ≡ q → is_down q ≡ false → p ≢ Down
not_down is up down = (let fallen : is_down Down ≡ false = subst (λ (x : Phase). is_down x ≡ false) (sym is ∙ down) up in absurd cc)

-- outside Normal there is nothing in hand
no_hand : (Q : ℕ → ℕ → Work → Type 0) (self : ℕ) (p q : Phase) (t u : Option Assignment) (hand : List InHand) → in_phase Normal p ≡ false
    → Each (Held Q self p t) hand → Each (Held Q self q u) hand
no_hand Q self p q t u [] not_normal h = tt
no_hand Q self p q t u (w ∷ ws) not_normal h = (let off : in_phase Normal Normal ≡ false =
    subst (λ (x : Phase). in_phase Normal x ≡ false) h.0.0 not_normal in absurd cc)

of_phase : (p q : Phase) (b : Bool) (f : Phase → Bool) → p ≡ q → f q ≡ b → f p ≡ b
of_phase p q b f e h = ap f e ∙ h

-- what it takes for a task to be told
told_parts : (self from : ℕ) (task : Assignment) (s : State) → is_told self from task s ≡ true
    → (s.coordinator ≡ from) × (task.group ≡ s.group) × (has task.members self ≡ true)
told_parts self from task s t =
    let a = and_left _ _ t in
    (eq_nat _ _ (and_left _ _ (and_left _ _ a)), same_group_is _ _ (and_right _ _ a), and_right _ _ t)

no_count : (d : Durable) (b : Bool) (id : ℕ) → raised d (if b then Some (Done id) else None) ≡ []
no_count d true id = refl
no_count d false id = refl

module _ (P : Group → Type 0) (J Q : ℕ → ℕ → Work → Type 0) (self : ℕ) (s : State) (d : Durable) where
  -- nothing happens
  quiet : (event : Event) → Does P J Q self s d event None (quietly s)
  quiet event = record {
    made = [];
    moves = stays refl refl refl refl refl refl;
    names = λ k. k.place;
    holds = λ k w h. h;
    says =
        λ k j. tt;
  }

  recovers : (event : Event) → Does P J Q self s d event (Some Raise) (quietly (alone self (d.counter + 1)))
  recovers event = record {
    made = [];
    moves = starts_alone (d.counter + 1) refl refl refl;
    names = λ k up. (k.fresh.0, k.fresh.0);
    holds =
        λ k w h. tt;
    says = λ k j. tt;
  }

  -- it raises the counter where b holds and c doesn't, and else does y, or nothing
  raises_unless : (event : Event) (b c : Bool) (x : ℕ → Effect) (y : Effect) → Does P J Q self s d event (Some Raise) (x (d.counter + 1))
      → Does P J Q self s d event None y
      → Does P J Q self s d event (if b && not c then Some Raise else None)
      (if b then (if c then y else x (answer_to d (if b && not c then Some Raise else None))) else quietly s)
  raises_unless event true true x y raise calm = calm
  raises_unless event true false x y raise calm = raise
  raises_unless event false c x y raise calm = quiet event

  -- ---- timers

  ready_by : (b : Bool) → Does P J Q self s d (TimerEvent timer.Ready) (if b then Some Raise else None)
      (if b then quietly (alone self (answer_to d (if b then Some Raise else None))) else quietly s)
  ready_by true = recovers (TimerEvent timer.Ready)
  ready_by false = quiet (TimerEvent timer.Ready)

  coord_by : (b c : Bool) → (b ≡ true → is_down s.phase ≡ false)
      → Does P J Q self s d (TimerEvent timer.Coord) (if b && c then Some Raise else None)
      (if b then (if c then quietly (alone self (answer_to d (if b && c then Some Raise else None)))
      else record { state = record s { probing = true }; sent = letter self s.coordinator (AreYouThere s.group) ∷ [] }) else quietly s)
  coord_by true true up = recovers (TimerEvent timer.Coord)
  coord_by true false up = record {
    made = [];
    moves = stays refl refl refl refl refl refl;
    names = λ k. k.place;
    holds = λ k w h. h;
    says = λ k j. ((k.place (not_down refl (up refl))).0, tt);
  }
  coord_by false c up = quiet (TimerEvent timer.Coord)

  timer_does : (nodes : ℕ) (timer : Timer) → Does P J Q self s d (TimerEvent timer) (wants_of self d.pending (TimerEvent timer) s)
      (timed nodes self d.pending timer (answer_to d (wants_of self d.pending (TimerEvent timer) s)) s)
  unfolding timed
  timer_does nodes timer.Check = guarded (λ e. Does P J Q self s d (TimerEvent timer.Check) None e) (leads_in Normal self s) _ _
      (λ t. record {
        made = [];
        moves = stays refl refl refl refl refl refl;
        names = λ k. k.place;
        holds = λ k w h. h;
        says = λ k j. each_map (Says P J self [] (Some (TimerEvent timer.Check))) (λ x. letter self x AreYouCoordinator)
            (without_id (ids_below nodes) self) (λ x. tt);
      })
      (λ f. quiet (TimerEvent timer.Check))
  timer_does nodes timer.Merge = raises_unless (TimerEvent timer.Merge) (merges self s) (is_empty s.found)
      (λ k. tells self (entering Election (own_group self k)) (either_of s.up s.found) (Invitation (own_group self k))) _
      (record {
        made = [];
        moves = calls (d.counter + 1) refl refl refl refl refl;
        names = λ k up. (k.fresh.0, tt);
        holds = λ k w h. tt;
        says = λ k j. each_map (Says P J self [] (Some (TimerEvent timer.Merge)))
            (λ x. letter self x (Invitation (own_group self (d.counter + 1)))) (either_of s.up s.found) (λ x. k.fresh.0);
      })
      (record { made = []; moves = stays refl refl refl refl refl refl; names = λ k. k.place; holds = λ k w h. h; says = λ k j. tt })
  timer_does nodes timer.Accept = guarded (λ e. Does P J Q self s d (TimerEvent timer.Accept) None e)
      (in_phase Election s.phase && s.coordinator == self) _ _
      (λ t. (let phase = in_election s.phase (and_left _ _ t) in
      let mine : Knows P self s [] [] → P s.group = λ k. (k.place (not_down phase refl)).0 in
      record {
        made = task_of s.group (with_id s.up self) ∷ [];
        moves = assigns (with_id s.up self) phase (with_has_same s.up self) refl refl refl (either_phase (is_empty s.up)) refl refl;
        names = λ k up. (mine k, mine k);
        holds = λ k w h. no_hand Q self s.phase _ s.task (Some (task_of s.group (with_id s.up self))) s.hand
            (of_phase s.phase Election false (in_phase Normal) phase refl) h;
        says = λ k j. each_map (Says P J self (task_of s.group (with_id s.up self) ∷ []) (Some (TimerEvent timer.Accept)))
            (λ x. letter self x (Ready (task_of s.group (with_id s.up self)))) s.up (λ x. (refl, inl refl, mine k));
      }))
      (λ f. quiet (TimerEvent timer.Accept))
  timer_does nodes timer.Ready = ready_by (leads_in Reorganization self s)
  timer_does nodes timer.Coord = coord_by (follows self s) s.probing (λ t. in_either s.phase (and_left _ _ t))
  timer_does nodes timer.Dispatch = guarded (λ e. Does P J Q self s d (TimerEvent timer.Dispatch) None e) (in_phase Normal s.phase) _ _
      (λ t. (let phase = in_normal s.phase t in record {
        made = [];
        moves = stays refl refl refl refl refl refl;
        names = λ k. k.place;
        holds = λ k w h. each_append (Held Q self s.phase s.task) s.hand _ h
            (each_chosen (λ job. Q self job.id job.work) (Held Q self s.phase s.task) (λ (job : Job). record {
              origin = self;
              id =
                  job.id;
              work = job.work;
            }) (λ job. owner s job.work.queue == self && not (holds s.hand self job.id)) (by_priority d.pending)
            (λ job own q. (phase, eq_nat _ _ (and_left _ _ own), q)) (each_by_priority _ d.pending k.before));
        says = λ k j. each_chosen (λ job. J self job.id job.work) (Says P J self [] (Some (TimerEvent timer.Dispatch)))
            (λ (job : Job). letter self (owner s job.work.queue) (WorkMessage s.group job.id job.work))
            (λ job. not (owner s job.work.queue == self)) (by_priority d.pending)
            (λ job other it. ((k.place (not_down phase refl)).0, it)) (each_by_priority _ d.pending j.before);
      }))
      (λ f. quiet (TimerEvent timer.Dispatch))

  -- ---- messages

  ack_by : (m : Envelope) (rest : List ℕ) (b : Bool) → s.phase ≡ Reorganization → s.coordinator ≡ self
      → Does P J Q self s d (Deliver m) None (quietly (record s { unready = rest; phase = if b then Normal else Reorganization }))
  ack_by m rest true p c = record {
    made = [];
    moves = completes p c refl refl refl refl refl refl;
    names = λ k up. k.place (not_down p refl);
    holds = λ k w h. no_hand Q self s.phase Normal s.task s.task s.hand (of_phase s.phase Reorganization false (in_phase Normal) p refl) h;
    says = λ k j. tt;
  }
  ack_by m rest false p c = record {
    made = [];
    moves = stays (sym p) refl refl refl refl refl;
    names = λ k up. k.place (not_down p refl);
    holds = λ k w h. no_hand Q self s.phase Reorganization s.task s.task s.hand
        (of_phase s.phase Reorganization false (in_phase Normal) p refl) h;
    says = λ k j. tt;
  }

  done_by : (event : Event) (b : Bool) (id : ℕ) → Does P J Q self s d event (if b then Some (Done id) else None) (quietly s)
  done_by event b id = record {
    made = [];
    moves = stays refl refl refl refl (no_count d b id) refl;
    names = λ k. k.place;
    holds =
        λ k w h. h;
    says = λ k j. tt;
  }

  delivered_does : (m : Envelope) (body : Body) → m.body ≡ body
      → Does P J Q self s d (Deliver m) (delivered_wants m.sender d.pending body s)
      (delivered self m.sender body (answer_to d (delivered_wants m.sender d.pending body s)) s)
  unfolding delivered
  delivered_does m AreYouCoordinator is = guarded (λ e. Does P J Q self s d (Deliver m) None e)
      (is_down s.phase) _ _ (λ t. quiet (Deliver m))
      (λ f. record {
        made = [];
        moves = stays refl refl refl refl refl refl;
        names = λ k. k.place;
        holds = λ k w h. h;
        says =
            λ k j. (tt, tt);
      })
  delivered_does m (Coordinator agreed) is = guarded (λ e. Does P J Q self s d (Deliver m) None e) (agreed && merges self s) _ _
      (λ t. record { made = []; moves = stays refl refl refl refl refl refl; names = λ k. k.place; holds = λ k w h. h; says = λ k j. tt })
      (λ f. quiet (Deliver m))
  delivered_does m (AreYouThere group) is = guarded (λ e. Does P J Q self s d (Deliver m) None e)
      (is_down s.phase) _ _ (λ t. quiet (Deliver m))
      (λ f. record {
        made = [];
        moves = stays refl refl refl refl refl refl;
        names = λ k. k.place;
        holds = λ k w h. h;
        says = λ k j. (subst (λ b. IfSome (group_in b) P) is k.heard.0, tt);
      })
  delivered_does m (Here group agreed) is = raises_unless (Deliver m)
      (was_probed m.sender group s) agreed (λ k. quietly (alone self k)) _ (recovers (Deliver m))
      (record { made = []; moves = stays refl refl refl refl refl refl; names = λ k. k.place; holds = λ k w h. h; says = λ k j. tt })
  delivered_does m (Invitation group) is = guarded (λ e. Does P J Q self s d (Deliver m) None e) (takes_invitation self group s) _ _
      (λ t. record {
        made = [];
        moves = joins group (differ _ _ (not_true _ (and_right _ _ (and_left _ _ t)))) refl refl refl refl refl;
        names = λ k up. (subst (λ b. IfSome (group_in b) P) is k.heard.0, tt);
        holds = λ k w h. tt;
        says = λ k j. each_append (Says P J self [] (Some (Deliver m))) (to_each self (passed_on self group s) (Invitation group))
            (letter self group.creator (Accept group) ∷ [])
            (each_map (Says P J self [] (Some (Deliver m))) (λ x. letter self x (Invitation group)) (passed_on self group s) (λ x.
            subst (λ b. IfSome (group_in b) P) is k.heard.0))
            (subst (λ b. IfSome (group_in b) P) is k.heard.0, tt);
      })
      (λ f. quiet (Deliver m))
  delivered_does m (Accept group) is = guarded (λ e. Does P J Q self s d (Deliver m) None e)
      (in_phase Election s.phase && s.coordinator == self && same_group group s.group) _ _
      (λ t. record { made = []; moves = stays refl refl refl refl refl refl; names = λ k. k.place; holds = λ k w h. h; says = λ k j. tt })
      (λ f. quiet (Deliver m))
  delivered_does m (Ready task) is = guarded (λ e. Does P J Q self s d (Deliver m) None e)
      (is_told self m.sender task s && in_phase Reorganization s.phase) _ _
      (λ t. (let told = told_parts self m.sender task s (and_left _ _ t) in
      let phase = in_reorganization s.phase (and_right _ _ t) in
      let mine : Knows P self s [] (m ∷ []) → P s.group = λ k. (k.place (not_down phase refl)).0 in
      record {
        made = [];
        moves = takes m task phase refl is told.0 told.1 told.2 refl refl refl refl refl refl;
        names = λ k up. (mine k, subst (λ b. IfSome (group_in b) P) is k.heard.0);
        holds = λ k w h. no_hand Q self s.phase Normal s.task (Some task) s.hand
            (of_phase s.phase Reorganization false (in_phase Normal) phase refl) h;
        says = λ k j. (mine k, tt);
      }))
      (λ f. guarded (λ e. Does P J Q self s d (Deliver m) None e) (is_told self m.sender task s && in_phase Normal s.phase) _ _
      (λ t. record {
        made = [];
        moves = stays refl refl refl refl refl refl;
        names = λ k. k.place;
        holds = λ k w h. h;
        says = λ k j. ((k.place (not_down (in_normal s.phase (and_right _ _ t)) refl)).0, tt);
      })
      (λ g. quiet (Deliver m)))
  delivered_does m (ReadyAck group) is = guarded (λ e. Does P J Q self s d (Deliver m) None e)
      (leads_in Reorganization self s && same_group group s.group) _ _
      (λ t. ack_by m (without_id s.unready m.sender) (is_empty (without_id s.unready m.sender))
      (in_reorganization s.phase (and_left _ _ (and_left _ _ t))) (eq_nat _ _ (and_right _ _ (and_left _ _ t))))
      (λ f. quiet (Deliver m))
  delivered_does m (WorkMessage group id work) is = guarded (λ e. Does P J Q self s d (Deliver m) None e)
      (in_phase Normal s.phase && same_group group s.group && has (members_of s.task) m.sender && owner s work.queue == self
      && not (holds s.hand m.sender id)) _ _
      (λ t. record {
        made = [];
        moves = stays refl refl refl refl refl refl;
        names = λ k. k.place;
        holds = λ k w h. each_append (Held Q self s.phase s.task) s.hand _ h (
          (
            in_normal s.phase (and_left _ _ (and_left _ _ (and_left _ _ (and_left _ _ t)))),
            eq_nat _ _ (and_right _ _ (and_left _ _ t)),
            subst (λ b. WorkIn Q m.sender b) is w.0,
          ),
          tt,
        );
        says = λ k j. tt;
      })
      (λ f. quiet (Deliver m))
  delivered_does m (DoneMessage id) is = done_by (Deliver m) (not (is_down s.phase) && is_pending d.pending id) id

  -- ---- the operator

  submit_does : (nodes : ℕ) (work : Work) → in_phase Normal s.phase ≡ true
      → Does P J Q self s d (Submit work) (Some (Put work)) (effect_of nodes self d.pending (Submit work) d.next s)
  submit_does nodes work normal = guarded (λ e. Does P J Q self s d (Submit work) (Some (Put work)) e) (owner s work.queue == self) _ _
      (λ t. record {
        made = [];
        moves = stays refl refl refl refl refl refl;
        names = λ k. k.place;
        holds = λ k w h. each_append (Held Q self s.phase s.task) s.hand _ h (
          (
            in_normal s.phase normal,
            eq_nat _ _ t,
            (each_split (λ job. Q self job.id job.work) d.pending (record {
              id = d.next;
              work =
                  work;
            } ∷ []) k.after).1.0,
          ),
          tt,
        );
        says = λ k j. tt;
      })
      (λ f. record {
        made = [];
        moves = stays refl refl refl refl refl refl;
        names = λ k. k.place;
        holds = λ k w h. h;
        says = λ k j. (
          (
            (k.place (not_down (in_normal s.phase normal) refl)).0,
            (each_split (λ job. J self job.id job.work) d.pending (record { id = d.next; work = work } ∷ []) j.after).1.0,
          ),
          tt,
        );
      })

  finish_says : (origin id : ℕ) (b : Bool) → Each (Says P J self [] (Some (Finish origin id)))
      (to_each self (if b then [] else origin ∷ []) (DoneMessage id))
  finish_says origin id true = tt
  finish_says origin id false = (refl, tt)

  finish_does : (nodes origin id : ℕ) → Does P J Q self s d (Finish origin id) (wants_of self d.pending (Finish origin id) s)
      (effect_of nodes self d.pending (Finish origin id) 0 s)
  finish_does nodes origin id = record {
    made = [];
    moves = stays refl refl refl refl (no_count d (origin == self && is_pending d.pending id) id) refl;
    names = λ k. k.place;
    holds = λ k w h. each_left (Held Q self s.phase s.task) (λ job. not (job.origin == origin && job.id == id)) s.hand h;
    says = λ k j. finish_says origin id (origin == self);
  }

  not_refused : (b c e : Bool) (x y z : CoreFault) → (if b then Some x else (if not c then Some y else (if not e then Some z else None)))
      ≡ None → c ≡ true
  not_refused true c e x y z h = absurd cc
  not_refused false true e x y z h = refl
  not_refused false false e x y z h = absurd cc

  -- each event that the core doesn't refuse
  pub event_does : (nodes : ℕ) (event : Event) → refusal_of nodes self event s ≡ None
      → Does P J Q self s d event (wants_of self d.pending event s)
      (effect_of nodes self d.pending event (answer_to d (wants_of self d.pending event s)) s)
  event_does nodes (TimerEvent timer) h = timer_does nodes timer
  event_does nodes (Deliver m) h = delivered_does m m.body refl
  event_does nodes (Submit work) h = submit_does nodes work
      (not_refused (is_down s.phase) (in_phase Normal s.phase) (s.coordinator == self) _ _ _ h)
  event_does nodes (Finish origin id) h = finish_does nodes origin id
  event_does nodes Recover h = recovers Recover
