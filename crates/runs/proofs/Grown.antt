-- A run and its report grow by one act.
use Rattle.std.proofs.Common.{◌≡◌, ◌≢◌, ℕ, ◌+◌, List, [], ◌∷◌, ◌++◌, length, refl, sym, ◌∙◌, ap, subst, arith}
use Rattle.node_core.specs.declared.fault.Refusal.TheVariants.{AreaExhausted}
use Rattle.std.proofs.lemmas.List.{length-append, length-map, map-append}
use Rattle.schedule.specs.declared.act.Act.{Act}
use Rattle.runs.specs.World.{World, start}
use Rattle.runs.specs.Step.{Step, world_after}
use Rattle.runs.specs.Run.{world_at}
use Rattle.runs.specs.Acts.{IsRunOf, act_outcome}
use Rattle.runs.specs.ExactRuns.{IsExactRun, IsExactStep}
use Rattle.runs.specs.declared.outcome.Outcome.TheVariants.{Refused}
use Rattle.runs.specs.declared.outcome.ActRefusal.TheVariants.{Node as OfNode}
use Rattle.runs.specs.Reporting.{Moment, Report, moment_of, report_of, first_report, grown, report_from}
use Rattle.runs.specs.Headline.{IsPromised}
use Rattle.runs.specs.Growth.{acts_in, IsNext, RunsOpen, RunsGrow, LeftKeeps}
use Rattle.runs.proofs.ExactRuns.{exact_next, left_run}
use Rattle.runs.proofs.Headlines.{keeps}
use Rattle.runs.proofs.Lawful.{lawful_of}

-- ---- the run

pub acts_go_on : (nodes slots : ℕ) (acts : List Act) (steps : List Step) (w : World) (a : Act) (step : Step)
    → IsRunOf nodes slots w acts steps → IsNext nodes slots (world_at nodes w steps) a step
    → IsRunOf nodes slots w (acts ++ a ∷ []) (steps ++ step ∷ [])
acts_go_on nodes slots [] [] w a step run next = (next.of_act, lawful_of slots nodes w step next.allowed next.of_slots, tt)
acts_go_on nodes slots (b ∷ acts) (x ∷ steps) w a step run next =
    (run.0, run.1, acts_go_on nodes slots acts steps (world_after nodes w x) a step run.2 next)
acts_go_on nodes slots _ _ w a step run next = absurd run

world_goes_on : (nodes : ℕ) (steps : List Step) (step : Step) (w : World)
    → world_at nodes w (steps ++ step ∷ []) ≡ world_after nodes (world_at nodes w steps) step
world_goes_on nodes [] step w = refl
world_goes_on nodes (x ∷ steps) step w = world_goes_on nodes steps step (world_after nodes w x)

report_goes_on : (nodes slots : ℕ) (acts : List Act) (steps : List Step) (w : World) (r : Report) (a : Act) (step : Step)
    → IsRunOf nodes slots w acts steps
    → report_from nodes w r (acts ++ a ∷ []) (steps ++ step ∷ [])
    ≡ grown nodes (world_at nodes w steps) a step (report_from nodes w r acts steps)
report_goes_on nodes slots [] [] w r a step run = refl
report_goes_on nodes slots (b ∷ acts) (x ∷ steps) w r a step run =
    report_goes_on nodes slots acts steps (world_after nodes w x) (grown nodes w b x r) a step run.2
report_goes_on nodes slots _ _ w r a step run = absurd run

exact_goes_on : (nodes slots : ℕ) (acts : List Act) (steps : List Step) (w : World) (a : Act) (step : Step)
    → IsExactRun nodes slots w acts steps → IsExactStep nodes slots (world_at nodes w steps) a step
    → IsExactRun nodes slots w (acts ++ a ∷ []) (steps ++ step ∷ [])
exact_goes_on nodes slots [] [] w a step run next = (next, tt)
exact_goes_on nodes slots (b ∷ acts) (x ∷ steps) w a step run next =
    (run.0, exact_goes_on nodes slots acts steps (world_after nodes w x) a step run.1 next)
exact_goes_on nodes slots _ _ w a step run next = absurd run

pub runs_open : RunsOpen
runs_open nodes slots = record { short = omega arith; steps = []; is_run = tt; world = refl; reported = refl }

pub runs_grow : RunsGrow
runs_grow nodes slots w r a step left next few never_area_exhausted =
    let acts : List Act = acts_in r in
    let steps : List Step = left.steps in
    let many : length acts ≡ length r.moments = length-map r.moments (λ (m : Moment). m.act) in
    let was_run : IsRunOf nodes slots (start nodes) acts steps = left_run nodes slots w r left in
    let exact : IsExactStep nodes slots (world_at nodes (start nodes) steps) a step =
    exact_next slots nodes acts steps a step (omega (
      arith,
      few,
      many,
    )) was_run (subst (λ (x : World). IsNext nodes slots x a step) left.world next)
    (subst (λ (x : World). act_outcome nodes x a step ≢ Refused (OfNode AreaExhausted)) left.world never_area_exhausted) in
    let run : IsExactRun nodes slots (start nodes) (acts ++ a ∷ []) (steps ++ step ∷ []) =
    exact_goes_on nodes slots acts steps (start nodes) a step left.is_run exact in
    let shown : acts_in (grown nodes w a step r) ≡ acts ++ a ∷ [] =
    map-append (λ (m : Moment). m.act) r.moments (moment_of nodes w a step ∷ []) in
    let reported : grown nodes w a step r ≡ report_of nodes (acts ++ a ∷ []) (steps ++ step ∷ []) =
    ap (λ (x : World). grown nodes x a step r) left.world ∙ ap (λ (x : Report). grown nodes (world_at nodes (start nodes) steps) a step x)
    left.reported
    ∙ sym (report_goes_on nodes slots acts steps (start nodes) (first_report nodes) a step was_run) in
    let longer : length (acts_in (grown nodes w a step r)) ≡ length acts + 1 = ap (λ (xs : List Act). length xs) shown
    ∙ length-append acts (a ∷ []) in (
      subst (λ (x : World). IsExactStep nodes slots x a step) (sym left.world) exact,
      record {
        short = omega (arith, few, many, longer);
        steps = steps ++ step ∷ [];
        is_run = subst (λ (xs : List Act). IsExactRun nodes slots (start nodes) xs (steps ++ step ∷ [])) (sym shown) run;
        world = ap (λ (x : World). world_after nodes x step) left.world ∙ sym (world_goes_on nodes steps step (start nodes));
        reported = reported ∙ ap (λ (xs : List Act). report_of nodes xs (steps ++ step ∷ [])) (sym shown);
      },
    )

pub left_keeps : LeftKeeps
left_keeps nodes slots w r left =
    subst (λ (x : Report). IsPromised nodes slots (acts_in r) x) (sym left.reported)
    (keeps nodes slots (acts_in r) left.steps left.short left.is_run)
