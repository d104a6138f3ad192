-- The trace of a run that was recorded can be written, and so can the order of its turns.
use Rattle.std.proofs.Common.{◌≡◌, ◌≤◌, ℕ, zero, suc, ◌+◌, List, [], ◌∷◌, length, map, refl, sym, ap, ◌∙◌, subst, arith}
use Rattle.node_core.specs.declared.event.Event.{Event}
use Rattle.node_core.specs.declared.event.Event.TheVariants as on
use Rattle.histories.specs.Lists.{Each}
use Rattle.histories.specs.declared.history_event.HistoryEvent.{HistoryEvent}
use Rattle.histories.specs.declared.history_event.HistoryEvent.TheVariants.{Did, Faulted}
use Rattle.histories.specs.HistoryEvent.{Entry}
use Rattle.schedule.specs.declared.act.Act.{Act}
use Rattle.runs.specs.Step.{Step, Takes, Changes, Denies}
use Rattle.runs.specs.Run.{histories_from}
use Rattle.trace_check.specs.declared.order.Order.{Order}
use Rattle.trace_check.specs.Claims.{Claim}
use Rattle.trace_text.specs.Fits.{AreNamed, HasName, IsWritable}
use Rattle.trace_text.specs.Ordered.{IsEven, ordered_by}
use Rattle.cluster_sim.specs.Traced.{IsRecordOf, claim_of, action_of, done, failed, messages_in, nodes_in, trace_in}

done_named : (e : Event) → HasName (done e)
done_named on.Recover = tt
done_named _ = tt

failed_named : (e : Event) → HasName (failed e)
failed_named on.Recover = tt
failed_named _ = tt

action_named : (what : HistoryEvent) → HasName (action_of what)
action_named (Did event) = done_named event
action_named (Faulted event) = failed_named event
action_named _ = tt

history_named : (h : List Entry) → AreNamed (map claim_of h)
history_named [] = tt
history_named (e ∷ h) = (action_named e.what, history_named h)

trace_named : (hs : List (List Entry)) → Each AreNamed (trace_in hs)
trace_named [] = tt
trace_named (h ∷ hs) = (history_named h, trace_named hs)

as_many : (n many nodes : ℕ) (steps : List Step) → length (trace_in (histories_from n many nodes steps)) ≡ many
as_many n zero nodes steps = refl
as_many n (suc many) nodes steps = ap suc (as_many (n + 1) many nodes steps)

even_steps : (steps : List Step) → length (nodes_in steps) ≡ length (messages_in steps)
even_steps [] = refl
even_steps (Takes n number what ∷ steps) = ap suc (even_steps steps)
even_steps (Changes net ∷ steps) = even_steps steps
even_steps (Denies n why ∷ steps) = even_steps steps

pub can_be_written : (nodes slots : ℕ) (acts : List Act) (trace : List (List Claim)) (order : Order) → 1 ≤ nodes
    → IsRecordOf nodes slots acts trace order → IsWritable trace × IsEven (ordered_by order)
can_be_written nodes slots acts trace order some record_is =
    let steps = record_is.run.steps in
    let is = record_is.run.of_histories in
    let many = ap length is ∙ as_many 0 nodes nodes steps in (
      record {
        some = omega (arith, some, many);
        named = subst (Each AreNamed) (sym is) (trace_named (histories_from 0 nodes nodes steps));
      },
      ap length record_is.turns.nodes ∙ even_steps steps ∙ sym (ap length record_is.turns.messages),
    )
