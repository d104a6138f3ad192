use Rattle.std.proofs.Common.{◌≡◌, Option, Result, Ok, Err, IsOk, IfErr, ℕ, refl, sym, ap, arith, subst}
use Rattle.job_model.specs.declared.node_command.NodeCommand.{NodeCommand as Command}
use Rattle.job_model.specs.declared.node_command.NodeCommand.TheVariants.{Raise, Put, Done}
use Rattle.node_core.specs.Planned.{lent_by}
use Rattle.job_journal.specs.declared.fault.JournalFault.{JournalFault}
use Rattle.histories.specs.declared.event_outcome.EventOutcome.{EventOutcome}
use Rattle.durable_node.specs.Faults.{outcome_for}
use Rattle.durable_node.specs.Carrying.{Writes}
use Rattle.durable_node.proofs.Mounts.{written}
use Rattle.durable_node.proofs.carry.carry.Goals as goal

-- what is answered as done was done
done_of : (r : Result ℕ JournalFault) (t : Result (Option ℕ) EventOutcome) → IfErr r (λ fault. t ≡ Err (outcome_for fault)) → IsOk t
    → IsOk r
done_of (Ok n) t err ok = refl
done_of (Err fault) t err ok = (let failed = rw err at ok in absurd cc)

pub returns-in-Put-clause-disk : goal.returns-in-Put-clause-disk
returns-in-Put-clause-disk g c =
    let e = c.put.ensures in
    subst (λ (w : Option Command). Writes g.D.SectorDisk.state c.args.store.now c.put.new.store w (IsOk c.node_answer-in-Put.result))
    (sym (ap lent_by c.in-Put.is))
    (written g.D.SectorDisk.state c.args.store.now c.put.new.store (Put c.in-Put.work.now) (IsOk c.node_answer-in-Put.result)
    c.requires.ready.whole e.tries.areas.slots e.appends.images
    (λ honest ok. (e.appends.after honest (done_of c.put.result c.node_answer-in-Put.result c.node_answer-in-Put.ensures.err ok)).lasts)
    (λ honest ok. (e.appends.after honest (done_of c.put.result c.node_answer-in-Put.result c.node_answer-in-Put.ensures.err ok)).spelled))

pub returns-in-Done-clause-disk : goal.returns-in-Done-clause-disk
returns-in-Done-clause-disk g c =
    let e = c.done.ensures in
    subst (λ (w : Option Command). Writes g.D.SectorDisk.state c.args.store.now c.done.new.self w (IsOk c.node_answer-in-Done.result))
    (sym (ap lent_by c.in-Done.is))
    (written g.D.SectorDisk.state c.args.store.now c.done.new.self (Done c.in-Done.id) (IsOk c.node_answer-in-Done.result)
    c.requires.ready.whole e.tries.areas.slots e.appends.images
    (λ honest ok. (e.appends.after honest (done_of c.done.result c.node_answer-in-Done.result c.node_answer-in-Done.ensures.err ok)).lasts)
    (λ honest ok. (e.appends.after honest (done_of c.done.result c.node_answer-in-Done.result c.node_answer-in-Done.ensures.err
    ok)).spelled))

pub returns-in-Raise-clause-disk : goal.returns-in-Raise-clause-disk
returns-in-Raise-clause-disk g c =
    let e = c.raise.ensures in
    subst (λ (w : Option Command). Writes g.D.SectorDisk.state c.args.store.now c.raise.new.self w (IsOk c.node_answer.result))
    (sym (ap lent_by c.in-Raise.is))
    (written g.D.SectorDisk.state c.args.store.now c.raise.new.self Raise (IsOk c.node_answer.result)
    c.requires.ready.whole e.tries.areas.slots e.images
    (λ honest ok. e.after honest (done_of c.raise.result c.node_answer.result c.node_answer.ensures.err ok))
    (λ honest ok image is from k at less. absurd (omega (arith, less))))
