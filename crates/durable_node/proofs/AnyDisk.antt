-- How a recovery that mounts its disk ends over any disk, honest or not.
use Rattle.std.proofs.Common.{inl, inr, ℕ, Bool, Option, Some, None, Err, ap, refl}
use Rattle.job_model.specs.Durable.{Durable}
use Rattle.node_core.specs.declared.wanted.Wanted.{Wanted}
use Rattle.node_core.specs.Core.{Core}
use Rattle.node_store.specs.declared.fault.StoreFault.{StoreFault}
use Rattle.node_store.specs.Store.{StoreState, durable_of}
use Rattle.node_store.specs.declared.fault.StoreFault.TheVariants as by_store
use Rattle.histories.specs.declared.event_outcome.EventOutcome.{EventOutcome}
use Rattle.histories.specs.declared.event_outcome.EventOutcome.TheVariants as event_outcome
use Rattle.durable_node.specs.declared.step_report.StepReport.{StepReport}
use Rattle.durable_node.specs.Faults.{fault_for, fault_of, answered_as}
use Rattle.durable_node.specs.declared.node_disk.NodeDisk.{NodeDisk}
use Rattle.durable_node.specs.declared.node_disk.NodeDisk.TheVariants.{Bare, Mounted}
use Rattle.durable_node.specs.Node.{node_with}
use Rattle.durable_node.specs.Remounting.{HasRisen, IsUnmounted, Remounted}

mount_answered : (fault : StoreFault) → IsUnmounted (fault_for fault)
mount_answered by_store.NoMemory = refl
mount_answered fault = tt

pub unmounted_at : {Disk : Type 0} (id nodes : ℕ) (core : Core) (disk : NodeDisk Disk) (back : Disk) (doubt : Option (Wanted × ℕ))
    (before : Option ℕ) (fault : StoreFault)
    → Remounted (node_with id nodes core disk doubt before) (node_with id nodes core (Bare back) doubt None) (Err (fault_for fault)) None
unmounted_at id nodes core disk back doubt before fault = (mount_answered fault, refl, refl)

-- what a raise leaves, by what came of it
module _ {Disk : Type 0} (id nodes : ℕ) (core core' : Core) (disk : NodeDisk Disk) (mid end : StoreState Disk)
    (doubt doubt' : Option (Wanted × ℕ)) (before : Option ℕ) (kept : Bool) (came : StepReport) where
  pub remounted_at : (w : EventOutcome) → HasRisen id kept core core' mid end doubt doubt' came w
      → Remounted (node_with id nodes core disk doubt before) (node_with id nodes core' (Mounted end) doubt'
      (Some (durable_of mid).counter)) (answered_as came (fault_of w)) (Some (durable_of mid))
  remounted_at (event_outcome.Recovered k) is = (let risen = is.1 in
      (rw risen.state (ap (λ (d : Durable). Some d) risen.kept), risen.state, risen.doubt, risen.sent, risen.answer, risen.fits))
  remounted_at (event_outcome.RaiseFailed k) is = (is.1.state, inl (refl, is.1.doubt, is.1.fits))
  remounted_at (event_outcome.RaiseRefused k) is = (is.3.same_state, inr (refl, is.1, is.3.same_doubt))
  remounted_at end is = absurd is
