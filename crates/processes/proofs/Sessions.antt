-- Sessions over disks that keep to the disk model are processes.
use Rattle.std.proofs.Common.{◌≡◌, ℕ, ◌≤◌, ◌++◌, Bool, true, false, sym, ◌∙◌, ap, subst, Some, None}
use Rattle.sector_disk.specs.Disk.{Image, DiskState}
use Rattle.job_model.specs.Durable.{Durable}
use Rattle.job_journal.specs.Journal.{IsSoundImage}
use Rattle.node_core.specs.Start.{down}
use Rattle.node_core.specs.State.{State, is_down}
use Rattle.node_store.specs.Store.{slots_for, stands_for}
use Rattle.histories.specs.NodeState.{NodeState, settled}
use Rattle.durable_node.specs.Node.{IsLeft, Node, Stands}
use Rattle.node_session.specs.Lines.{At, AreOf, after_lines, answers}
use Rattle.node_session.specs.Sending.{AreSentIn}
use Rattle.node_session.specs.Serving.{SendsSealed}
use Rattle.processes.specs.Processes.{found, left}
use Rattle.processes.specs.Sessions.{FirstStands, IsFresh, NextStands, SessionsAreProcesses, with_lines}

-- a fresh node stands for what its disk stands for
fresh_stands : {Disk : Type 0} (disks : Disk → DiskState) (node : Node Disk) (disk : Disk) (d : Durable) → IsFresh node disk
    → IsLeft (disks disk) (record { state = down node.id; durable = d; doubt = None })
    → Stands disks node (record { state = down node.id; durable = d; doubt = None })
fresh_stands {Disk} disks node disk d fresh is = record {
  state = fresh.state;
  doubt = fresh.doubt;
  up = λ up. absurd (let both : true ≡ false = ap (λ (v : State). is_down v.phase) (sym fresh.state) ∙ up in cc);
  disk = λ other at. (let same : disk ≡ other = cc (fresh.disk_is, at) in
      subst (λ (x : Disk). IsLeft (disks x) (record { state = down node.id; durable = d; doubt = None })) same is);
}

pub first_stands : {Disk : Type 0} (disks : Disk → DiskState) → FirstStands disks
first_stands disks node disk file fresh enough all sound = fresh_stands disks node disk file fresh (record {
  sectors = enough;
  images = λ honest image is. (false, (λ e. absurd cc), all image is);
  sound = sound;
})

-- what a stop leaves stands for one of the two
pub next_stands : {Disk : Type 0} (disks : Disk → DiskState) → NextStands disks
next_stands disks last node was now s stands at stopped fresh =
    let is = stands.disk was at in
    let here = is.images stopped.honest stopped.image stopped.might in
    let slots = slots_for (disks was).sectors in
    let left_so : IsLeft (disks now) (record { state = down node.id; durable = settled here.0 s; doubt = None }) = record {
      sectors = subst (λ (k : ℕ). 24 ≤ k) (sym stopped.sectors) is.sectors;
      images = λ honest image i. (
        false,
        (λ e. absurd cc),
        subst (λ (k : ℕ). stands_for (slots_for k) image ≡ Some (settled here.0 s)) (sym stopped.sectors)
            (subst (λ (x : Image). stands_for slots x ≡ Some (settled here.0 s)) (sym (stopped.alone image i)) here.2),
      );
      sound = λ honest image i. subst (λ (k : ℕ). IsSoundImage (slots_for k) image) (sym stopped.sectors)
          (subst (λ (x : Image). IsSoundImage slots x) (sym (stopped.alone image i)) (is.sound stopped.honest stopped.image stopped.might));
    } in (
      here.0,
      here.1,
      λ p kept. subst (λ (b : Bool). Stands disks node (record {
        state = down node.id;
        durable = settled b s;
        doubt = None;
      })) (sym kept) (fresh_stands disks node now (settled here.0 s) fresh left_so),
    )

-- ---- a process

pub sessions_are_processes : {Disk : Type 0} (disks : Disk → DiskState) → SendsSealed disks → SessionsAreProcesses disks
sessions_are_processes disks sealed old new piece disk s p begins fed =
    let self = old.node.id in
    let nodes = old.node.nodes in
    let slots = slots_for (disks disk).sectors in
    let it = fed.serves.served disk (found self s p) begins.disk_is begins.stands in
    let q = with_lines p fed.lines it.all in
    let state : it.state ≡ left self nodes s q = ap (λ (a : At). a.state) it.left
    ∙ ap (λ (a : At). (after_lines self nodes a fed.lines it.all).state) begins.at in (
      fed.lines,
      it.all,
      record {
        came = subst (λ (a : At). AreOf self nodes slots a fed.lines it.all) begins.at it.came;
        going = it.honest begins.honest;
        text = it.text ∙ ap (λ (a : At). old.text ++ answers self nodes a fed.lines it.all) begins.at;
        sent = subst (λ (a : At). AreSentIn self nodes a fed.lines it.all) begins.at
            (sealed old new self nodes fed.lines disk (found self s p) it);
        stands = subst (λ (x : NodeState). Stands disks new.node x) state it.stands;
      },
    )
