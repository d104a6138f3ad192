use Rattle.std.proofs.Common.{◌≡◌, ℕ, ◌<◌, length, slice_get, ◌∙◌, ap, subst, arith, Some}
use Rattle.node_core.specs.State.{state_of}
use Rattle.cluster_sim.specs.Cluster.{with_opening}
use Rattle.runs.proofs.PublicLaws.{length_openings}
use Rattle.runs.specs.Reporting.{first_report}
use Rattle.cluster_sim.proofs.Opening.{opened_more, opened_state}
use Rattle.cluster_sim.proofs.recording.opened.Goals as goal

pub loop-number-init : goal.loop-number-init
loop-number-init c = λ nodes stands sent. c.new-report.ensures sent

pub loop-number-preserved : goal.loop-number-preserved
loop-number-preserved c = λ nodes stands sent.
    let k = c.loop-number.number in
    let many : length c.args.world.now.nodes ≡ nodes = stands.count ∙ length_openings 0 nodes in
    let within : k < nodes = omega (arith, many, c.count-number-end.ensures.value, c.loop-number-test.true) in
    let id : c.numbered-id.result ≡ k = c.numbered-id.ensures in
    let at : slice_get c.args.world.now.nodes k ≡ Some c.node.result.now =
    subst (λ (j : ℕ). slice_get c.args.world.now.nodes j ≡ Some c.node.result.now) id c.node.ensures in
    let state : state_of c.vector.result.now ≡ _ = c.vector.ensures
    ∙ opened_state c.args.world.now nodes k c.node.result.now stands within at in
    c.in_ok-add_opening.ensures sent ∙ (λ i. with_opening (id i) (state i) (c.loop-number.invariant nodes stands sent i)) ∙ opened_more k

pub returns : goal.returns
returns c = λ nodes stands sent.
    let many : length c.args.world.now.nodes ≡ nodes = stands.count ∙ length_openings 0 nodes in
    let all : c.loop-number.number ≡ nodes = omega (
      arith,
      many,
      c.count-number-end.ensures.value,
      c.loop-number-test.false,
      c.loop-number.auto.number-end,
    ) in
    c.loop-number.invariant nodes stands sent ∙ ap first_report all
