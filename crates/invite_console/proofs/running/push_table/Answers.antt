use Rattle.std.proofs.Common.{rules, ℕ, subst}
use Rattle.invite_console.specs.Sim.{AddsRow}
use Rattle.invite_console.proofs.Sims.{row_more}
use Rattle.invite_console.proofs.running.push_table.Goals as goal

pub loop-number-preserved : goal.loop-number-preserved
loop-number-preserved c = λ w stands end rest.
    row_more w c.args.world.now c.loop-number.number c.node.result.now c.args.text.now.items c.loop-number.text.items
    c.push_row.new.text.items end stands (search rules) (search rules)
    (λ s st. subst (λ (k : ℕ). AddsRow k s c.loop-number.text.items c.push_row.new.text.items) c.numbered-id.ensures
    (c.in_ok-push_row.ensures s st))
    (c.loop-number.invariant w stands) rest
