use Rattle.std.proofs.Common.{◌∙◌, ap, sym}
use Rattle.std.proofs.lemmas.List.{take_all}
use Rattle.disk_layout.specs.Blank.{is_blank}
use Rattle.disk_layout.proofs.Blanks.{blank_more, zeros_alone}
use Rattle.disk_layout.proofs.block.is_zero_block.Goals as goal

pub loop-at-preserved : goal.loop-at-preserved
loop-at-preserved c = blank_more c.args.block.now c.loop-at.at c.loop-at.zeros c.loop-at-test.true c.loop-at.invariant

pub returns-clause-value : goal.returns-clause-value
returns-clause-value c = c.loop-at.invariant ∙ ap is_blank (take_all c.loop-at.at c.args.block.now c.loop-at-test.false)

pub returns-clause-zeros : goal.returns-clause-zeros
returns-clause-zeros c = λ is.
    zeros_alone c.args.block.now (ap is_blank (sym (take_all c.loop-at.at c.args.block.now c.loop-at-test.false)) ∙ sym c.loop-at.invariant
    ∙ is)
