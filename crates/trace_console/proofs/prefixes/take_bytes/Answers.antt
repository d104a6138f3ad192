use Rattle.std.proofs.Common.{◌∙◌}
use Rattle.trace_console.proofs.Pieces.{gone_all, gone_more, line_last, short_piece}
use Rattle.trace_console.proofs.prefixes.take_bytes.Goals as goal

pub returns-in_default-extend_from_slice : goal.returns-in_default-extend_from_slice
returns-in_default-extend_from_slice g c = short_piece _ _ _ _ _ _ _ _ c.loop-end.prefix c.extend_from_slice.new.self.items _ _
    c.loop-end.invariant c.print_made.ensures

pub returns-in-Some-take_line : goal.returns-in-Some-take_line
returns-in-Some-take_line g c =
    line_last _ _ _ _ _ _ _ _ c.in-Some.end c.deref.result.now c.take_line.new.prefix c.extend_from_slice.new.self.items _ _
    c.loop-end.invariant c.in-Some.ensures (c.deref.ensures.value ∙ c.in-Ok.ensures.items)
    (rw c.in-Some-take_line.is at c.take_line.ensures)

pub loop-end-preserved : goal.loop-end-preserved
loop-end-preserved g c =
    gone_more _ _ _ _ _ _ _ _ c.in-Some.end c.deref.result.now _ _ _ _ c.loop-end.invariant c.in-Some.ensures (c.deref.ensures.value
    ∙ c.in-Ok.ensures.items) (rw c.in_default-take_line.is at c.take_line.ensures)
    c.clear.ensures.items c.split_at.ensures.back

pub returns-in_default-extend_from_slice-2 : goal.returns-in_default-extend_from_slice-2
returns-in_default-extend_from_slice-2 g c =
    short_piece _ _ _ _ _ _ _ _ c.loop-end.prefix c.extend_from_slice-2.new.self.items _ _ c.loop-end.invariant
    c.print_made-in_default-extend_from_slice-2.ensures

pub returns : goal.returns
returns g c = gone_all _ _ _ _ _ _ _ _ _ c.loop-end.invariant (rw c.in_default.is at c.memchr.ensures)
    c.in-Ok-extend_from_slice.ensures.items
