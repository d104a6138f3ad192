use Rattle.std.proofs.Common.{ℕ, List, ◌++◌, ap, ◌∙◌}
use Rattle.trace_console.proofs.Stopped.{shown}
use Rattle.trace_console.proofs.contradicting.core_printout.Goals as goal

pub returns : goal.returns
returns c =
    shown c.args.found.now c.new-text.result.items c.push_before.new.text.items c.extend_from_slice.new.self.items
    c.push_text.new.text.items c.in_ok-written.written.items c.in_ok-written.ensures.text c.in_ok-written.ensures.reads_back
    c.new-text.ensures.items c.in_ok-push_before.ensures
    (c.in_ok-extend_from_slice.ensures.items ∙ ap (λ (xs : List ℕ). c.push_before.new.text.items ++ xs) c.deref.ensures.value)
    c.in_ok-push_text.ensures
