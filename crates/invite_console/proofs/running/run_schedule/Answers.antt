use Rattle.std.proofs.Common.{rules, ◌≡◌, ℕ, List, [], subst, sym}
use Rattle.schedule.specs.declared.act.Act.{Act}
use Rattle.invite_console.specs.declared.running.ActEnd.{ActEnd}
use Rattle.invite_console.specs.Kept.{IsKeptSoFar, IsRun}
use Rattle.invite_console.proofs.Keeping.{begins_kept, run_kept}
use Rattle.invite_console.proofs.running.run_schedule.Goals as goal

pub returns : goal.returns
returns c =
    let size = c.args.schedule.now.size in
    let opened = begins_kept c.left_by_a_run.ensures.opens c.args.details size.nodes size.slots c.in_ok-world.world
    c.in_ok-world.ensures.slots c.in_ok-world.ensures.starts c.in_ok-world.ensures.unarmed c.in_ok-world.ensures.areas in
    let none : c.in_ok-kept.kept.items ≡ [] = search rules in
    let no_text : c.in_ok-text.text.items ≡ [] = search rules in
    let kept = subst (λ (kept : List ActEnd). IsKeptSoFar c.args.details size.nodes size.slots c.in_ok-world.world [] kept
    c.in_ok-text.text.items) (sym none)
    (subst (λ (text : List ℕ). IsKeptSoFar c.args.details size.nodes size.slots c.in_ok-world.world [] [] text) (sym no_text) opened) in
    let so = c.in_ok-keep_acts.ensures size.nodes size.slots kept in
    subst (λ (acts : List Act). IsRun c.args.details size.nodes size.slots acts c.keep_acts.new.kept.items c.push_table.new.text.items
    c.keep_acts.new.world.net.sent) c.deref.ensures.value
    (run_kept c.args.details size.nodes size.slots c.keep_acts.new.world c.deref.result.now c.keep_acts.new.kept.items
    c.keep_acts.new.text.items c.push_table.new.text.items so (λ w stands. c.in_ok-push_table.ensures w stands))
