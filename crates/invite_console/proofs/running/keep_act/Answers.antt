use Rattle.std.proofs.Common.{rules, arith, ◌≡◌, ◌+◌, ◌<◌, ◌^◌, ℕ, ◌++◌, length, sym, ap, ◌∙◌}
use Rattle.invite_console.specs.Kept.{act_head}
use Rattle.invite_console.proofs.Keeping.{act_kept, act_quiet, on_ok}
use Rattle.invite_console.proofs.running.keep_act.Goals as goal

pub returns-then-sent-sent_before-clause-kept : goal.returns-then-sent-sent_before-clause-kept
returns-then-sent-sent_before-clause-kept c = λ nodes slots before count so.
    let shown = c.push_nodes.new.text.items in
    let head : c.push_head.new.text.items ≡ shown ++ act_head (length before) c.args.act.now c.in-Ok.report.outcome =
    c.in_ok-push_head-in-Ok.ensures ∙ ap (λ (i : ℕ). shown ++ act_head i c.args.act.now c.in-Ok.report.outcome) (sym count) in
    let short : length before + 3 < 2 ^ 64 = omega (arith, count, c.requires.few) in
    let unsent : length c.step.new.self.net.sent ≡ length c.args.world.now.net.sent = search rules in
    on_ok c.push_text.result c.push_text.ensures (λ ended.
    act_quiet c.left_by_a_run.ensures.grows c.args.details nodes slots c.args.world.now c.step.new.self before c.args.act.now
    c.in-Ok.report.outcome c.args.kept.now.items
    c.args.text.now.items shown c.push_head.new.text.items c.push_text.new.text.items
    (λ w stands. (c.in-Ok.ensures.acted w stands).acted) c.in-Ok.ensures.disk c.in-Ok.ensures.faults c.in-Ok.ensures.areas short
    c.in-Ok.ensures.slots c.in_ok-push_nodes.ensures head ended unsent so)

pub returns-else-sent-sent_before-clause-kept : goal.returns-else-sent-sent_before-clause-kept
returns-else-sent-sent_before-clause-kept c = λ nodes slots before count so.
    let shown = c.push_nodes.new.text.items in
    let head : c.push_head.new.text.items ≡ shown ++ act_head (length before) c.args.act.now c.in-Ok.report.outcome =
    c.in_ok-push_head-in-Ok.ensures ∙ ap (λ (i : ℕ). shown ++ act_head i c.args.act.now c.in-Ok.report.outcome) (sym count) in
    let short : length before + 3 < 2 ^ 64 = omega (arith, count, c.requires.few) in
    let is_sent : c.len-sent.result ≡ length c.step.new.self.net.sent = search rules in
    let is_written : c.len.result ≡ length c.push_head.new.text.items = search rules in
    on_ok c.keep.result c.keep.ensures (λ more.
    act_kept c.left_by_a_run.ensures.grows c.args.details nodes slots c.args.world.now c.step.new.self before c.args.act.now
    c.in-Ok.report.outcome c.args.kept.now.items c.keep.new.kept.items
    (record { sent = c.len-sent.result; written = c.len.result }) c.args.text.now.items shown c.push_head.new.text.items
    (λ w stands. (c.in-Ok.ensures.acted w stands).acted) c.in-Ok.ensures.disk c.in-Ok.ensures.faults c.in-Ok.ensures.areas short
    c.in-Ok.ensures.slots c.in_ok-push_nodes.ensures head is_sent is_written more so)
