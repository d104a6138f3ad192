use Rattle.std.proofs.Common.{◌≡◌, ◌∙◌, ℕ, None, ap}
use Rattle.node_timers.specs.declared.timer_settings.TimerSettings.{TimerSettings}
use Rattle.node_timers.specs.Jitter.{drawn}
use Rattle.node_timers.specs.Policy.{Policy, jitter_at, paced_at}
use Rattle.node_timers.specs.Timers.{comes_soon, jitter_of, least_of, patience}
use Rattle.node_timers.proofs.Jitters.{drawn_fits, length_so}
use Rattle.node_timers.proofs.timer_policy.TimerPolicy.length.Goals as goal

pub returns-in-Some-clause-jitter : goal.returns-in-Some-clause-jitter
returns-in-Some-clause-jitter c =
    let p = c.args.self.now in
    drawn_fits (jitter_of (paced_at c.args.wait p) p.settled c.args.wait) p.random

pub returns-clause-value : goal.returns-clause-value
returns-clause-value c =
    let p = c.args.self.now in
    let w = c.args.wait in
    let s = paced_at w p in
    let was = c.self.inside in
    let paced = c.paced-setting.ensures in
    let view = c.self.view_is in
    let none : comes_soon p.soon p.prompted w ≡ None = cc (c.comes_soon-soon.ensures, c.in_default.is) in
    let least =
    c.least.ensures ∙ (ap (λ (t : TimerSettings). least_of t was.settled w) paced
    ∙ ap (λ (q : Policy). least_of (paced_at w q) q.settled w) view) in
    let jitter =
    ap (λ (n : ℕ). drawn n was.random) c.jitter.ensures
    ∙ (ap (λ (t : TimerSettings). drawn (jitter_of t was.settled w) was.random) paced ∙ ap (jitter_at w) view) in
    let more =
    ap (λ (t : TimerSettings). patience t w was.raise was.slowest) paced
    ∙ ap (λ (q : Policy). patience (paced_at w q) w q.raise q.slowest) view in
    length_so (comes_soon p.soon p.prompted w) s (least_of s p.settled w) (jitter_at w p) (patience s w p.raise p.slowest)
    c.from.result c.drawn-jitter.result c.patience-patience.result none
    (c.from.ensures ∙ least) (c.drawn-jitter.ensures.value ∙ jitter) (c.patience-patience.ensures.value ∙ more)
