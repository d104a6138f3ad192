use Rattle.std.proofs.Common.{false, sym, ◌∙◌}
use Rattle.runs.specs.declared.outcome.ActRefusal.TheVariants.{Stranger}
use Rattle.cluster_sim.specs.World.{linked, link_act}
use Rattle.cluster_sim.proofs.Doings.{linked_by, is_link, denies, known_step}
use Rattle.cluster_sim.proofs.nodes.Nodes.link.Goals as goal

pub returns-clause-acted : goal.returns-clause-acted
returns-clause-acted c = λ w stands.
    linked_by w c.args.joined c.args.a c.args.b _ c.args.self.now c.link.new.net.network c.nothing_sent.result c.self.view_is stands
    (sym c.has_both.ensures ∙ c.if-not-has_both.false) c.link.ensures c.nothing_sent.ensures

pub returns-then-not-has_both-clause-acted : goal.returns-then-not-has_both-clause-acted
returns-then-not-has_both-clause-acted c = λ w stands.
    denies w (link_act c.args.joined c.args.a c.args.b) 0 Stranger c.args.self.now stands
    (is_link c.args.joined _ w c.args.a c.args.b _ (known_step w c.args.a c.args.b c.args.self.now
    (linked c.args.joined w.net c.args.a c.args.b) false stands (sym c.has_both.ensures ∙ c.if-not-has_both.true)))
