use Rattle.std.proofs.Common.{inl, inr, subst, sym}
use Rattle.node_session.specs.Serving.{Fed, Progress}
use Rattle.node_server.proofs.Bytes.{keeps_same, on_err}
use Rattle.node_server.proofs.serving.answer_line.Goals as goal

pub returns-then-not-starts_with-clause-ended : goal.returns-then-not-starts_with-clause-ended
returns-then-not-starts_with-clause-ended g c = inl (
  c.at_once_is_fed.ensures _ _ _ c.in_ok-feed.ensures,
  keeps_same (g.W.Write.contents c.args.output.now),
)

pub returns-clause-ended : goal.returns-clause-ended
returns-clause-ended g c = inr (
  c.took.new.self,
  subst (λ (s : Progress _). Fed g.D.SectorDisk.state c.args.session.now c.args.line.now s) (sym c.took.ensures.same)
      (c.any_taking.ensures _ _ _ _ _ (c.at_once_is_fed.ensures _ _ _ c.in_ok-feed.ensures) c.took.ensures.spent),
  c.in_ok-write_out.ensures.cleared,
  c.in_ok-write_out.ensures.printed,
)

pub returns-in_err-write_out-clause-broken : goal.returns-in_err-write_out-clause-broken
returns-in_err-write_out-clause-broken g c = on_err _ (inr (
  c.took.new.self,
  subst (λ (s : Progress _). Fed g.D.SectorDisk.state c.args.session.now c.args.line.now s) (sym c.took.ensures.same)
      (c.any_taking.ensures _ _ _ _ _ (c.at_once_is_fed.ensures _ _ _ c.in_ok-feed.ensures) c.took.ensures.spent),
  c.in_err-write_out.ensures.broken,
))
