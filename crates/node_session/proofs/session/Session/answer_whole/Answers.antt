use Rattle.std.proofs.Common.{◌++◌, ap, refl, sym, List, ℕ}
use Rattle.node_session.proofs.Pieces.{fed_so}
use Rattle.node_session.proofs.session.Session.answer_whole.Goals as goal

pub returns : goal.returns
returns g c =
    let so = c.in_ok-left.ensures.lines in
    fed_so g.D.SectorDisk.state c.args.self.now c.args.self.now c.answer_lines.new.self _ c.args.self.now.rest c.args.whole.now
    c.args.whole.now c.in_ok-left.left.now c.push.new.self so.0 refl
    c.requires (sym (ap (λ (r : List ℕ). r ++ c.args.whole.now) c.requires)) so.1 so.2
    c.answer_lines.ensures.rest c.self.view_is c.in_ok-push.ensures.bytes
