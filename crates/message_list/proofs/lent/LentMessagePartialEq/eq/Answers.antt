use Rattle.std.proofs.Common.{◌≡◌, sym, ◌∙◌}
use Rattle.message_list.specs.Lent.{message_opened}
use Rattle.message_list.proofs.Numbers.{as_same}
use Rattle.message_list.proofs.lent.LentMessagePartialEq.eq.Goals as goal

pub returns : goal.returns
returns c =
    let one : c.args.self.now ≡ message_opened c.opened.result = cc (c.self.view_is, c.opened.ensures.message) in
    let other : c.args.other.now ≡ message_opened c.opened-2.result = cc (c.other.view_is, c.opened-2.ensures.message) in
    as_same c.is_same.result c.args.self.now c.args.other.now (
      λ yes. one ∙ c.is_same.ensures.0 yes ∙ sym other,
      λ same. c.is_same.ensures.1 (sym one ∙ same ∙ other),
    )
