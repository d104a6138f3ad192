use Rattle.std.proofs.Common.{◌≡◌, [], None, List, Option, ap, ◌∙◌, arith, rules}
use Rattle.std.specs.Prelude.{get_or}
use Rattle.trace_text.specs.Tellings.{TellingData, TellingsData}
use Rattle.trace_console.specs.Told.{told_of}
use Rattle.trace_console.proofs.Thens.{told_is}
use Rattle.trace_console.proofs.told.Told.get.Goals as goal

pub returns : goal.returns
returns c =
    let rows : c.deref.result.now ≡ c.args.self.now = search rules in
    c.get-2.ensures ∙ told_is c.in_ok-get.field-0.now c.args.index
    ∙ ap (λ (ts : List (Option TellingData)). get_or ts c.args.index None) (c.in_ok-get.ensures.lookup.4 (omega arith) [])
    ∙ ap (λ (d : TellingsData). told_of d c.args.node c.args.index) rows
