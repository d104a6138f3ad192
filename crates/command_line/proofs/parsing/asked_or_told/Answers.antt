use Rattle.std.proofs.Common.{ap, refl, subst, sym, ◌∙◌}
use Rattle.std.specs.Prelude.{option_map}
use Rattle.std.specs.Io.KnownBytes.{Appends}
use Rattle.command_line.specs.Asked.{asked}
use Rattle.command_line.specs.Mistakes.{mistake_line}
use Rattle.command_line.specs.declared.mistake.Mistake.{Mistake}
use Rattle.command_line.proofs.parsing.asked_or_told.Goals as goal

pub returns : goal.returns
returns g c = (
  sym c.in_ok-invocation.ensures ∙ ap (option_map asked) c.in_default.is,
  refl,
  subst (λ (m : Mistake). Appends (g.W.Write.contents c.args.output.now) (g.W.Write.contents c.writeln.new.self) (mistake_line m))
      c.mistake_in-mistake.ensures
      c.in_ok-writeln.ensures.bytes,
)
