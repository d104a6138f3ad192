use Rattle.std.proofs.Common.{ap}
use Rattle.command_line.proofs.Endings.{coming_ends}
use Rattle.command_line.proofs.obeying.judge_coming.Goals as goal

pub returns : goal.returns
returns g c =
    coming_ends _ _ _ _ _ c.judge_prefixes-ending.result c.tell.result
    (ap (λ (reader : _). g.R.Read.remaining reader.now) c.new-source.ensures.reader) c.judge_prefixes-ending.ensures.judges
    c.tell.ensures
