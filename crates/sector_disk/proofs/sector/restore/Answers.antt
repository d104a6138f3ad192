use Rattle.std.proofs.Common.{◌++◌, ◌∙◌, ap, List, ℕ, drop, replicate}
use Rattle.sector_disk.proofs.Bytes.{expanded}
use Rattle.sector_disk.proofs.sector.restore.Goals as goal

pub returns : goal.returns
returns c =
    ap (λ (l : List ℕ). l ++ drop c.min-len.result (replicate 512 0)) c.copy_from_slice.ensures.after
    ∙ expanded c.args.trimmed.now c.min-len.result c.min-len.ensures
