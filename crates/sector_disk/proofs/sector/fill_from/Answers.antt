use Rattle.std.proofs.Common.{◌++◌, ◌∙◌, ap, List, ℕ, ◌-◌, length, drop, length-drop, arith}
use Rattle.std.proofs.lemmas.List.{take_all}
use Rattle.sector_disk.proofs.Bytes.{torn, dropped}
use Rattle.sector_disk.proofs.sector.fill_from.Goals as goal

pub returns-clause-torn : goal.returns-clause-torn
returns-clause-torn c =
    ap (λ (l : List ℕ). l ++ drop c.min-len.result c.args.sector.now) c.copy_from_slice.ensures.after
    ∙ torn c.args.fill.now c.args.sector.now c.min-len.result c.min-len.ensures

pub returns-clause-rest : goal.returns-clause-rest
returns-clause-rest c =
    take_all (length c.args.fill.now - c.min-len.result) (drop c.min-len.result c.args.fill.now) (simp length-drop (omega arith))
    ∙ dropped c.args.fill.now c.min-len.result c.min-len.ensures
