use Rattle.std.proofs.Common.{◌∙◌, ap, arith}
use Rattle.store_console.specs.Printed.{too_small}
use Rattle.store_console.proofs.Salvages.{salvage_held, salvage_small}
use Rattle.store_console.proofs.salvaging.salvage_of.Goals as goal

pub returns-then-sectors-lt24 : goal.returns-then-sectors-lt24
returns-then-sectors-lt24 c =
    salvage_small c.args.bytes.now c.in_ok-disk.disk.contents _ _ c.in_ok-disk.ensures (omega (
      arith,
      c.if-sectors-lt24.true,
      c.sectors-sectors.ensures,
    ))
    (c.without_why.ensures.printout ∙ c.in_ok-too_small.ensures ∙ ap too_small c.sectors-sectors.ensures) c.without_why.ensures.why

pub returns : goal.returns
returns c =
    salvage_held c.args.bytes.now c.in_ok-disk.disk.contents c.salvaged.result c.in_ok-disk.ensures (omega (
      arith,
      c.if-sectors-lt24.false,
      c.sectors-sectors.ensures,
    )) c.salvaged.ensures
