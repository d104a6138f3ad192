use Rattle.std.proofs.Common.{◌≡◌, ◌++◌, drop, flat_map}
use Rattle.store_console.specs.Printed.{finding_text}
use Rattle.store_console.proofs.finding_text.with_findings.Given as goal

abbrev pub invariant-loop-finding : goal.invariant-loop-finding
invariant-loop-finding l = l.text.items ++ flat_map finding_text (drop l.finding-index l.findings)
    ≡ l.fn.printout.text.items ++ flat_map finding_text l.findings
