use Rattle.std.proofs.Common.{◌≡◌, drop}
use Rattle.std.specs.List.{list_any}
use Rattle.store_console.specs.Findings.{is_broken}
use Rattle.store_console.proofs.finding_text.has_broken.Given as goal

abbrev pub invariant-loop-finding : goal.invariant-loop-finding
invariant-loop-finding l = list_any is_broken (drop l.finding-index l.findings) ≡ list_any is_broken l.findings
