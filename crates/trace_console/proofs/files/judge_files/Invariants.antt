use Rattle.std.proofs.Common.{◌≡◌, drop, length}
use Rattle.trace_console.specs.Files.{behind, histories_of}
use Rattle.trace_console.proofs.Thens.{IsToldSoFar}
use Rattle.trace_console.proofs.files.judge_files.Given as goal

abbrev pub invariant-loop-file : goal.invariant-loop-file
invariant-loop-file l = record {
  histories : histories_of l.files ≡ behind l.histories.items (histories_of (drop l.file-index l.files));
  told : IsToldSoFar l.files (drop l.file-index l.files) (length l.histories.items) l.told;
}
