use Rattle.std.proofs.Common.{◌≡◌, drop}
use Rattle.store_console.specs.Salvaged.{contents_reasons}
use Rattle.store_console.proofs.salvaging.push_content_reasons.Given as goal

abbrev pub invariant-loop-content : goal.invariant-loop-content
invariant-loop-content l = contents_reasons l.why.items (drop l.content-index l.contents) ≡ contents_reasons l.fn.why.items l.contents
