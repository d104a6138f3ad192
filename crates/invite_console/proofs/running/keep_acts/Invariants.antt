use Rattle.std.proofs.Common.{ℕ, [], take}
use Rattle.invite_console.specs.Kept.{IsKeptSoFar}
use Rattle.invite_console.specs.Sim.{HasWorld}
use Rattle.invite_console.proofs.running.keep_acts.Given as goal

abbrev pub invariant-loop-number : goal.invariant-loop-number
invariant-loop-number l = record {
  world : HasWorld l.world;
  kept : (nodes slots : ℕ) → IsKeptSoFar l.details nodes slots l.fn.world [] l.fn.kept.items l.fn.text.items
      → IsKeptSoFar l.details nodes slots l.world (take l.number l.acts) l.kept.items l.text.items;
}
