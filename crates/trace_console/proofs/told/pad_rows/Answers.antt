use Rattle.std.proofs.Common.{◌≡◌, ◌++◌, ◌∷◌, [], arith, rules}
use Rattle.trace_console.proofs.Thens.{padded_more}
use Rattle.trace_console.proofs.told.pad_rows.Goals as goal

pub loop-node-preserved : goal.loop-node-preserved
loop-node-preserved c =
    let within = c.loop-node.invariant.within in
    let added : c.push.new.self.items ≡ c.loop-node.rows.items ++ [] ∷ [] = search rules in
    record {
      within = omega (arith, within);
      padded = padded_more c.args.rows.now.items c.loop-node.rows.items c.push.new.self.items c.loop-node._node [] within
          c.loop-node.invariant.padded added;
    }
