use Rattle.std.proofs.Common.{◌≡◌, bytes_eq, codes, false, option_map, arith}
use Rattle.json.specs.Json.{value}
use Rattle.json.specs.Find.{as_str}
use Rattle.json.proofs.Grammar.{left_some}
use Rattle.trace_text.proofs.Orders.{kept_found}
use Rattle.trace_text.proofs.ordered.pass_member.Goals as goal

pub returns-in_ok-skip_value-clause-ok : goal.returns-in_ok-skip_value-clause-ok
returns-in_ok-skip_value-clause-ok c =
    let j = left_some (value 126 c.args.reader.now) c.skip_value.new.self c.in_ok-skip_value.ensures.value in
    let other : bytes_eq c.args.key.now (codes "order") ≡ false =
    grind (arith, c.is_word.ensures, c.if-is_word.false, c.as_bytes.ensures.value) in
    record {
      json = j.0;
      there = j.1;
      found = kept_found (bytes_eq c.args.key.now (codes "order")) (as_str j.0)
          (option_map (λ s. s.now) c.args.found.now) other;
    }
