use Rattle.std.proofs.Common.{ℕ, List, ◌++◌, codes, decimal, ap, ◌∙◌}
use Rattle.std.proofs.lemmas.Result.{on_ok_weaker}
use Rattle.store_console.specs.Barring.{kind_text}
use Rattle.store_console.specs.Explained.{apart}
use Rattle.store_console.proofs.Aparts.{joined}
use Rattle.store_console.proofs.explaining.push_said.Goals as goal

pub returns : goal.returns
returns c =
    let b = c.args.why.now.items in
    let w = c.as_str.result.now in
    let named = c.in_ok-push_text-2.ensures ∙ ap (λ (k : List ℕ). c.push_text.new.text.items ++ k) c.kind_name.ensures in
    on_ok_weaker c.push_text-4.result
    (λ last. (
      w,
      joined b (apart b) (codes "line " ++ decimal c.args.number) (codes ": ") (kind_text c.args.fault)
          (codes ": ") w c.push_apart.new.why.items c.push_named_number.new.text.items c.push_text.new.text.items
          c.push_text-2.new.text.items c.push_text-3.new.text.items c.push_text-4.new.text.items c.in_ok-push_apart.ensures
          c.in_ok-push_named_number.ensures c.in_ok-push_text.ensures named c.in_ok-push_text-3.ensures last,
    ))
    c.push_text-4.ensures
