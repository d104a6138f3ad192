use Rattle.std.proofs.Common.{◌≡◌, true, List, sym, ◌∙◌, ap, subst, arith}
use Rattle.std.proofs.lemmas.Bool.{not-false}
use Rattle.std.proofs.lemmas.Bool.Decides.{nat_tests}
use Rattle.node_lock.specs.declared.run.Run.{Run}
use Rattle.node_lock.specs.History.{Turn, entries_of}
use Rattle.node_lock.specs.Wearing.{HasFailed}
use Rattle.node_lock.specs.contracts.run.RunPartialEq as eq
use Rattle.node_threads.specs.Nodes.{NodeEnds}
use Rattle.node_threads.proofs.ended.take_out.Goals as goal

-- `==` on runs says that they are one
run_same : (a b : Run) → eq.TheImpl.eq-value.it a b ≡ true → a ≡ b
run_same a b t =
    let node : a.node ≡ b.node = grind (arith, nat_tests) in
    let nodes : a.nodes ≡ b.nodes = grind (arith, nat_tests) in
    let slots : a.slots ≡ b.slots = grind (arith, nat_tests) in
    let capacity : a.capacity ≡ b.capacity = grind (arith, nat_tests) in
    λ i. record { node = node i; nodes = nodes i; slots = slots i; capacity = capacity i }

pub returns : goal.returns
returns c =
    let p = c.into_parts-parts.ensures.parts in
    let h = c.into_held-held.result in
    let same : c.run.result ≡ c.args.run = run_same c.run.result c.args.run (not-false _ (sym c.ne.ensures ∙ c.if-ne.false)) in
    let ends = c.new.ensures in
    record {
      view = h;
      kept = c.into_parts-parts.ensures.kept;
      is_run = sym c.run.ensures ∙ same;
      is_plan = sym p.1 ∙ c.same_plans.ensures.0 c.if-not-same_plans.false;
      is_history = sym p.2;
      is_lost = sym p.3;
      is_numbers = sym p.4;
      failures = subst (λ (ts : List Turn). HasFailed (entries_of ts) c.into_parts-parts.result.history.failures)
          (sym p.2) c.into_parts-parts.ensures.failures;
      is_puts = sym p.5 ∙ sym (ap (λ (e : NodeEnds). e.puts) ends);
      is_takes = sym p.6 ∙ sym (ap (λ (e : NodeEnds). e.takes) ends);
      used_up = c.is_ended.ensures c.if-not-is_ended.false;
    }
