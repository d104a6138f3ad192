use Rattle.std.proofs.Common.{◌≡◌, ◌+◌, ◌-◌, arith, rules, get_or, set, replicate, subst, sym, ◌∙◌}
use Rattle.std.proofs.lemmas.List.{length-replicate, length-set}
use Rattle.std.proofs.lemmas.Option.{get_or_from_slice_get}
use Rattle.node_core.specs.Places.{ArePlacesFrom}
use Rattle.node_core.proofs.NextPlaces.{begun, looked_at}
use Rattle.node_core.proofs.places.places_of.Goals as goal

pub loop-at-init : goal.loop-at-init
loop-at-init c = record {
  placed = subst (λ end. ArePlacesFrom c.args.jobs.now end (replicate 256 end) c.in_ok-next.next.items) (sym c.len-end.ensures)
      (begun c.args.jobs.now c.in_ok-next.next.items (search rules));
  wide = length-replicate 256 c.len-end.result;
}

pub loop-at-preserved : goal.loop-at-preserved
loop-at-preserved c =
    let jobs = c.args.jobs.now in
    let job = c.unwrap.result in
    let at = c.loop-at.at - 1 in
    let is : job ≡ get_or jobs at job = sym (get_or_from_slice_get jobs at job job (sym c.get.ensures ∙ c.unwrap.ensures)) in
    let first = c.loop-at.first in
    let next = c.loop-at.next.items in
    let own : c.from-priority.result ≡ job.work.priority = c.from-priority.ensures ∙ c.priority.ensures in
    let before : c.loop-at.at ≡ at + 1 = omega arith in
    record {
      placed = subst (λ p. ArePlacesFrom jobs at (set first p at) (set next at (get_or first p 0))) (sym own)
          (looked_at jobs at job first next (omega arith) is c.loop-at.invariant.wide (omega (arith, own))
          (subst (λ n. ArePlacesFrom jobs n first next) before c.loop-at.invariant.placed));
      wide = length-set first c.from-priority.result at ∙ c.loop-at.invariant.wide;
    }

pub returns : goal.returns
returns c = let begins : c.loop-at.at ≡ 0 = omega arith in
    subst (λ n. ArePlacesFrom c.args.jobs.now n c.loop-at.first c.loop-at.next.items) begins c.loop-at.invariant.placed
