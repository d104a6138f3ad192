use Rattle.std.proofs.Common.{◌≡◌, ◌<◌, [], length, vec_len, rules, refl, sym, ◌∙◌, subst, ℕ}
use Rattle.node_lock.proofs.Keeping.{from_nothing}
use Rattle.node_lock.proofs.Drawing.{no_numbers}
use Rattle.node_lock.proofs.Losing.{nothing_lost}
use Rattle.node_lock.proofs.held.Held.new.Goals as goal

pub invariant_of-result : goal.invariant_of-result
invariant_of-result c = rw (c.in_ok-history.ensures.turns, c.in_ok-history.ensures.lost) (record {
  id = search rules;
  nodes = search rules;
  member = search rules;
  replay = search rules;
  least_slots = search rules;
  most_slots = search rules;
  sectors = c.in_ok-node.ensures.disk.sectors;
  slots = search rules;
  turns = search rules;
  links = search rules;
  puts = search rules;
  take_links = search rules;
  takes = λ k d lt.
      let long : length c.args.takes.items ≡ vec_len c.args.takes = search rules in
      let e = c.requires.take_ends k d (subst (λ (n : ℕ). k < n) long lt) in
      (record { receiver = e.0; messages = e.1 ∙ sym (from_nothing c.args.plans.intake _ 0 [] refl) }, e.2);
  intake = search rules;
  waiting = search rules;
  few = search rules;
  lost = nothing_lost c.args.puts.items (λ k d lt. (let long : length c.args.puts.items ≡ vec_len c.args.puts = search rules in
      (c.requires.ends k d (subst (λ (n : ℕ). k < n) long lt)).2));
  numbers = rw (c.requires.none_drawn, c.in_ok-history.ensures.numbers) no_numbers;
  area = c.in_ok-node.ensures.disk.number;
  never_area_exhausted = tt;
  failures = λ disk at. sym (c.in_ok-node.ensures.disk.failures disk at);
})
