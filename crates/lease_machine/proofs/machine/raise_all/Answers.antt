use Rattle.std.proofs.Common.{◌≡◌, get_or, set, sym, ap, ◌∙◌}
use Rattle.std.proofs.lemmas.List.Edits.{map_over_more}
use Rattle.lease_runs.specs.declared.voter.LeaseVoter.{LeaseVoter}
use Rattle.lease_machine.specs.declared.name_entry.NameEntry.{NameEntry}
use Rattle.lease_machine.specs.Names.{raised}
use Rattle.lease_machine.proofs.Keeping.{raised_is}
use Rattle.lease_machine.proofs.machine.raise_all.Goals as goal

pub loop-entry-preserved : goal.loop-entry-preserved
loop-entry-preserved c =
    let i = c.loop-entry.entry-index in
    let ys = c.loop-entry.entry-items in
    let x = get_or ys i c.entry-item.result in
    let is : c.raise.new.self ≡ record x.voter { bound = c.args.bound } =
    raised_is x.voter c.raise.new.self c.args.bound (c.raise.ensures 0) in
    let here : x ≡ get_or ys i x = sym c.entry-item.is ∙ c.entry-item.is ∙ ap (λ (d : NameEntry). get_or ys i d) c.entry-item.is in
    record {
      written = ap (λ (v : LeaseVoter). set ys i (record { name = x.name; voter = v; claim = x.claim })) is
          ∙ map_over_more (raised c.args.bound) c.deref_mut-entry-items.result.now ys i x c.loop-entry-test.true
          c.loop-entry.invariant.written here;
      same = c.loop-entry.invariant.same;
    }
