use Rattle.std.proofs.Common.{◌≡◌, ◌++◌, ◌∷◌, [], All, List, length, Option, option_map, sym, subst, rules}
use Rattle.trace_text.specs.declared.telling.StoredTelling.{StoredTelling}
use Rattle.trace_text.specs.Tellings.{ToldStands, telling_by}
use Rattle.trace_text.proofs.Kept.{all_longer, entry_more, entry_stands}
use Rattle.trace_text.proofs.telling.push_told.Goals as goal

pub returns-in_err-stored-clause-stands : goal.returns-in_err-stored-clause-stands
returns-in_err-stored-clause-stands c =
    let same : c.reserve.new.self.items ≡ c.args.entries.now.items = search rules in
    subst (λ (es : List (Option StoredTelling)). All (ToldStands (length c.keep_told.new.texts.items)) es) (sym same)
    (all_longer c.args.texts.now.items c.keep_told.new.texts.items c.args.entries.now.items c.in_err-stored.ensures.grown c.requires)

pub returns-clause-stands : goal.returns-clause-stands
returns-clause-stands c =
    let pushed : c.push_reserved.new.self.items ≡ c.args.entries.now.items ++ c.in_ok-stored.stored ∷ [] = search rules in
    entry_stands c.args.texts.now.items c.keep_told.new.texts.items c.args.entries.now.items c.push_reserved.new.self.items
    c.in_ok-stored.stored c.in_ok-stored.ensures.grown c.requires c.in_ok-stored.ensures.kept.stands pushed

pub returns-clause-added : goal.returns-clause-added
returns-clause-added c =
    let pushed : c.push_reserved.new.self.items ≡ c.args.entries.now.items ++ c.in_ok-stored.stored ∷ [] = search rules in
    entry_more c.args.texts.now.items c.keep_told.new.texts.items c.args.entries.now.items c.push_reserved.new.self.items
    c.in_ok-stored.stored (option_map telling_by c.args.told.now) c.in_ok-stored.ensures.grown c.requires
    c.in_ok-stored.ensures.kept.value pushed
