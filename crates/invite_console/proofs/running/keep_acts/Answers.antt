use Rattle.std.proofs.Common.{rules, ◌≡◌, ◌+◌, ◌++◌, ◌∷◌, [], List, length, take, subst, sym, ap, ◌∙◌}
use Rattle.std.proofs.lemmas.List.{take_all, take_more}
use Rattle.schedule.specs.declared.act.Act.{Act}
use Rattle.invite_console.specs.Kept.{IsKeptSoFar}
use Rattle.invite_console.proofs.running.keep_acts.Goals as goal

pub loop-number-preserved : goal.loop-number-preserved
loop-number-preserved c =
    let i = c.loop-number.number in
    let acts = c.args.acts.now in
    let act = c.index-acts-number.result in
    let more : take (i + 1) acts ≡ take i acts ++ act ∷ [] = take_more acts i act (search rules)
    ∙ ap (λ (a : Act). take i acts ++ a ∷ []) (sym c.index-acts-number.is) in
    let many : length (take i acts) ≡ i = (search rules) in
    record {
      world = c.in_ok-keep_act.ensures.world;
      kept = λ nodes slots so. subst (λ (l : List Act). IsKeptSoFar c.args.details nodes slots c.keep_act.new.world l
          c.keep_act.new.kept.items c.keep_act.new.text.items) (sym more)
          (c.in_ok-keep_act.ensures.kept nodes slots (take i acts) many (c.loop-number.invariant.kept nodes slots so));
    }

pub returns : goal.returns
returns c = λ nodes slots so.
    subst (λ (acts : List Act). IsKeptSoFar c.args.details nodes slots c.loop-number.world acts c.loop-number.kept.items
    c.loop-number.text.items) (take_all c.loop-number.number c.args.acts.now (search rules))
    (c.loop-number.invariant.kept nodes slots so)
