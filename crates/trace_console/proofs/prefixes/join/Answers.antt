use Rattle.std.proofs.Common.{List, length, refl, ap, ◌∙◌, subst, arith, sym, ℕ}
use Rattle.trace_check.specs.Claims.{Claim}
use Rattle.trace_console.specs.Prefixes.{AreThen, joined}
use Rattle.trace_console.proofs.Pieces.{joined_length}
use Rattle.trace_console.proofs.Thens.{fits_length}
use Rattle.trace_console.proofs.prefixes.join.Goals as goal

pub new-requires-3 : goal.new-requires-3
new-requires-3 c =
    let old = c.args.prefix.now.trace in
    let came = c.into_histories-histories.ensures ∙ c.replace-came.ensures.value in
    let all = c.in_ok-append_all.ensures
    ∙ (λ i. joined (came i) (c.histories.ensures i)) in
    let same = fits_length old c.args.piece c.requires (λ none. c.if-nodes-eq0.false (c.nodes.ensures.value ∙ none)) in
    let many = ap (λ (hs : List (List Claim)). length hs) all ∙ joined_length old c.args.piece same in
    omega (arith, many, c.nodes.ensures.value, c.nodes.ensures.most)

pub returns : goal.returns
returns c =
    let old = c.args.prefix.now.trace in
    let came = c.into_histories-histories.ensures ∙ c.replace-came.ensures.value in
    let all = c.new-3.ensures ∙ c.in_ok-append_all.ensures ∙ (λ i. joined (came i) (c.histories.ensures i)) in
    let same = fits_length old c.args.piece c.requires (λ none. c.if-nodes-eq0.false (c.nodes.ensures.value ∙ none)) in
    let many = ap (λ (hs : List (List Claim)). length hs) all ∙ joined_length old c.args.piece same in
    let now = c.deref.ensures.value ∙ came in
    let first = c.args.prefix.now.told in
    let more = c.in_ok-told.told in
    let new = c.append_entries.new.self in
    record {
      trace = all;
      line = more;
      is_line = c.in_ok-told.ensures;
      told = subst (λ (k : ℕ). AreThen old k first more new) (sym many)
          (subst (λ (hs : List (List Claim)). AreThen hs (length hs) first more new) now c.in_ok-append_entries.ensures);
      good = refl;
    }
