use Rattle.std.proofs.Common.{◌≡◌, ◌-◌, length, Some, option_map, refl, ap, sym, ◌∙◌, arith}
use Rattle.std.proofs.lemmas.Result.{err_from_is_err_and}
use Rattle.json.specs.Json.{members, parse_map, read_key, value}
use Rattle.json.proofs.Grammar.{read_key-shorter}
use Rattle.trace_text.specs.Ordered.{words_from}
use Rattle.trace_text.proofs.Orders.{lacking, member_passed, members_over, no_key, no_value}
use Rattle.trace_text.proofs.ordered.find_member.Goals as goal

pub members-init : goal.members-init
members-init c = (length c.args.reader.now, omega arith, refl)

pub members-preserved : goal.members-preserved
members-preserved c =
    let l = c.members in
    let n = l.invariant.0 in
    let found = option_map (λ s. s.now) l.found in
    let k = c.in-Some.key.now in
    let s = c.next_key.new.self in
    let r = c.pass_member.new.reader in
    let named : read_key l.reader ≡ Some (Some k, s) = grind arith in
    let less = read_key-shorter l.reader (Some k) s named in
    let lesser = c.in_ok-pass_member.ensures.shorter in
    let passed = c.in_ok-pass_member.ensures.ok in (
      n - 1,
      omega (arith, l.invariant.1),
      l.invariant.2 ∙ member_passed n l.reader found k s r passed.json (omega (arith, l.invariant.1)) named passed.there
          ∙ ap (λ f. parse_map (words_from f) (members (value 126) (n - 1) r)) (sym passed.found),
    )

pub returns-in_err-key-clause-err : goal.returns-in_err-key-clause-err
returns-in_err-key-clause-err c =
    let l = c.members in
    let p = err_from_is_err_and c.from_residual.result c.from_residual.ensures.1 in
    rw (p.1, p.2) (no_key l.invariant.0 l.reader (option_map (λ s. s.now) l.found) _ l.invariant.2 c.in_err-key.ensures.value)

pub returns-in_err-pass_member-clause-err : goal.returns-in_err-pass_member-clause-err
returns-in_err-pass_member-clause-err c =
    let l = c.members in
    let s = c.next_key.new.self in
    let k = c.in-Some.key.now in
    let all = members (value 126) (length c.args.reader.now) c.args.reader.now in
    let named : read_key l.reader ≡ Some (Some k, s) = grind arith in
    let p = err_from_is_err_and c.from_residual-in_err-pass_member.result c.from_residual-in_err-pass_member.ensures.1 in
    rw (p.1, p.2) (lacking (value 126 s) all c.in_err-pass_member.field-0.0 (λ none.
    no_value l.invariant.0 l.reader (option_map (λ s. s.now) l.found) all k s l.invariant.2 named none)
    c.in_err-pass_member.ensures.err)

pub returns-clause-ok : goal.returns-clause-ok
returns-clause-ok c =
    let l = c.members in
    l.invariant.2 ∙ members_over l.invariant.0 l.reader (option_map (λ s. s.now) l.found) c.next_key.new.self l.invariant.1 (grind arith)
