use Rattle.std.proofs.Common.{◌≡◌, ℕ, List, ◌∷◌, Some, None, Result, MatchResult, sym, ap, ◌∙◌, subst, arith, refl, rules}
use Rattle.json.specs.Token.{Token}
use Rattle.json.specs.Json.{parse_map, value}
use Rattle.json.specs.declared.reader.Invalid.{Invalid}
use Rattle.json.specs.Reads.{token_of}
use Rattle.json.proofs.Grammar.{value_is}
use Rattle.serde_json.specs.Data.{string}
use Rattle.serde_json.specs.Read.{converted, of_json}
use Rattle.trace_text.specs.declared.fields.Field.{Field}
use Rattle.trace_text.specs.Fields.{data_of, plain}
use Rattle.trace_text.specs.Streams.{data_at, items_at, members_at}
use Rattle.trace_text.proofs.Walks.{behind_mapped, item_missing, item_on, items_done, key_missing, mapped_on, member_missing, member_on}
use Rattle.trace_text.proofs.Walks.{members_begun, members_done, no_list_in, no_object_in, nothing}
use Rattle.trace_text.proofs.Firsts.{flag_there, list_there, nothing_there, null_there, number_first, object_there, text_there, too_deep}
use Rattle.trace_text.proofs.Firsts.{too_deep_object}
use Rattle.trace_text.proofs.values.+read.Goals as goal

pub pass_items-items-preserved : goal.pass_items-items-preserved
pass_items-items-preserved t c =
    let read = c.in_ok-read_field.ensures in item_on c.take_end_array.new.self c.items.invariant (grind arith) plain nothing read.value
    read.shorter (λ d ds is. refl)

pub pass_items-returns-in_err-read_field-clause-value : goal.pass_items-returns-in_err-read_field-clause-value
pass_items-returns-in_err-read_field-clause-value t c =
    let none = item_missing c.take_end_array.new.self c.items.invariant (grind arith) c.in_err-read_field.ensures.value in
    grind (arith, none)

pub pass_items-returns-clause-value : goal.pass_items-returns-clause-value
pass_items-returns-clause-value t c =
    let r = c.take_end_array.new.self in behind_mapped nothing (items_at c.args.depth c.args.reader.now) 0 r
    (items_done r c.items.invariant (grind arith) refl)

pub pass_members-members-init : goal.pass_members-members-init
pass_members-members-init t c = members_begun c.args.depth nothing c.args.reader.now refl

pub pass_members-returns-in_err-next_key-clause-value : goal.pass_members-returns-in_err-next_key-clause-value
pass_members-returns-in_err-next_key-clause-value t c = let none = key_missing c.members.invariant c.in_err-next_key.ensures.value in
    grind (arith, none)

pub pass_members-members-preserved : goal.pass_members-members-preserved
pass_members-members-preserved t c =
    let s = c.next_key.new.self in
    let read = c.in_ok-read_field.ensures in
    member_on c.members.invariant c.in-Some.field-0.now s (grind arith) (λ old k. nothing) (λ k d ms. refl)
    (mapped_on plain nothing (data_at c.args.depth s) (data_of c.in_ok-read_field.field-0) c.read_field.new.reader read.value) read.shorter

pub pass_members-returns-in_err-read_field-clause-value : goal.pass_members-returns-in_err-read_field-clause-value
pass_members-returns-in_err-read_field-clause-value t c =
    let none = member_missing c.members.invariant c.in-Some.field-0.now c.next_key.new.self (grind arith) c.in_err-read_field.ensures.value
    in grind (arith, none)

pub pass_members-returns-clause-value : goal.pass_members-returns-clause-value
pass_members-returns-clause-value t c =
    let r = c.next_key.new.self in behind_mapped nothing (members_at c.args.depth c.args.reader.now) 0 r
    (members_done c.members.invariant r (grind arith))

pub read_field-returns-in_err-token-clause-value : goal.read_field-returns-in_err-token-clause-value
read_field-returns-in_err-token-clause-value t c = let none = nothing_there c.args.depth c.args.reader.now (grind arith) in
    grind (arith, none)

pub read_rest-returns-then-depth-eq0-clause-value : goal.read_rest-returns-then-depth-eq0-clause-value
read_rest-returns-then-depth-eq0-clause-value t c =
    let ts = c.args.reader.now in let none = too_deep c.args.depth ts (token_of c.args.token ∷ ts) (omega arith)
    (ap (λ k. token_of k ∷ ts) c.in-BeginArray.is) in grind (arith, none)

pub read_rest-returns-in_err-pass_items-in-BeginArray-clause-value : goal.read_rest-returns-in_err-pass_items-in-BeginArray-clause-value
read_rest-returns-in_err-pass_items-in-BeginArray-clause-value t c =
    let none = no_list_in c.args.depth (omega arith) (ap (λ k. token_of k ∷ c.args.reader.now) c.in-BeginArray.is) (grind arith) in
    grind (arith, none)

pub read_rest-returns-then-depth-eq0-2-clause-value : goal.read_rest-returns-then-depth-eq0-2-clause-value
read_rest-returns-then-depth-eq0-2-clause-value t c =
    let ts = c.args.reader.now in let none = too_deep_object c.args.depth ts (token_of c.args.token ∷ ts) (omega arith)
    (ap (λ k. token_of k ∷ ts) c.in-BeginObject.is) in grind (arith, none)

pub read_rest-returns-in_err-pass_members-in-BeginObject-clause-value :
    goal.read_rest-returns-in_err-pass_members-in-BeginObject-clause-value
read_rest-returns-in_err-pass_members-in-BeginObject-clause-value t c =
    let none = no_object_in c.args.depth (omega arith) (ap (λ k. token_of k ∷ c.args.reader.now) c.in-BeginObject.is) (grind arith) in
    grind (arith, none)

pub read_rest-returns-in-String-clause-value : goal.read_rest-returns-in-String-clause-value
read_rest-returns-in-String-clause-value t c =
    let ts = c.args.reader.now in
    let bytes : c.in-String.text.now ≡ c.as_bytes.result.now = search rules in
    ap (λ k. parse_map plain (data_at c.args.depth (token_of k ∷ ts))) c.in-String.is ∙ text_there c.args.depth ts c.in-String.text.now
    ∙ ap (λ (s : List ℕ). Some (string s, ts)) bytes

pub read_rest-returns-in-Number-clause-value : goal.read_rest-returns-in-Number-clause-value
read_rest-returns-in-Number-clause-value t c =
    let ts = c.args.reader.now in
    let text = c.in-Number.text.now in
    let first : token_of c.args.token ≡ Token.number text = ap token_of c.in-Number.is in
    subst (λ (r : Result Field Invalid). MatchResult r (λ field. parse_map plain (data_at c.args.depth (token_of c.args.token ∷ ts))
    ≡ Some (data_of field, ts)) (λ _. data_at c.args.depth (token_of c.args.token ∷ ts) ≡ None))
    (sym c.ok_or.ensures.value) (number_first c.args.depth ts (token_of c.args.token) text c.number_field.result first
    c.number_field.ensures)

pub read_rest-returns-in-Bool-clause-value : goal.read_rest-returns-in-Bool-clause-value
read_rest-returns-in-Bool-clause-value t c =
    let ts = c.args.reader.now in ap (λ k. parse_map plain (data_at c.args.depth (token_of k ∷ ts))) c.in-Bool.is
    ∙ flag_there c.args.depth ts c.in-Bool.flag

pub read_rest-returns-in-Null-clause-value : goal.read_rest-returns-in-Null-clause-value
read_rest-returns-in-Null-clause-value t c =
    let ts = c.args.reader.now in ap (λ k. parse_map plain (data_at c.args.depth (token_of k ∷ ts))) c.in-Null.is
    ∙ null_there c.args.depth ts

pub read_rest-returns-in_ok-pass_items-in-BeginArray-clause-value : goal.read_rest-returns-in_ok-pass_items-in-BeginArray-clause-value
read_rest-returns-in_ok-pass_items-in-BeginArray-clause-value t c =
    let ts = c.args.reader.now in
    ap (λ k. parse_map plain (data_at c.args.depth (token_of k ∷ ts))) c.in-BeginArray.is
    ∙ list_there c.args.depth ts c.pass_items.new.reader (omega arith) (grind arith)

pub read_rest-returns-in_ok-pass_members-in-BeginObject-clause-value : goal.read_rest-returns-in_ok-pass_members-in-BeginObject-clause-value
read_rest-returns-in_ok-pass_members-in-BeginObject-clause-value t c =
    let ts = c.args.reader.now in
    ap (λ k. parse_map plain (data_at c.args.depth (token_of k ∷ ts))) c.in-BeginObject.is
    ∙ object_there c.args.depth ts c.pass_members.new.reader (omega arith) (grind arith)

pub read_rest-returns-in-EndObject-clause-value : goal.read_rest-returns-in-EndObject-clause-value
read_rest-returns-in-EndObject-clause-value t c =
    let ts = token_of c.args.token ∷ c.args.reader.now in
    let none : value c.args.depth ts ≡ None = rw (value_is c.args.depth ts) (grind arith) in
    ap (converted of_json) none
