-- How long the body of a message may be.
use Rattle.std.proofs.Common.{◌≡◌, ◌≢◌, ℕ, ◌+◌, ◌≤◌, Bool, true, false, cond, eqb, List, [], ◌∷◌, ◌++◌, length, refl, ap, arith}
use Rattle.std.specs.Int.{w64, to_be_bytes}
use Rattle.std.proofs.lemmas.Bool.{ne_eqb}
use Rattle.std.proofs.lemmas.List.{length-append}
use Rattle.group_task.specs.Group.{Group}
use Rattle.group_task.specs.declared.node.TheConstants.{NODES}
use Rattle.job_model.specs.declared.work.Work.{Work as JobWork}
use Rattle.wire_msg.specs.declared.body.Body.{Body}
use Rattle.wire_msg.specs.declared.body.Body.TheVariants.{Work}
use Rattle.wire_msg.specs.declared.short.Short.{Short}
use Rattle.wire_msg.specs.declared.body.TheConstants.{BODY_CAPACITY}
use Rattle.wire_msg.specs.Kinds.{names_group, has_id, has_answer, group_of, said}
use Rattle.wire_msg.specs.Spelling.{truth, group, priority, payload, work, content, IsBody}
use Rattle.wire_msg.proofs.Shorts.{by_shape, said_is}
use Rattle.group_task.proofs.PublicLaws.{length-rising}

-- a priority takes a byte at most
short_priority : (p : ℕ) → length (priority p) ≤ 1
short_priority p = by_test (eqb p 0)
  where
    by_test : (b : Bool) → length (cond b [] (p ∷ [])) ≤ 1
    by_test true = omega arith
    by_test false = omega arith

length-work : (g : Group) (id : ℕ) (w : JobWork) → length (work g id w) ≡ 20 + length (priority w.priority) + length w.payload
length-work g id w = omega (arith, length-append (priority w.priority) (payload w.payload))

-- with a priority it has one byte more
pub length-with_priority : (g : Group) (id : ℕ) (w : JobWork) → w.priority ≢ 0 → length (work g id w) ≡ 21 + length w.payload
length-with_priority g id w other =
    let one : length (priority w.priority) ≡ 1 = rw (ne_eqb w.priority 0 other) refl in
    omega (arith, length-work g id w, one)

abbrev IsShortBody : Body → Type 0
IsShortBody b = IsBody b → length (content b) ≤ BODY_CAPACITY

-- the fields of a short form
few_fields : (names id has : Bool) (g : Group) (answer : Bool)
    → length (cond names (group g) (cond id (to_be_bytes w64 g.count) []) ++ cond has (truth answer) []) ≤ 10
few_fields true id true g answer = omega arith
few_fields true id false g answer = omega arith
few_fields false true true g answer = omega arith
few_fields false true false g answer = omega arith
few_fields false false true g answer = omega arith
few_fields false false false g answer = omega arith

pub short_body : (b : Body) → IsShortBody b
short_body b = by_shape IsShortBody short (λ t fits. omega (arith, length-rising 0 NODES t.members (omega arith) fits.members)) work b
  where
    short : (s : Short) → IsShortBody (said s)
    short s fits = omega (
      arith,
      ap (λ (c : List ℕ). length c) (said_is s).content,
      few_fields (names_group s.kind) (has_id s.kind) (has_answer s.kind) (group_of s) s.answer,
    )

    work : (g : Group) (id : ℕ) (w : JobWork) → IsShortBody (Work g id w)
    work g id w fits = omega (arith, fits.payload_fits, short_priority w.priority, length-work g id w)
