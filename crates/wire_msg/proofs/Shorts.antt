-- What a short form says, is spelled by its fields, and read again. What differs from kind to kind stands here.
use Rattle.std.proofs.Common.{◌≡◌, ℕ, ◌^◌, ◌<◌, ◌≤◌, Bool, true, false, cond, eqb, List, [], ◌∷◌, ◌++◌, refl, ap, subst, ◌∙◌, arith}
use Rattle.std.specs.Prelude.{Option, Some, None, IfSome, MatchBool, ⊤}
use Rattle.std.specs.Int.{w64}
use Rattle.std.proofs.lemmas.Bool.{eqb-true}
use Rattle.job_model.specs.declared.work.Work.{Work as JobWork}
use Rattle.group_task.specs.Group.{Group}
use Rattle.group_task.specs.Assignment.{Assignment}
use Rattle.group_task.specs.declared.node.TheConstants.{NODES}
use Rattle.wire_msg.specs.declared.body.Body.{Body}
use Rattle.wire_msg.specs.declared.body.Body.TheVariants as says
use Rattle.wire_msg.specs.declared.short.Kind.{Kind}
use Rattle.wire_msg.specs.declared.short.Kind.TheVariants as kind
use Rattle.wire_msg.specs.declared.short.Short.{Short}
use Rattle.wire_msg.specs.Kinds.{Shape, Brief, Tells, Gives, shape_of, body_of, kind_of, no_group, group_of, said_by, said, kind_numbered}
use Rattle.wire_msg.specs.Kinds.{number_of, names_group}
use Rattle.wire_msg.specs.Spelling.{content, place, answered, nodes_in, IsGroup, IsBody}
use Rattle.wire_msg.specs.Reading.{named_at, answer_at, short_at}
use Rattle.wire_msg.proofs.Fields.{wide64, number_again, truth_again, group_again}

-- a body is known by its shape
pub shaped : (b : Body) → body_of (shape_of b) ≡ b
shaped says.AreYouCoordinator = refl
shaped (says.Coordinator answer) = refl
shaped (says.AreYouThere g) = refl
shaped (says.Here g answer) = refl
shaped (says.Invitation g) = refl
shaped (says.Accept g) = refl
shaped (says.Ready t) = refl
shaped (says.ReadyAck g) = refl
shaped (says.Work g id w) = refl
shaped (says.Done id) = refl

-- a body has a short form, or is a Ready, or a Work
pub by_shape : (P : Body → Type 0) → ((s : Short) → P (said s)) → ((t : Assignment) → P (says.Ready t))
    → ((g : Group) (id : ℕ) (w : JobWork) → P (says.Work g id w)) → (b : Body) → P b
by_shape P short ready work b = subst P (shaped b) (each (shape_of b))
  where
    each : (shape : Shape) → P (body_of shape)
    each (Brief s) = short s
    each (Tells t) = ready t
    each (Gives g id w) = work g id w

-- the fields of a short form are in their ranges
pub record Fits (g : Group) (named : Bool) : Type 0 where
  pub creator : g.creator < NODES
  pub number : g.count < 2 ^ 64
  pub counted : MatchBool named (1 ≤ g.count) ⊤

-- how the body of a short form is spelled
pub record IsSaid (k : Kind) (g : Group) (answer : Bool) (b : Body) : Type 0 where
  pub number : kind_of b ≡ number_of k
  pub small : number_of k < 256
  pub numbered : kind_numbered (number_of k) ≡ Some k
  pub content : content b ≡ place k g ++ answered k answer
  pub nodes : nodes_in b ≡ cond (names_group k) (g.creator ∷ []) []
  pub group : IsBody b → IfSome (cond (names_group k) (Some g) None) IsGroup
  pub fits : Fits g (names_group k) → IsBody b

group_fits : (g : Group) → Fits g true → IsGroup g
group_fits g f = record { creator = f.creator; at_least_one = f.counted; fits = f.number }

by_kind : (k : Kind) (g : Group) (answer : Bool) → IsSaid k g answer (said_by k g answer)
by_kind kind.AreYouCoordinator g answer = record {
  number = refl;
  small = omega arith;
  numbered = refl;
  content = refl;
  nodes =
      refl;
  group = λ h. tt;
  fits = λ f. tt;
}
by_kind kind.Coordinator g answer = record {
  number = refl;
  small = omega arith;
  numbered = refl;
  content = refl;
  nodes = refl;
  group =
      λ h. tt;
  fits = λ f. tt;
}
by_kind kind.AreYouThere g answer = record {
  number = refl;
  small = omega arith;
  numbered = refl;
  content = refl;
  nodes = refl;
  group =
      λ h. h;
  fits = group_fits g;
}
by_kind kind.Here g answer = record {
  number = refl;
  small = omega arith;
  numbered = refl;
  content = refl;
  nodes = refl;
  group =
      λ h. h;
  fits = group_fits g;
}
by_kind kind.Invitation g answer = record {
  number = refl;
  small = omega arith;
  numbered = refl;
  content = refl;
  nodes = refl;
  group =
      λ h. h;
  fits = group_fits g;
}
by_kind kind.Accept g answer = record {
  number = refl;
  small = omega arith;
  numbered = refl;
  content = refl;
  nodes = refl;
  group =
      λ h. h;
  fits = group_fits g;
}
by_kind kind.ReadyAck g answer = record {
  number = refl;
  small = omega arith;
  numbered = refl;
  content = refl;
  nodes = refl;
  group =
      λ h. h;
  fits = group_fits g;
}
by_kind kind.Done g answer = record {
  number = refl;
  small = omega arith;
  numbered = refl;
  content = refl;
  nodes = refl;
  group =
      λ h. tt;
  fits = λ f. f.number;
}

pub kind_again : (k : Kind) → kind_numbered (number_of k) ≡ Some k
kind_again k = (by_kind k no_group false).numbered

pub said_is : (s : Short) → IsSaid s.kind (group_of s) s.answer (said s)
said_is s = by_kind s.kind (group_of s) s.answer

-- what is spelled is read again
again : (k : Kind) (g : Group) (answer : Bool) (rest : List ℕ) → IsBody (said_by k g answer)
    → short_at k ((place k g ++ answered k answer) ++ rest) ≡ Some (said_by k g answer, rest)
unfolding short_at named_at answer_at
again kind.AreYouCoordinator g answer rest fits = refl
again kind.Coordinator g answer rest fits = rw (truth_again answer rest) refl
again kind.AreYouThere g answer rest fits = rw (group_again g rest fits) refl
again kind.Here g answer rest fits = rw (group_again g (answered kind.Here answer ++ rest) fits, truth_again answer rest) refl
again kind.Invitation g answer rest fits = rw (group_again g rest fits) refl
again kind.Accept g answer rest fits = rw (group_again g rest fits) refl
again kind.ReadyAck g answer rest fits = rw (group_again g rest fits) refl
again kind.Done g answer rest fits = rw (number_again w64 (2 ^ 64) wide64 g.count rest fits) refl

pub short_again : (s : Short) (rest : List ℕ) → IsBody (said s)
    → short_at s.kind ((place s.kind (group_of s) ++ answered s.kind s.answer) ++ rest) ≡ Some (said s, rest)
short_again s rest fits = again s.kind (group_of s) s.answer rest fits

-- one test of a number: it is this kind's, or the rest of the tests decide
by_number : (n m : ℕ) (k x : Kind) (others : Option Kind) → m ≡ number_of k → (others ≡ Some x → n ≡ number_of x)
    → cond (eqb n m) (Some k) others ≡ Some x → n ≡ number_of x
by_number n m k x others is f e = split (eqb n m) refl e
  where
    split : (b : Bool) → eqb n m ≡ b → cond b (Some k) others ≡ Some x → n ≡ number_of x
    split true same h = (let it : k ≡ x = cc h in eqb-true n m same ∙ is ∙ ap number_of it)
    split false other h = f h

pub numbered_is : (n : ℕ) (x : Kind) → kind_numbered n ≡ Some x → n ≡ number_of x
numbered_is n x =
    by_number n 1 kind.AreYouCoordinator x _ refl
    (by_number n 2 kind.Coordinator x _ refl
    (by_number n 3 kind.AreYouThere x _ refl
    (by_number n 4 kind.Here x _ refl
    (by_number n 5 kind.Invitation x _ refl
    (by_number n 6 kind.Accept x _ refl
    (by_number n 8 kind.ReadyAck x _ refl
    (by_number n 10 kind.Done x _ refl (λ e. absurd cc))))))))
