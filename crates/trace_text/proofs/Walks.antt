-- The front of a reader's tokens, a turn at a time.
use Rattle.std.proofs.Common.{◌≡◌, ℕ, ◌-◌, ◌<◌, ◌≤◌, Bool, true, false, MatchBool, List, ◌∷◌, length, Option, Some, None, refl, ap, ◌∙◌}
use Rattle.std.proofs.Common.{arith}
use Rattle.json.specs.Token.{Token}
use Rattle.json.specs.Json as json
use Rattle.json.specs.Json.{parse_map, after_end_array, read_key, items, members, value}
use Rattle.json.proofs.Grammar.{read_key-shorter, value-begin_array, value-begin_object}
use Rattle.serde_json.specs.Data.{Data, array, object, Items, no_items, item, Members, no_members, put}
use Rattle.serde_json.specs.Read.{of_json, of_items, of_members, converted}
use Rattle.trace_text.proofs.Turns.{pick, converted_array, converted_object, item_read, item_refused, items_over, member_read}
use Rattle.trace_text.proofs.Turns.{member_refused, key_refused, members_over}
use Rattle.trace_text.specs.Streams.{behind, data_at, items_at, members_at}

pub mapped_some : {A B : Type 0} (f : A → B) (o : Option (A × List Token)) (b : B) (r : List Token) → parse_map f o ≡ Some (b, r)
    → (a : A) × (o ≡ Some (a, r)) × (f a ≡ b)
mapped_some f None b r e = absurd (cc)
mapped_some f (Some p) b r e = let same = ap (pick (b, r)) e in (p.0, ap (λ s. Some (p.0, s)) (ap (λ q. q.1) same), ap (λ q. q.0) same)

pub mapped_none : {A B : Type 0} (f : A → B) (o : Option (A × List Token)) → parse_map f o ≡ None → o ≡ None
mapped_none f None e = refl
mapped_none f (Some p) e = absurd (cc)

pub same_map : {A B : Type 0} (f g : A → B) (o : Option (A × List Token)) → ((a : A) → f a ≡ g a) → parse_map f o ≡ parse_map g o
same_map f g None e = refl
same_map f g (Some p) e = ap (λ b. Some (b, p.1)) (e p.0)

pub behind_some : {A : Type 0} (o : Option (A × List Token)) (r : List Token) → behind o ≡ Some r → (a : A) × (o ≡ Some (a, r))
behind_some None r e = absurd (cc)
behind_some (Some p) r e = (p.0, ap (λ s. Some (p.0, s)) (ap (pick r) e))

pub mapped_on : {A B D : Type 0} (f : A → B) (g : B → D) (o : Option (A × List Token)) (b : B) (r : List Token)
    → parse_map f o ≡ Some (b, r) → parse_map (λ a. g (f a)) o ≡ Some (g b, r)
mapped_on f g o b r e = let a = mapped_some f o b r e in ap (parse_map (λ x. g (f x))) a.1 ∙ ap (λ x. Some (g x, r)) a.2

-- the test that a call gave
pub opened : (A B : Type 0) (b : Bool) → b ≡ true → MatchBool b A B → A
opened A B true is said = said
opened A B false is said = absurd cc

pub behind_mapped : {A B : Type 0} (f : A → B) (o : Option (A × List Token)) (b : B) (r : List Token) → parse_map f o ≡ Some (b, r)
    → behind o ≡ Some r
behind_mapped f o b r e = let a = mapped_some f o b r e in ap behind a.1

pub mapped_twice : {A B D : Type 0} (g : B → D) (h : A → B) (f : A → D) (o : Option (A × List Token)) → ((a : A) → g (h a) ≡ f a)
    → parse_map g (parse_map h o) ≡ parse_map f o
mapped_twice g h f None e = refl
mapped_twice g h f (Some p) e = ap (λ b. Some (b, p.1)) (e p.0)

-- ---- where a list or an object stands

pub list_there : (depth : ℕ) (ts r : List Token) → ts ≡ Token.begin_array ∷ r → 0 < depth
    → data_at depth ts ≡ parse_map array (items_at (depth - 1) r)
list_there depth ts r is some =
    ap (data_at depth) is ∙ ap (converted of_json) (value-begin_array depth r some)
    ∙ converted_array (items (value (depth - 1)) (length r) r)

object_there : (depth : ℕ) (ts r : List Token) → ts ≡ Token.begin_object ∷ r → 0 < depth
    → data_at depth ts ≡ parse_map object (members_at (depth - 1) r)
object_there depth ts r is some =
    ap (data_at depth) is ∙ ap (converted of_json) (value-begin_object depth r some)
    ∙ converted_object (members (value (depth - 1)) (length r) r)

module _ (depth : ℕ) (some : 0 < depth) {ts r : List Token} where
  pub in_list : {B : Type 0} → ts ≡ Token.begin_array ∷ r → (g : Data → B) (f : Items → B) → ((ds : Items) → g (array ds) ≡ f ds)
      → parse_map g (data_at depth ts) ≡ parse_map f (items_at (depth - 1) r)
  in_list is g f law = ap (parse_map g) (list_there depth ts r is some) ∙ mapped_twice g array f (items_at (depth - 1) r) law

  pub no_list_in : ts ≡ Token.begin_array ∷ r → items_at (depth - 1) r ≡ None → data_at depth ts ≡ None
  no_list_in is none = list_there depth ts r is some ∙ ap (parse_map array) none

  pub in_object : {B : Type 0} → ts ≡ Token.begin_object ∷ r → (g : Data → B) (f : Members → B) → ((ms : Members) → g (object ms) ≡ f ms)
      → parse_map g (data_at depth ts) ≡ parse_map f (members_at (depth - 1) r)
  in_object is g f law = ap (parse_map g) (object_there depth ts r is some) ∙ mapped_twice g object f (members_at (depth - 1) r) law

  pub no_object_in : ts ≡ Token.begin_object ∷ r → members_at (depth - 1) r ≡ None → data_at depth ts ≡ None
  no_object_in is none = object_there depth ts r is some ∙ ap (parse_map object) none

-- nothing is kept of it
abbrev pub nothing : {A : Type 0} → A → ℕ
nothing a = 0

-- ---- a walk over the items of a list

-- what `f` says of the items from `start` on, `g` says of those that are left
pub record ItemsWalked {B : Type 0} (depth : ℕ) (f g : Items → B) (start left : List Token) : Type 0 where
  pub most : ℕ
  pub within : length left ≤ most
  pub same : parse_map f (items_at depth start) ≡ parse_map g (converted of_items (items (value depth) most left))
  pub before : length left ≤ length start

pub items_begun : {B : Type 0} (depth : ℕ) (f g : Items → B) (start : List Token) → ((ds : Items) → f ds ≡ g ds)
    → ItemsWalked depth f g start start
items_begun depth f g start law = record {
  most = length start;
  within = omega arith;
  same = same_map f g (items_at depth start) law;
  before = omega arith;
}

module _ {B : Type 0} {depth : ℕ} {f g : Items → B} {start left : List Token} (next : List Token)
    (walked : ItemsWalked depth f g start left) where
  pub items_done : {b : B} → after_end_array left ≡ Some next → g no_items ≡ b → parse_map f (items_at depth start) ≡ Some (b, next)
  items_done over is = walked.same ∙ ap (parse_map g) (items_over (value depth) walked.most left next walked.within over)
      ∙ ap (λ x. Some (x, next)) is

  module _ (going : (after_end_array left ≡ None) × (next ≡ left)) where
    -- an item more
    pub item_on : {X : Type 0} (p : Data → X) (h : Items → B) {x : X} {r : List Token} → parse_map p (data_at depth next) ≡ Some (x, r)
        → length r < length next → ((d : Data) (ds : Items) → p d ≡ x → g (item d ds) ≡ h ds) → ItemsWalked depth f h start r
    item_on p h {x = x} {r = r} there less law =
        let d = mapped_some p (data_at depth next) x r there in
        let within = walked.within in
        let before = walked.before in
        let shorter : length r < length left = rw (← going.1) less in
        let some : 0 < walked.most = omega (arith, within, shorter) in
        record {
          most = walked.most - 1;
          within = omega (arith, within, shorter);
          same = walked.same ∙ ap (parse_map g) (item_read (value depth) walked.most left r d.0 some going.0 (rw (← going.1) d.1))
              ∙ mapped_twice g (item d.0) h (converted of_items (items (value depth) (walked.most - 1) r)) (λ ds. law d.0 ds d.2);
          before = omega (arith, before, shorter);
        }

    pub item_missing : data_at depth next ≡ None → items_at depth start ≡ None
    item_missing none = mapped_none f (items_at depth start)
        (walked.same ∙ ap (parse_map g) (item_refused (value depth) walked.most left going.0 (rw (← going.1) none)))

-- ---- a walk over the members of an object

-- what is read behind members that were read
abbrev pub members_from : ℕ → Members → ℕ → List Token → Option (Members × List Token)
members_from depth before n ts = converted (λ (js : json.Members). of_members js before) (members (value depth) n ts)

-- the members so far were read as this, of the tokens from `start` on; these are left
pub record MembersWalked {S : Type 0} (depth : ℕ) (seen : Members → S) (now : S) (start left : List Token) : Type 0 where
  pub most : ℕ
  pub within : length left ≤ most
  pub passed : Members
  pub read : seen passed ≡ now
  pub same : members_at depth start ≡ members_from depth passed most left
  pub before : length left ≤ length start

pub members_begun : {S : Type 0} (depth : ℕ) (seen : Members → S) {now : S} (start : List Token) → seen no_members ≡ now
    → MembersWalked depth seen now start start
members_begun depth seen start is = record {
  most = length start;
  within = omega arith;
  passed = no_members;
  read = is;
  same = refl;
  before = omega arith;
}

module _ {S : Type 0} {depth : ℕ} {seen : Members → S} {now : S} {start left : List Token}
    (walked : MembersWalked depth seen now start left) where
  pub members_done : (r : List Token) → read_key left ≡ Some (None, r) → parse_map seen (members_at depth start) ≡ Some (now, r)
  members_done r over =
      ap (parse_map seen) (walked.same ∙ members_over (value depth) walked.passed walked.most left r walked.within over)
      ∙ ap (λ x. Some (x, r)) walked.read

  pub key_missing : read_key left ≡ None → members_at depth start ≡ None
  key_missing none = walked.same ∙ key_refused (value depth) walked.passed walked.most left none

  module _ (k : List ℕ) (s : List Token) (key : read_key left ≡ Some (Some k, s)) where
    -- a member more
    pub member_on : (step : S → List ℕ → Data → S) → ((k : List ℕ) (d : Data) (ms : Members) → seen (put k d ms) ≡ step (seen ms) k d)
        → {new : S} {r : List Token} → parse_map (step now k) (data_at depth s) ≡ Some (new, r) → length r < length s
        → MembersWalked depth seen new start r
    member_on step law {new = new} {r = r} there lesser =
        let d = mapped_some (step now k) (data_at depth s) new r there in
        let less = read_key-shorter left (Some k) s key in
        let within = walked.within in
        let before = walked.before in
        let some : 0 < walked.most = omega (arith, within, less) in
        record {
          most = walked.most - 1;
          within = omega (arith, within, less, lesser);
          passed = put k d.0 walked.passed;
          read = law k d.0 walked.passed ∙ ap (λ (x : S). step x k d.0) walked.read ∙ d.2;
          same = walked.same ∙ member_read (value depth) walked.passed walked.most k left s r d.0 some key d.1;
          before = omega (arith, before, less, lesser);
        }

    pub member_missing : data_at depth s ≡ None → members_at depth start ≡ None
    member_missing none = walked.same ∙ member_refused (value depth) walked.passed walked.most k left s key none
