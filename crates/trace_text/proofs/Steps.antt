-- Turns of the reading of a piece, whatever follows it.
use Rattle.std.proofs.Common.{◌≡◌, ℕ, ◌<◌, Bool, true, false, MatchBool, List, [], ◌∷◌, ◌++◌, length, Option, Some, None, Err}
use Rattle.std.proofs.Common.{option_and_then, codes, bytes_eq, refl, sym, ap, ap₂, ◌∙◌, arith}
use Rattle.json.specs.Token.{Token, begin_array, begin_object}
use Rattle.json.specs.Json.{parse_map, after_end_array, read_key, value}
use Rattle.serde_json.specs.Data.{Data, array, object, Items, no_items, item, Members}
use Rattle.serde_json.specs.Find.{as_array, as_object}
use Rattle.std.specs.Option.{option_or}
use Rattle.std.proofs.lemmas.Bool.{MatchBool-at_false}
use Rattle.std.proofs.lemmas.Slice.Eq.{bytes_eq-Decides}
use Rattle.trace_text.specs.Entries.{number_in}
use Rattle.trace_text.specs.Fields.{plain}
use Rattle.trace_text.proofs.Plain.{plain_number}
use Rattle.trace_check.specs.Claims.{Claim}
use Rattle.trace_text.specs.declared.fault.Location.{Location}
use Rattle.trace_text.specs.declared.stream.Entries.{Entries}
use Rattle.trace_text.specs.declared.stream.Histories.{Histories}
use Rattle.trace_text.specs.declared.stream.Parts.{Parts}
use Rattle.trace_text.specs.Drafts.{judged_by, listed_by, parted_by}
use Rattle.trace_text.specs.Wholes.{in_shape, shape_in}
use Rattle.trace_text.specs.Pieces.{Judgement, Leads, begun_on, entries_then, list_on, list_then, lists_on, lists_then, open_on}
use Rattle.trace_text.specs.Pieces.{open_parts_on, over, parts_on, put_on, then_parts, whole_on, with_more}
use Rattle.trace_text.specs.Streams.{Judged, Listed, Parted, data_at, items_at, judged_in, judged_of, members_at, parted_in, parted_put}
use Rattle.trace_text.specs.Streams.{shaped}
use Rattle.trace_text.proofs.Grow.{closed_with, data_grows, good_with, keyed_with, list_turn, object_over, object_turn, open_with}
use Rattle.trace_text.proofs.Grow.{parts_begun, then_items}
use Rattle.trace_text.proofs.Judged.{list_closed, list_opened, lists_bad, lists_begun, trace_in, whole_law}
use Rattle.trace_text.proofs.Turns.{items_over}
use Rattle.trace_text.proofs.Walks.{in_list, in_object, list_there, mapped_some, mapped_twice, same_map}

-- ---- what a call said

pub leads_same : {A : Type 0} (f : List Token → Option A) (ts : List Token) → Leads f f ts ts
leads_same f ts = record { at = λ more. refl }

pub leads_then : {A : Type 0} {f g h : List Token → Option A} {before now behind : List Token} → Leads f g before now → Leads g h now behind
    → Leads f h before behind
leads_then first then = record { at = λ more. first.at more ∙ then.at more }

-- the test that it gave was false
pub shut : (A B : Type 0) (b : Bool) → b ≡ false → MatchBool b A B → B
shut A B b is said = MatchBool-at_false A B is said

pub leads_both : {A : Type 0} {old next : List Token → Option A} {before now : List Token} (done paused : List Token → Option A)
    (behind : List Token) → Leads old next before now
    → (b : Bool) → MatchBool b (Leads next done now behind) (Leads next paused now [])
    → MatchBool b (Leads old done before behind) (Leads old paused before [])
leads_both done paused behind first true then = record { at = λ more. first.at more ∙ then.at more }
leads_both done paused behind first false then = record { at = λ more. first.at more ∙ then.at more }

-- ---- items

module _ {B : Type 0} (g : Items → B) (depth : ℕ) (left : List Token) where
  abbrev Going : List Token → Type 0
  Going next = (after_end_array left ≡ None) × (next ≡ left)

  abbrev items_on : List Token → Option (B × List Token)
  items_on ts = parse_map g (items_at depth ts)

  pub item_leads : {X : Type 0} (next : List Token) → Going next → (p : Data → X) (h : Items → B) {x : X} {r : List Token}
      → parse_map p (data_at depth next) ≡ Some (x, r) → length r < length next
      → ((d : Data) (ds : Items) → p d ≡ x → g (item d ds) ≡ h ds) → Leads items_on (λ ts. parse_map h (items_at depth ts)) left r
  item_leads next going p h {x = x} {r = r} there less law = record {
    at = λ more.
        let d = mapped_some p (data_at depth next) x r there in
        let same = ap length going.1 in
        let some : 0 < length left = omega (arith, less, same) in
        list_turn g depth (with_more more left) (open_with more left some going.0)
        ∙ ap (option_and_then (then_items g depth)) (data_grows more depth left r d.0 (ap (data_at depth) (sym going.1) ∙ d.1))
        ∙ same_map (λ (ds : Items). g (item d.0 ds)) h (items_at depth (with_more more r)) (λ ds. law d.0 ds d.2);
  }

  -- at an item that is taken whole or in part
  pub item_turns : (next : List Token) → Going next → 0 < length next
      → Leads items_on (λ ts. option_and_then (then_items g depth) (data_at depth ts)) left next
  item_turns next going more_than = record {
    at = λ more.
        let same = ap length going.1 in
        let some : 0 < length left = omega (arith, more_than, same) in
        rw (list_turn g depth (with_more more left) (open_with more left some going.0), ← going.1) refl;
  }

  pub items_done : (next : List Token) {b : B} → after_end_array left ≡ Some next → g no_items ≡ b → Leads items_on (over b) left next
  items_done next e is = record {
    at = λ more.
        rw (
          items_over (value depth) (length (with_more more left)) (with_more more left) (with_more more next) (omega arith)
              (closed_with more left next e),
          is,
        ) refl;
  }

  pub item_stops : (next : List Token) → Going next → option_and_then (then_items g depth) (data_at depth next) ≡ None
      → items_on left ≡ None
  item_stops next going none = rw (list_turn g depth left going.0, ← going.1) none

  pub item_wrong : (next : List Token) → Going next → data_at depth next ≡ None → items_on left ≡ None
  item_wrong next going none = item_stops next going (ap (option_and_then (then_items g depth)) none)

-- ---- a list among the lists

bound : {A B D : Type 0} (g : A → B) (f : B × List Token → Option D) (o : Option (A × List Token))
    → option_and_then f (parse_map g o) ≡ option_and_then (λ (q : A × List Token). f (g q.0, q.1)) o
bound g f None = refl
bound g f (Some q) = refl

same_bound : {A D : Type 0} (f k : A × List Token → Option D) (o : Option (A × List Token)) → ((q : A × List Token) → f q ≡ k q)
    → option_and_then f o ≡ option_and_then k o
same_bound f k None e = refl
same_bound f k (Some q) e = e q

module _ (all : Bool) (hs : List (List Claim)) (bad : Option Location) where
  pub list_at : (ts : List Token) → option_and_then (then_items (lists_then all hs bad) 125) (data_at 125 (begin_array ∷ ts))
      ≡ option_and_then (λ (q : Listed × List Token). parse_map (list_then all hs bad q.0) (items_at 125 q.1))
      (parse_map (entries_then (length hs) [] None) (items_at 124 ts))
  list_at ts =
      ap (option_and_then (then_items (lists_then all hs bad) 125)) (list_there 125 (begin_array ∷ ts) ts refl (omega arith))
      ∙ bound array (then_items (lists_then all hs bad) 125) (items_at 124 ts)
      ∙ same_bound _ (λ (q : Items × List Token). parse_map (list_then all hs bad (entries_then (length hs) [] None q.0))
      (items_at 125 q.1)) (items_at 124 ts)
      (λ q. same_map _ _ (items_at 125 q.1) (λ ds. list_opened all hs bad q.0 ds))
      ∙ sym (bound (entries_then (length hs) [] None) (λ (q : Listed × List Token). parse_map (list_then all hs bad q.0) (items_at 125 q.1))
      (items_at 124 ts))

  -- an item that is no list
  pub no_list_leads : (ts r : List Token) → parse_map as_array (data_at 125 ts) ≡ Some (None, r)
      → Leads (λ ts. option_and_then (then_items (lists_then all hs bad) 125) (data_at 125 ts))
      (λ ts. parse_map (lists_then false hs bad) (items_at 125 ts)) ts r
  no_list_leads ts r there = record {
    at = λ more.
        let d = mapped_some as_array (data_at 125 ts) None r there in
        rw (data_grows more 125 ts r d.0 d.1) (same_map _ (lists_then false hs bad) (items_at 125 (with_more more r))
        (λ ds. lists_bad all hs bad d.0 ds d.2));
  }

pub list_begun : (h : Histories) (e : Entries) (before r : List Token) → e.history ≡ [] → e.bad ≡ None → before ≡ begin_array ∷ r
    → Leads (list_on h) (open_on (record h { entries = e })) before r
list_begun h e before r none good is = record {
  at = λ more.
      rw (is, good_with more begin_array r refl, none, good) (list_at h.all_lists h.histories.items h.bad (with_more more r));
}

-- a list more
pub list_ended : (h new : Histories) (e : Entries) (r : List Token) → new.all_lists ≡ h.all_lists
    → new.histories.items ≡ h.histories.items ++ e.history ∷ [] → new.bad ≡ option_or h.bad e.bad
    → parse_map (list_then h.all_lists h.histories.items h.bad (listed_by e)) (items_at 125 r) ≡ lists_on new r
list_ended h new e r same pushed first =
    rw (same, pushed, first) (same_map _ _ (items_at 125 r) (list_closed h.all_lists h.histories.items h.bad e))

-- ---- the lists of the whole

pub histories_begun : (h : Histories) (before r : List Token) → h.all_lists ≡ true → h.histories.items ≡ [] → h.bad ≡ None
    → before ≡ begin_array ∷ r
    → Leads (λ ts. parse_map judged_in (data_at 126 ts)) (lists_on h) before r
histories_begun h before r all none good is = record {
  at = λ more.
      rw (is, good_with more begin_array r refl, all, none, good) (in_list 126 (omega arith) refl judged_in judged_of (λ ds. refl)
      ∙ same_map judged_of (lists_then true [] None) (items_at 125 (with_more more r)) lists_begun);
}

pub no_histories : (before r : List Token) → parse_map as_array (data_at 126 before) ≡ Some (None, r)
    → Leads (λ ts. parse_map judged_in (data_at 126 ts)) (over None) before r
no_histories before r there = record {
  at = λ more.
      let d = mapped_some as_array (data_at 126 before) None r there in rw (data_grows more 126 before r d.0 d.1, d.2) refl;
}

pub put_leads : (s : Parted) (k : List ℕ) (p : Data → Data) (x : Data) (new : Parted) (before r : List Token)
    → parse_map p (data_at 126 before) ≡ Some (x, r) → ((d : Data) → p d ≡ x → parted_put s k d ≡ new)
    → Leads (put_on s k) (over new) before r
put_leads s k p x new before r there law = record {
  at = λ more.
      let d = mapped_some p (data_at 126 before) x r there in
      rw (data_grows more 126 before r d.0 d.1) (ap (λ (y : Parted). Some (y, with_more more r)) (law d.0 d.2));
}

-- ---- members

pub key_leads : (s : Parted) (k : List ℕ) (left r : List Token) → read_key left ≡ Some (Some k, r)
    → Leads (parts_on s) (λ ts. option_and_then then_parts (parse_map (parted_put s k) (data_at 126 ts))) left r
key_leads s k left r key = record {
  at = λ more. object_turn s k (with_more more left) (with_more more r)
      (keyed_with more left r (Some k) key);
}

pub members_on : (s new : Parted) (key : List ℕ) {before behind : List Token} → Leads (put_on s key) (over new) before behind
    → Leads (λ ts. option_and_then then_parts (put_on s key ts)) (parts_on new) before behind
members_on s new key leads = record { at = λ more. ap (option_and_then then_parts) (leads.at more) }

pub members_done : (s : Parted) (left r : List Token) → read_key left ≡ Some (None, r) → Leads (parts_on s) (over s) left r
members_done s left r key = record { at = λ more. object_over s (with_more more left) (with_more more r) (keyed_with more left r None key) }

abbrev with_nodes : Option ℕ → Judged → Parted
with_nodes nodes lists = (nodes, lists)

pub nodes_put : (s : Parted) (key : List ℕ) (n : Option ℕ) (d x : Data) → bytes_eq key (codes "nodes") ≡ true → n ≡ number_in (Some x)
    → plain d ≡ x → parted_put s key d ≡ (n, s.1)
nodes_put s key n d x is from same = rw (is, from, ← same, plain_number d) refl

pub other_put : (s : Parted) (key : List ℕ) (d : Data) → bytes_eq key (codes "nodes") ≡ false → bytes_eq key (codes "histories") ≡ false
    → parted_put s key d ≡ s
other_put s key d a b = rw (a, b) refl

histories_put : (s : Parted) (key : List ℕ) (ts : List Token) → bytes_eq key (codes "histories") ≡ true
    → put_on s key ts ≡ parse_map (with_nodes s.0) (parse_map judged_in (data_at 126 ts))
histories_put s key ts is =
    ap (λ (k : List ℕ). put_on s k ts) ((bytes_eq-Decides key (codes "histories")).0 is)
    ∙ sym (mapped_twice (with_nodes s.0) judged_in (λ (d : Data). with_nodes s.0 (judged_in d)) (data_at 126 ts) (λ d. refl))

open_parts : (nodes : Option ℕ) (lists : Option Histories) (ts : List Token)
    → option_and_then then_parts (parse_map (with_nodes nodes) (option_and_then (λ (h : Histories). open_on h ts) lists))
    ≡ option_and_then (λ (h : Histories). whole_on nodes h ts) lists
open_parts nodes None ts = refl
open_parts nodes (Some h) ts = bound (with_nodes nodes) then_parts (open_on h ts)

pub histories_both : (s : Parted) (key : List ℕ) (new : Parts) (before behind : List Token) → bytes_eq key (codes "histories") ≡ true
    → new.nodes ≡ s.0 → (b : Bool)
    → MatchBool b (Leads (λ ts. parse_map judged_in (data_at 126 ts)) (over (option_and_then judged_by new.histories)) before behind)
    (Leads (λ ts. parse_map judged_in (data_at 126 ts)) (λ ts. option_and_then (λ (h : Histories). open_on h ts) new.histories) before [])
    → MatchBool b (Leads (put_on s key) (over (parted_by new)) before behind)
    (Leads (λ ts. option_and_then then_parts (put_on s key ts)) (open_parts_on new) before [])
histories_both s key new before behind is kept true said = record {
  at = λ more.
      rw (histories_put s key (with_more more before) is, said.at more, kept) refl;
}
histories_both s key new before behind is kept false said = record {
  at = λ more.
      rw (histories_put s key (with_more more before) is, said.at more, kept) (open_parts s.0 new.histories (with_more more []));
}

-- ---- the whole

no_shape : (d : Data) → as_object d ≡ None → in_shape (shape_in d) ≡ Err None
no_shape (object ms) e = absurd (cc)
no_shape _ e = refl

pub no_whole : (p : Parts) (before r : List Token) → p.nodes ≡ None → p.histories ≡ None
    → parse_map as_object (data_at 127 before) ≡ Some (None, r) → Leads (begun_on None None) (over (shaped (parted_by p))) before r
no_whole p before r none empty there = record {
  at = λ more.
      let d = mapped_some as_object (data_at 127 before) None r there in
      ap (parse_map trace_in) (data_grows more 127 before r d.0 d.1)
      ∙ ap (λ (j : Judgement). Some (j, with_more more r)) (no_shape d.0 d.2)
      ∙ ap₂ (λ (n : Option ℕ) (h : Option Histories). Some (shaped (n, option_and_then judged_by h), with_more more r)) (sym none)
      (sym empty);
}

pub whole_leads : (p : Parts) (before r : List Token) → p.nodes ≡ None → p.histories ≡ None → before ≡ begin_object ∷ r
    → Leads (begun_on None None) (λ ts. parse_map shaped (parts_on (parted_by p) ts)) before r
whole_leads p before r none empty is = record {
  at = λ more.
      let ts = with_more more r in
      rw (is, good_with more begin_object r refl, none, empty)
      (in_object 127 (omega arith) refl trace_in (λ (ms : Members). shaped (parted_in ms)) whole_law
      ∙ sym (mapped_twice shaped parted_in (λ (ms : Members). shaped (parted_in ms)) (members_at 126 ts) (λ ms. refl))
      ∙ ap (parse_map shaped) (parts_begun ts));
}

pub shaped_both : {old : List Token → Option (Judgement × List Token)} {before now : List Token} (next paused : List Token
    → Option (Parted × List Token)) (q : Parted) (behind : List Token)
    → Leads old (λ ts. parse_map shaped (next ts)) before now → (b : Bool)
    → MatchBool b (Leads next (over q) now behind) (Leads next paused now [])
    → MatchBool b (Leads old (over (shaped q)) before behind) (Leads old (λ ts. parse_map shaped (paused ts)) before [])
shaped_both next paused q behind first true then = record { at = λ more. first.at more ∙ ap (parse_map shaped) (then.at more) }
shaped_both next paused q behind first false then = record { at = λ more. first.at more ∙ ap (parse_map shaped) (then.at more) }
