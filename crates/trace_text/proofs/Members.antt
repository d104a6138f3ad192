-- What is read of the members of an object, one after another.
use Rattle.std.proofs.Common.{◌≡◌, ℕ, Bool, true, false, true≢false, List, Option, Some, option_map, option_and_then, codes, bytes_eq, refl}
use Rattle.std.proofs.Common.{sym, ap, ap₂, ◌∙◌}
use Rattle.std.specs.Prelude.{if◌then◌else◌}
use Rattle.std.proofs.lemmas.Bool.{cond_both}
use Rattle.std.proofs.lemmas.Slice.Eq.{bytes_eq-Decides}
use Rattle.serde_json.specs.Data.{Data, Members, put, object}
use Rattle.serde_json.specs.Find.{get_member}
use Rattle.serde_json.proofs.Views.{get_member-put, get_member-put_other}
use Rattle.trace_text.specs.Fields.{FieldData, fields_in, fields_put, plain, plain_fields}
use Rattle.trace_text.specs.Entries.{number_in}
use Rattle.trace_text.specs.Streams.{Drafted, drafted_in, drafted_put, sent_in, Parted, parted_in, parted_put, judged_in}

-- ---- one more member

get_by : (q k : List ℕ) (d : Data) (ms : Members) (b : Bool) → bytes_eq k q ≡ b
    → get_member q (put k d ms) ≡ (if b then Some d else get_member q ms)
get_by q k d ms true e = ap (λ (x : List ℕ). get_member x (put k d ms)) (sym ((bytes_eq-Decides k q).0 e)) ∙ get_member-put k d ms
get_by q k d ms false e = get_member-put_other q k d ms (λ same. absurd (true≢false (sym ((bytes_eq-Decides k q).1 (sym same)) ∙ e)))

pub get_put : (q k : List ℕ) (d : Data) (ms : Members) → get_member q (put k d ms) ≡ (if bytes_eq k q then Some d else get_member q ms)
get_put q k d ms = get_by q k d ms (bytes_eq k q) refl

pub mapped_if : {A B : Type 0} (f : A → B) (b : Bool) (a : A) (o : Option A)
    → option_map f (if b then Some a else o) ≡ (if b then Some (f a) else option_map f o)
mapped_if f true a o = refl
mapped_if f false a o = refl

-- the key is this one, or another
pub either : {X : Type 0} (key name : List ℕ) (f : List ℕ → X) (a rest : X) → f name ≡ a → (bytes_eq key name ≡ false → f key ≡ rest)
    → f key ≡ (if bytes_eq key name then a else rest)
either {X} key name f a rest is = cond_both (bytes_eq key name) a rest (λ (x : X). f key ≡ x)
    (λ e. ap f ((bytes_eq-Decides key name).0 e) ∙ is)

-- ---- the fields of an entry

abbrev seen : (List ℕ → Option Data) → FieldData
seen g = record {
  name = g (codes "do");
  message = g (codes "msg");
  fault = g (codes "fault");
  kept = g (codes "kept");
  queue = g (codes "queue");
  priority = g (codes "priority");
  payload = g (codes "payload");
  origin = g (codes "origin");
  id = g (codes "id");
}

same_seen : (g h : List ℕ → Option Data) → ((q : List ℕ) → g q ≡ h q) → seen g ≡ seen h
same_seen g h e =
    rw (
      e (codes "do"),
      e (codes "msg"),
      e (codes "fault"),
      e (codes "kept"),
      e (codes "queue"),
      e (codes "priority"),
      e (codes "payload"),
      e (codes "origin"),
      e (codes "id"),
    ) refl

abbrev seen_put : Data → Members → List ℕ → FieldData
seen_put d ms key = seen (λ (q : List ℕ). if bytes_eq key q then Some (plain d) else option_map plain (get_member q ms))

module _ (key : List ℕ) (d : Data) (ms : Members) where
  seen_is : seen_put d ms key ≡ fields_put (plain_fields (fields_in (object ms))) key (plain d)
  seen_is =
      either key (codes "do") (seen_put d ms) _ _ refl (λ a.
      either key (codes "msg") (seen_put d ms) _ _ refl (λ b.
      either key (codes "fault") (seen_put d ms) _ _ refl (λ c.
      either key (codes "kept") (seen_put d ms) _ _ refl (λ e.
      either key (codes "queue") (seen_put d ms) _ _ refl (λ f.
      either key (codes "priority") (seen_put d ms) _ _ refl (λ g.
      either key (codes "payload") (seen_put d ms) _ _ refl (λ h.
      either key (codes "origin") (seen_put d ms) _ _ refl (λ i.
      either key (codes "id") (seen_put d ms) _ _ refl (λ j.
      rw (a, b, c, e, f, g, h, i, j) refl)))))))))

  fields_law : plain_fields (fields_in (object (put key d ms))) ≡ fields_put (plain_fields (fields_in (object ms))) key (plain d)
  fields_law =
      same_seen (λ (q : List ℕ). option_map plain (get_member q (put key d ms)))
      (λ (q : List ℕ). if bytes_eq key q then Some (plain d) else option_map plain (get_member q ms))
      (λ q. ap (option_map plain) (get_put q key d ms) ∙ mapped_if plain (bytes_eq key q) d (get_member q ms))
      ∙ seen_is

fields_sent : (d : Data) (ms : Members) → plain_fields (fields_in (object (put (codes "sent") d ms))) ≡ plain_fields (fields_in (object ms))
fields_sent d ms = fields_law (codes "sent") d ms

abbrev draft : FieldData → Option Data → Drafted
draft f o = (f, option_and_then sent_in o)

pub drafted_law : (key : List ℕ) (d : Data) (ms : Members) → drafted_in (put key d ms) ≡ drafted_put (drafted_in ms) key d
drafted_law key d ms =
    either key (codes "sent") (λ (x : List ℕ). drafted_in (put x d ms)) _ _
    (ap₂ draft (fields_sent d ms) (get_member-put (codes "sent") d ms))
    (λ e. ap₂ draft (fields_law key d ms) (get_by (codes "sent") key d ms false e))

-- ---- the whole

abbrev parts : Option Data → Option Data → Parted
parts n hs = (number_in n, option_and_then judged_in hs)

pub parted_law : (key : List ℕ) (d : Data) (ms : Members) → parted_in (put key d ms) ≡ parted_put (parted_in ms) key d
parted_law key d ms =
    either key (codes "nodes") (λ (x : List ℕ). parted_in (put x d ms)) _ _
    (ap₂ parts (get_member-put (codes "nodes") d ms) (get_put (codes "histories") (codes "nodes") d ms))
    (λ a. either key (codes "histories") (λ (x : List ℕ). parted_in (put x d ms)) _ _
    (ap₂ parts (get_put (codes "nodes") (codes "histories") d ms) (get_member-put (codes "histories") d ms))
    (λ b. ap₂ parts (get_by (codes "nodes") key d ms false a) (get_by (codes "histories") key d ms false b)))
