-- What was read entry by entry of what nodes told is what the value of JSON says.
use Rattle.std.proofs.Common.{◌≡◌, ℕ, Bool, true, false, List, [], ◌∷◌, ◌++◌, Option, Some, None, option_map, codes, bytes_eq, refl}
use Rattle.std.proofs.Common.{sym, ap, ◌∙◌, subst, append_assoc, option_and_then}
use Rattle.std.specs.Prelude.{if◌then◌else◌}
use Rattle.std.specs.Str.{is_utf8, IsUtf8}
use Rattle.std.proofs.lemmas.Bool.{false_from_ne_true}
use Rattle.std.proofs.lemmas.Str.{is_utf8-from_IsUtf8, IsUtf8-from_is_utf8}
use Rattle.json.specs.Token.{Token}
use Rattle.json.specs.Json as json
use Rattle.json.specs.Json.{if_last, parse_map, value}
use Rattle.json.specs.Lex.{tokens}
use Rattle.serde_json.specs.Data.{Data, Members, put}
use Rattle.serde_json.specs.Find.{as_str, get_member}
use Rattle.serde_json.specs.Read.{converted, of_json}
use Rattle.serde_json.specs.Read.{read as read_text}
use Rattle.trace_text.specs.Fields.{plain}
use Rattle.trace_text.specs.Pieces.{IsNone}
use Rattle.trace_text.specs.Streams.{data_at}
use Rattle.trace_text.specs.Tellings.{TellingData, TellingsData, if_histories, histories_told, telling_in, telling_put, telling_seen}
use Rattle.trace_text.specs.Tellings.{tellings_of, text_under, told_put, told_seen, whole_put, whole_seen, whole_told}
use Rattle.trace_text.proofs.Members.{either, get_put, mapped_if}
use Rattle.trace_text.proofs.Plain.{plain_text}
use Rattle.trace_text.proofs.Turns.{whole_read}
use Rattle.trace_text.proofs.Walks.{mapped_some}

-- ---- one more member

abbrev seen : (List ℕ → Option (Option (List ℕ))) → TellingData
seen g = record {
  object = true;
  group = g (codes "group");
  took = g (codes "took");
  dropped = g (codes "dropped");
  gone = g (codes "gone");
  id = g (codes "id");
  kept = g (codes "kept");
}

same_seen : (g h : List ℕ → Option (Option (List ℕ))) → ((q : List ℕ) → g q ≡ h q) → seen g ≡ seen h
same_seen g h e = rw (e (codes "group"), e (codes "took"), e (codes "dropped"), e (codes "gone"), e (codes "id"), e (codes "kept")) refl

abbrev seen_put : Data → Members → List ℕ → TellingData
seen_put d ms key = seen (λ (q : List ℕ). if bytes_eq key q then Some (as_str d) else text_under q ms)

seen_is : (key : List ℕ) (d : Data) (ms : Members) → seen_put d ms key ≡ telling_put (telling_seen ms) key (as_str d)
seen_is key d ms =
    either key (codes "group") (seen_put d ms) _ _ refl (λ a.
    either key (codes "took") (seen_put d ms) _ _ refl (λ b.
    either key (codes "dropped") (seen_put d ms) _ _ refl (λ c.
    either key (codes "gone") (seen_put d ms) _ _ refl (λ e.
    either key (codes "id") (seen_put d ms) _ _ refl (λ f.
    either key (codes "kept") (seen_put d ms) _ _ refl (λ g.
    rw (a, b, c, e, f, g) refl))))))

abbrev pub put_text : TellingData → List ℕ → Data → TellingData
put_text t key d = telling_put t key (as_str d)

pub telling_law : (key : List ℕ) (d : Data) (ms : Members) → telling_seen (put key d ms) ≡ put_text (telling_seen ms) key d
telling_law key d ms =
    same_seen (λ (q : List ℕ). text_under q (put key d ms)) (λ (q : List ℕ). if bytes_eq key q then Some (as_str d) else text_under q ms)
    (λ q. ap (option_map as_str) (get_put q key d ms) ∙ mapped_if as_str (bytes_eq key q) d (get_member q ms))
    ∙ seen_is key d ms

pub told_law : (key : List ℕ) (d : Data) (ms : Members) → told_seen (put key d ms) ≡ told_put (told_seen ms) key d
told_law key d ms = ap (option_map telling_in) (get_put (codes "told") key d ms)
    ∙ mapped_if telling_in (bytes_eq key (codes "told")) d (get_member (codes "told") ms)

whole_by : (b : Bool) (d : Data) (o : Option Data) → if_histories (if b then Some d else o)
    ≡ (if b then histories_told d else if_histories o)
whole_by true d o = refl
whole_by false d o = refl

pub whole_law : (key : List ℕ) (d : Data) (ms : Members) → whole_seen (put key d ms) ≡ whole_put (whole_seen ms) key d
whole_law key d ms = ap if_histories (get_put (codes "histories") key d ms)
    ∙ whole_by (bytes_eq key (codes "histories")) d (get_member (codes "histories") ms)

-- ---- a member's value

pub text_put : (t : TellingData) (key : List ℕ) (o : Option (Data × List Token)) (x : Data) (r : List Token) (text : Option (List ℕ))
    → parse_map plain o ≡ Some (x, r) → text ≡ as_str x
    → parse_map (put_text t key) o ≡ Some (telling_put t key text, r)
text_put t key o x r text read is =
    let d = mapped_some plain o x r read in
    ap (parse_map (put_text t key)) d.1
    ∙ ap (λ (s : Option (List ℕ)). Some (telling_put t key s, r)) (sym (plain_text d.0) ∙ ap as_str d.2 ∙ sym is)

-- a value is put under the key, as it is read; another is passed
module _ {S : Type 0} (name : List ℕ) (f : Data → S) (old : S) (key : List ℕ) (o : Option (Data × List Token)) (r : List Token) where
  abbrev put_if : Data → S
  put_if d = if bytes_eq key name then f d else old

  pub put_there : (x : S) → bytes_eq key name ≡ true → parse_map f o ≡ Some (x, r) → parse_map put_if o ≡ Some (x, r)
  put_there x is read = let d = mapped_some f o x r read in ap (parse_map put_if) d.1 ∙ rw (is, d.2) refl

  pub put_other : {X : Type 0} (p : Data → X) (x : X) → bytes_eq key name ≡ false → parse_map p o ≡ Some (x, r)
      → parse_map put_if o ≡ Some (old, r)
  put_other p x other read = let d = mapped_some p o x r read in ap (parse_map put_if) d.1 ∙ rw other refl

-- ---- an item more

pub more_items : {A : Type 0} (old new rest : List A) (x y : A) → y ≡ x → new ≡ old ++ x ∷ [] → old ++ y ∷ rest ≡ new ++ rest
more_items old new rest x y is pushed = rw (is, pushed, append_assoc old (x ∷ []) rest) refl

-- ---- the text

pub told_none : (text : List ℕ) → (IsUtf8 text → ⊥) → tellings_of text ≡ None
told_none text bad = rw (false_from_ne_true (is_utf8 text) (λ is. bad (IsUtf8-from_is_utf8 text is))) refl

module _ (text : List ℕ) (utf8 : IsUtf8 text) where
  of_utf8 : tellings_of text ≡ option_map whole_told (read_text text)
  of_utf8 = rw (is_utf8-from_IsUtf8 text utf8) refl

  pub told_read : (ts : List Token) → ts ≡ tokens text → (told : TellingsData)
      → parse_map whole_told (data_at 127 ts) ≡ Some (told, []) → tellings_of text ≡ Some told
  told_read ts front told e =
      let d = mapped_some whole_told (data_at 127 ts) told [] e in
      of_utf8
      ∙ ap (option_map whole_told) (whole_read (value 127 (tokens text)) d.0 (ap (data_at 127) (sym front) ∙ d.1))
      ∙ ap (λ (x : TellingsData). Some x) d.2

  none_by : (o : Option Data) → ((told : TellingsData) → parse_map whole_told (option_map {U = Data
      × List Token} (λ d. (d, [])) o) ≡ Some (told, []) → ⊥) → o ≡ None
  none_by None h = refl
  none_by (Some d) h = absurd (h (whole_told d) refl)

  not_by : (o : Option (json.Json × List Token)) → ((told : TellingsData)
      → parse_map whole_told (converted of_json o) ≡ Some (told, []) → ⊥)
      → option_and_then of_json (option_and_then (λ p. if_last p.0 p.1) o) ≡ None
  not_by None h = refl
  not_by (Some (j, [])) h = none_by (of_json j) h
  not_by (Some (j, t ∷ ts)) h = refl

  pub told_not : (ts : List Token) → ts ≡ tokens text → IsNone (λ (xs : List Token). parse_map whole_told (data_at 127 xs)) ts
      → tellings_of text ≡ None
  told_not ts front none = of_utf8 ∙ ap (option_map whole_told) (not_by (value 127 (tokens text))
      (subst (λ (xs : List Token). IsNone (λ (ys : List Token). parse_map whole_told (data_at 127 ys)) xs) front none))
