-- What was kept of what nodes told stays so, whatever texts are kept behind it.
use Rattle.std.proofs.Common.{◌≡◌, ℕ, ◌≤◌, List, [], ◌∷◌, ◌++◌, length, map, All, Option, Some, None}
use Rattle.std.proofs.Common.{refl, ap, ap₂, ◌∙◌, arith, append_assoc}
use Rattle.std.proofs.lemmas.List.{map-append, length-append}
use Rattle.std.proofs.lemmas.List.Elements.{All-head, All-tail, All-push, All-weaker}
use Rattle.trace_text.specs.declared.telling.StoredText.{StoredText}
use Rattle.trace_text.specs.declared.telling.StoredText.TheVariants as stored
use Rattle.trace_text.specs.declared.telling.StoredTelling.{StoredTelling}
use Rattle.trace_text.specs.Tellings.{Grows, IsKept, SaidData, TellingData, TellingKept, TellingStands, TextStands, ToldStands}
use Rattle.trace_text.specs.Tellings.{telling_stored, text_stored, told_stored}
use Rattle.trace_check.proofs.PublicLaws.{part_same}

pub grows_then : (a b c : List ℕ) → Grows a b → Grows b c → Grows a c
grows_then a b c first then = (
  first.0 ++ then.0,
  then.1 ∙ ap (λ (xs : List ℕ). xs ++ then.0) first.1 ∙ append_assoc a first.0 then.0,
)

pub longer : (a b : List ℕ) → Grows a b → length a ≤ length b
longer a b grows = let is = ap length grows.1 in let all = length-append a grows.0 in omega (arith, is, all)

text_longer : (m n : ℕ) (t : StoredText) → m ≤ n → TextStands m t → TextStands n t
text_longer m n (stored.Text start len) less h = omega (arith, less, h)
text_longer m n _ less h = tt

text_same : (texts more : List ℕ) (t : StoredText) → TextStands (length texts) t → text_stored (texts ++ more) t ≡ text_stored texts t
text_same texts more (stored.Text start len) h = ap (λ (xs : List ℕ). Some (Some xs)) (part_same texts more start len h)
text_same texts more _ h = refl

pub kept_more : (old new : List ℕ) (t : StoredText) (field : SaidData) → Grows old new → IsKept old t field → IsKept new t field
kept_more old new t field grows kept = record {
  value = ap (λ (xs : List ℕ). text_stored xs t) grows.1 ∙ text_same old grows.0 t kept.stands ∙ kept.value;
  stands = text_longer (length old) (length new) t (longer old new grows) kept.stands;
}

-- ---- a telling

telling_longer : (m n : ℕ) (t : StoredTelling) → m ≤ n → TellingStands m t → TellingStands n t
telling_longer m n t less h = record {
  group = text_longer m n t.group less h.group;
  took = text_longer m n t.took less h.took;
  dropped = text_longer m n t.dropped less h.dropped;
  gone = text_longer m n t.gone less h.gone;
  id = text_longer m n t.id less h.id;
  kept = text_longer m n t.kept less h.kept;
}

telling_same : (texts more : List ℕ) (t : StoredTelling) → TellingStands (length texts) t
    → telling_stored (texts ++ more) t ≡ telling_stored texts t
telling_same texts more t h =
    rw (
      text_same texts more t.group h.group,
      text_same texts more t.took h.took,
      text_same texts more t.dropped h.dropped,
      text_same texts more t.gone h.gone,
      text_same texts more t.id h.id,
      text_same texts more t.kept h.kept,
    ) refl

pub telling_kept : (texts : List ℕ) (t : StoredTelling) (told : TellingData) → t.is_object ≡ told.object → IsKept texts t.group told.group
    → IsKept texts t.took told.took → IsKept texts t.dropped told.dropped → IsKept texts t.gone told.gone → IsKept texts t.id told.id
    → IsKept texts t.kept told.kept → TellingKept texts t told
telling_kept texts t told object group took dropped gone id kept = record {
  value = rw (object, group.value, took.value, dropped.value, gone.value, id.value, kept.value) refl;
  stands = record {
    group = group.stands;
    took = took.stands;
    dropped = dropped.stands;
    gone = gone.stands;
    id = id.stands;
    kept = kept.stands;
  };
}

told_longer : (m n : ℕ) → m ≤ n → (t : Option StoredTelling) → ToldStands m t → ToldStands n t
told_longer m n less None h = tt
told_longer m n less (Some t) h = telling_longer m n t less h

told_same : (texts more : List ℕ) (t : Option StoredTelling) → ToldStands (length texts) t → told_stored (texts ++ more) t
    ≡ told_stored texts t
told_same texts more None h = refl
told_same texts more (Some t) h = ap (λ (x : TellingData). Some x) (telling_same texts more t h)

-- ---- the entries

pub all_longer : (old new : List ℕ) (es : List (Option StoredTelling)) → Grows old new → All (ToldStands (length old)) es
    → All (ToldStands (length new)) es
all_longer old new es grows all =
    All-weaker (ToldStands (length old)) (ToldStands (length new)) (told_longer (length old) (length new) (longer old new grows)) es all

all_same : (texts more : List ℕ) (es : List (Option StoredTelling)) → All (ToldStands (length texts)) es
    → map (told_stored (texts ++ more)) es ≡ map (told_stored texts) es
all_same texts more [] h = refl
all_same texts more (e ∷ es) h = ap₂ (λ t ts. t ∷ ts) (told_same texts more e (All-head (ToldStands (length texts)) e es h))
    (all_same texts more es (All-tail (ToldStands (length texts)) e es h))

-- an entry more, of which this is kept
pub entry_more : (old new : List ℕ) (es all : List (Option StoredTelling)) (t : Option StoredTelling) (told : Option TellingData)
    → Grows old new
    → All (ToldStands (length old)) es → told_stored new t ≡ told → all ≡ es ++ t ∷ []
    → map (told_stored new) all ≡ map (told_stored old) es ++ told ∷ []
entry_more old new es all t told grows stand is whole =
    ap (map (told_stored new)) whole ∙ map-append (told_stored new) es (t ∷ [])
    ∙ ap₂ (λ (xs : List (Option TellingData)) (x : Option TellingData). xs ++ x ∷ [])
    (ap (λ (texts : List ℕ). map (told_stored texts) es) grows.1 ∙ all_same old grows.0 es stand) is

pub entry_stands : (old new : List ℕ) (es all : List (Option StoredTelling)) (t : Option StoredTelling) → Grows old new
    → All (ToldStands (length old)) es → ToldStands (length new) t → all ≡ es ++ t ∷ [] → All (ToldStands (length new)) all
entry_stands old new es all t grows stand here whole =
    rw whole (All-push (ToldStands (length new)) es t (all_longer old new es grows stand) here)
