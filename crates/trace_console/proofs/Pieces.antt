-- Lines of a run as it comes.
use Rattle.std.proofs.Common.{◌≡◌, ◌<◌, ◌≤◌, ◌==◌, ℕ, zero, suc, ◌+◌, Bool, true, false, List, [], ◌∷◌, ◌++◌, length, take, drop, slice_get}
use Rattle.std.proofs.Common.{slice_set, Option, Some, None, inl, inr, refl, sym, ap, ◌∙◌, subst, arith, append_assoc}
use Rattle.std.proofs.Common.{append-nil}
use Rattle.std.specs.Prelude.{slice_index}
use Rattle.std.specs.List.{onto_first}
use Rattle.std.specs.Io.KnownBytes.{Appends, Consumes, IsAtEnd, Keeps}
use Rattle.std.proofs.lemmas.List.Splits.{slice_split-cons_yes, slice_split-cons_no}
use Rattle.std.proofs.lemmas.Option.{same_Some}
use Rattle.memchr.specs.Find.{NoneBefore, Nowhere, Passes, is_byte}
use Rattle.console_text.specs.Ends.{PrintsText, ending_of}
use Rattle.console_text.specs.declared.ends.ExitKind.{ExitKind}
use Rattle.console_text.specs.declared.ends.ExitKind.TheVariants.{Done, Refused, NoMemory, Unread, Unwritten}
use Rattle.line_words.specs.Lines.{is_line_feed, lines_of}
use Rattle.trace_check.specs.Claims.{Claim}
use Rattle.trace_console.specs.declared.prefixes.Prefix.{Prefix}
use Rattle.trace_console.specs.Prefixes.{AreTaken, BringsTo, EndsLine, EndsPiece, HasNoFeed, IsBroken, IsGone, IsJudged, IsRefusedFirst}
use Rattle.trace_console.specs.Prefixes.{IsStopped, IsTaken, JudgesPrefixes, joined, no_memory, nothing}

-- ---- what was written and read

appends_none : (a : Option (List ℕ)) → Appends a a []
appends_none None = tt
appends_none (Some xs) = sym (append-nil xs)

appends_more : (a b c : Option (List ℕ)) (x y : List ℕ) → Appends a b x → Appends b c y → Appends a c (x ++ y)
appends_more None b c x y first second = tt
appends_more (Some xs) None c x y first second = absurd first
appends_more (Some xs) (Some ys) None x y first second = absurd second
appends_more (Some xs) (Some ys) (Some zs) x y first second = second ∙ ap (λ l. l ++ y) first ∙ append_assoc xs x y

consumes_keeps : (a b c : Option (List ℕ)) (x : List ℕ) → Consumes a b x → Keeps b c → Consumes a c x
consumes_keeps None b c x first second = tt
consumes_keeps (Some xs) None c x first second = absurd first
consumes_keeps (Some xs) (Some ys) None x first second = absurd second
consumes_keeps (Some xs) (Some ys) (Some zs) x first second = first ∙ ap (λ l. x ++ l) (sym second)

consumes_more : (a b c : Option (List ℕ)) (x y : List ℕ) → Consumes a b x → Consumes b c y → Consumes a c (x ++ y)
consumes_more None b c x y first second = tt
consumes_more (Some xs) None c x y first second = absurd first
consumes_more (Some xs) (Some ys) None x y first second = absurd second
consumes_more (Some xs) (Some ys) (Some zs) x y first second = first ∙ ap (λ l. x ++ l) second ∙ sym (append_assoc x y zs)

-- ---- line feeds

not_true : (b : Bool) → (b ≡ true → ⊥) → b ≡ false
not_true true h = absurd (h refl)
not_true false h = refl

no_feed : (text : List ℕ) → ((i : ℕ) → i < length text → is_byte 10 (slice_index text i) ≡ true → ⊥) → HasNoFeed text
no_feed [] none = tt
no_feed (c ∷ text) none = (not_true (c == 10) (none 0 (omega arith)), no_feed text (λ i within. none (suc i) (omega arith)))

none_left : (text : List ℕ) → Nowhere (Passes (is_byte 10) text) 0 (length text) → HasNoFeed text
none_left text none = no_feed text (λ i within here. none i (omega arith) within here)

no_feed_both : (xs ys : List ℕ) → HasNoFeed xs → HasNoFeed ys → HasNoFeed (xs ++ ys)
no_feed_both [] ys a b = b
no_feed_both (x ∷ xs) ys a b = (a.0, no_feed_both xs ys a.1 b)

-- the first line of a text that goes on
first_line : (text : List ℕ) (k : ℕ) → k < length text → ((i : ℕ) → i < k → is_byte 10 (slice_index text i) ≡ true → ⊥)
    → is_byte 10 (slice_index text k) ≡ true → (more : List ℕ)
    → lines_of (text ++ more) ≡ take k text ∷ lines_of (drop (suc k) text ++ more)
first_line [] k within none here more = absurd (omega arith)
first_line (c ∷ text) zero within none here more = slice_split-cons_yes is_line_feed c (text ++ more) here
first_line (c ∷ text) (suc k) within none here more =
    slice_split-cons_no is_line_feed c (text ++ more) (not_true (c == 10) (none 0 (omega arith)))
    ∙ ap (onto_first c) (first_line text k (omega arith) (λ i before. none (suc i) (omega arith)) here more)

-- bytes without a line feed come in front of the first line
unread_before : (unread text first : List ℕ) (rest : List (List ℕ)) → HasNoFeed unread → lines_of text ≡ first ∷ rest
    → lines_of (unread ++ text) ≡ (unread ++ first) ∷ rest
unread_before [] text first rest none is = is
unread_before (c ∷ unread) text first rest none is =
    slice_split-cons_no is_line_feed c (unread ++ text) none.0 ∙ ap (onto_first c) (unread_before unread text first rest none.1 is)

alone : (unread : List ℕ) → HasNoFeed unread → lines_of unread ≡ unread ∷ []
alone [] none = refl
alone (c ∷ unread) none = slice_split-cons_no is_line_feed c unread none.0 ∙ ap (onto_first c) (alone unread none.1)

-- ---- lines that were taken

taken_both : (ls ms : List (List ℕ)) (old mid new : Prefix) (text more : List ℕ) → AreTaken old ls mid text → AreTaken mid ms new more
    → AreTaken old (ls ++ ms) new (text ++ more)
taken_both [] ms old mid new text more a b = subst (λ (t : List ℕ). AreTaken old ms new (t ++ more)) (sym a.1)
    (subst (λ (p : Prefix). AreTaken p ms new more) a.0 b)
taken_both (l ∷ ls) ms old mid new text more a b = (
  a.0,
  a.1,
  a.2 ++ more,
  a.3,
  taken_both ls ms a.0 mid new a.2 more a.4 b,
  ap (λ (t : List ℕ). t ++ more) a.5 ∙ append_assoc a.1 a.2 more,
)

taken_alone : (bytes : List ℕ) (old new : Prefix) (text : List ℕ) → IsTaken old bytes new text → AreTaken old (bytes ∷ []) new text
taken_alone bytes old new text is = (new, text, [], is, (refl, refl), sym (append-nil text))

-- ---- a piece

-- one line more
pub gone_more : (old : Prefix) (kept piece : List ℕ) (now : Prefix) (unread left : List ℕ) (before here : Option (List ℕ)) (k : ℕ)
    (whole : List ℕ) (new : Prefix) (emptied behind : List ℕ) (next : Option (List ℕ))
    → IsGone old kept piece now unread left before here → NoneBefore (Passes (is_byte 10) left) 0 (length left) k
    × Passes (is_byte 10) left k → whole ≡ unread ++ take k left → EndsLine now whole new here next None
    → emptied ≡ [] → behind ≡ drop (k + 1) left → IsGone old kept piece new emptied behind before next
gone_more old kept piece now unread left before here k whole new emptied behind next g found is taken none rest =
    let more : k + 1 ≡ suc k = omega arith in
    subst (λ (u : List ℕ). IsGone old kept piece new u behind before next) (sym none)
    (subst (λ (b : List ℕ). IsGone old kept piece new [] b before next) (sym (rest ∙ ap (λ (j : ℕ). drop j left) more)) (record {
      lines = g.lines ++ whole ∷ [];
      cut = λ more. g.cut more
          ∙ ap (λ (ls : List (List ℕ)). g.lines ++ ls) (unread_before unread (left
          ++ more) (take k left) (lines_of (drop (suc k) left ++ more)) g.clear
          (first_line left k found.0.high (λ i within here. found.0.before i (omega arith) within here) found.1 more)
          ∙ ap (λ (w : List ℕ). w ∷ lines_of (drop (suc k) left ++ more)) (sym is))
          ∙ sym (append_assoc g.lines (whole ∷ []) (lines_of (drop (suc k) left ++ more)));
      text = g.text ++ taken.0;
      taken = taken_both g.lines (whole ∷ []) old now new g.text taken.0 g.taken (taken_alone whole now new taken.0 taken.1);
      printed = appends_more before here next g.text taken.0 g.printed taken.2;
      clear = tt;
    }))

-- all lines of a piece
pub gone_all : (old : Prefix) (kept piece : List ℕ) (now : Prefix) (unread left : List ℕ) (before here : Option (List ℕ)) (last : List ℕ)
    → IsGone old kept piece now unread left before here → Nowhere (Passes (is_byte 10) left) 0 (length left) → last ≡ unread ++ left
    → IsGone old kept piece now last [] before here
gone_all old kept piece now unread left before here last g none is =
    subst (λ (u : List ℕ). IsGone old kept piece now u [] before here) (sym is) (record {
      lines = g.lines;
      cut = λ more. g.cut more ∙ ap (λ (x : List ℕ). g.lines ++ lines_of x) (sym (append_assoc unread left more));
      text = g.text;
      taken = g.taken;
      printed = g.printed;
      clear = no_feed_both unread left g.clear (none_left left none);
    })

cut_now : (old : Prefix) (kept piece : List ℕ) (now : Prefix) (unread left : List ℕ) (before here : Option (List ℕ))
    (g : IsGone old kept piece now unread left before here)
    → lines_of (kept ++ piece) ≡ g.lines ++ lines_of (unread ++ left)
cut_now old kept piece now unread left before here g =
    ap (λ (x : List ℕ). lines_of (kept ++ x)) (sym (append-nil piece)) ∙ g.cut []
    ∙ ap (λ (x : List ℕ). g.lines ++ lines_of (unread ++ x)) (append-nil left)

breaks : (Ends : Prefix → List (List ℕ) → Option (List ℕ) → Type 0) (old : Prefix) (kept piece : List ℕ) (now : Prefix)
    (unread left : List ℕ) (before here : Option (List ℕ)) (others : List (List ℕ))
    → IsGone old kept piece now unread left before here → lines_of (unread ++ left) ≡ others → Ends now others here
    → IsBroken Ends old kept piece before
breaks Ends old kept piece now unread left before here others g is ends = record {
  lines = g.lines;
  others = others;
  cut = cut_now old kept piece now unread left before here g ∙ ap (λ (ls : List (List ℕ)). g.lines ++ ls) is;
  mid = now;
  text = g.text;
  taken = g.taken;
  here = here;
  printed = g.printed;
  ends = ends;
}

-- memory ran out
pub short_piece : (old : Prefix) (kept piece : List ℕ) (now : Prefix) (unread left : List ℕ) (before here : Option (List ℕ)) (new : Prefix)
    (last : List ℕ) (behind : Option (List ℕ)) (ending : ExitKind)
    → IsGone old kept piece now unread left before here → PrintsText no_memory here behind NoMemory ending
    → EndsPiece old kept piece new last before behind (Some ending)
short_piece old kept piece now unread left before here new last behind Done g prints = (let bad : Done ≡ NoMemory = prints.0 in absurd cc)
short_piece old kept piece now unread left before here new last behind Refused g prints =
    (let bad : Refused ≡ NoMemory = prints.0 in absurd cc)
short_piece old kept piece now unread left before here new last behind NoMemory g prints =
    breaks (λ mid others at. Appends at behind no_memory) old kept piece now unread left before here (lines_of (unread ++ left)) g refl
    prints.1
short_piece old kept piece now unread left before here new last behind Unread g prints =
    (let bad : Unread ≡ NoMemory = prints.0 in absurd cc)
short_piece old kept piece now unread left before here new last behind Unwritten g prints = tt

-- a line was the last
pub line_last : (old : Prefix) (kept piece : List ℕ) (now : Prefix) (unread left : List ℕ) (before here : Option (List ℕ)) (k : ℕ)
    (whole : List ℕ) (new : Prefix) (last : List ℕ) (behind : Option (List ℕ)) (ending : ExitKind)
    → IsGone old kept piece now unread left before here → NoneBefore (Passes (is_byte 10) left) 0 (length left) k
    × Passes (is_byte 10) left k → whole ≡ unread ++ take k left
    → EndsLine now whole new here behind (Some ending) → EndsPiece old kept piece new last before behind (Some ending)
line_last old kept piece now unread left before here k whole new last behind Done g found is ends = ends
line_last old kept piece now unread left before here k whole new last behind Refused g found is ends =
    breaks (IsRefusedFirst behind) old kept piece now unread left before here (whole ∷ lines_of (drop (suc k) left)) g
    (ap (λ (x : List ℕ). lines_of (unread ++ x)) (sym (append-nil left))
    ∙ unread_before unread (left ++ []) (take k left) (lines_of (drop (suc k) left ++ [])) g.clear
    (first_line left k found.0.high (λ i within at. found.0.before i (omega arith) within at) found.1 [])
    ∙ (λ i. sym is i ∷ lines_of (append-nil (drop (suc k) left) i))) ends
line_last old kept piece now unread left before here k whole new last behind NoMemory g found is ends =
    breaks (λ mid others at. Appends at behind no_memory) old kept piece now unread left before here (lines_of (unread ++ left)) g refl ends
line_last old kept piece now unread left before here k whole new last behind Unread g found is ends = ends
line_last old kept piece now unread left before here k whole new last behind Unwritten g found is ends = tt

-- ---- the whole input

-- all that was read by now
pub record IsHeard (input rest before here : Option (List ℕ)) (now : Prefix) (unread : List ℕ) : Type 0 where
  pub bytes : List ℕ
  pub read : Consumes input rest bytes
  pub gone : IsGone nothing [] bytes now unread [] before here

-- nothing was read, or a read failed
pub heard_on : (input here rest before shown : Option (List ℕ)) (now : Prefix) (unread piece : List ℕ)
    → IsHeard input here before shown now unread → Consumes here rest piece → piece ≡ [] → IsHeard input rest before shown now unread
heard_on input here rest before shown now unread piece h read none = record {
  bytes = h.bytes;
  read = subst (λ (x : List ℕ). Consumes input rest x) (ap (λ (x : List ℕ). h.bytes ++ x) none ∙ append-nil h.bytes)
      (consumes_more input here rest h.bytes piece h.read read);
  gone = h.gone;
}

pub heard_kept : (input here rest before shown : Option (List ℕ)) (now : Prefix) (unread : List ℕ)
    → IsHeard input here before shown now unread → Keeps here rest → IsHeard input rest before shown now unread
heard_kept input here rest before shown now unread h keeps =
    record { bytes = h.bytes; read = consumes_keeps input here rest h.bytes h.read keeps; gone = h.gone }

pub heard_more : (input here rest before shown next : Option (List ℕ)) (now new : Prefix) (unread last piece : List ℕ)
    → IsHeard input here before shown now unread → Consumes here rest piece
    → EndsPiece now unread piece new last shown next None → IsHeard input rest before next new last
heard_more input here rest before shown next now new unread last piece h read p = record {
  bytes = h.bytes ++ piece;
  read = consumes_more input here rest h.bytes piece h.read read;
  gone = record {
    lines = h.gone.lines ++ p.lines;
    cut = λ more. ap lines_of (append_assoc h.bytes piece more) ∙ h.gone.cut (piece ++ more)
        ∙ ap (λ (ls : List (List ℕ)). h.gone.lines ++ ls) (p.cut more)
        ∙ sym (append_assoc h.gone.lines p.lines (lines_of (last ++ more)));
    text = h.gone.text ++ p.text;
    taken = taken_both h.gone.lines p.lines nothing now new h.gone.text p.text h.gone.taken p.taken;
    printed = appends_more before shown next h.gone.text p.text h.gone.printed p.printed;
    clear = p.clear;
  };
}

pub judged_by : (input rest before here : Option (List ℕ)) (now : Prefix) (unread : List ℕ) → IsHeard input rest before here now unread
    → IsJudged input rest before here now
judged_by input rest before here now unread h = record {
  bytes = h.bytes;
  read = h.read;
  lines = h.gone.lines;
  unread = unread;
  cut = ap lines_of (sym (append-nil h.bytes)) ∙ h.gone.cut []
      ∙ ap (λ (ls : List (List ℕ)). h.gone.lines ++ ls) (ap lines_of (append-nil unread) ∙ alone unread h.gone.clear);
  text = h.gone.text;
  taken = h.gone.taken;
  printed = h.gone.printed;
}

stops : (Ends : Prefix → List (List ℕ) → Option (List ℕ) → Type 0) (input here rest before shown : Option (List ℕ)) (now : Prefix)
    (unread piece : List ℕ) → IsHeard input here before shown now unread
    → Consumes here rest piece → IsBroken Ends now unread piece shown → IsStopped Ends input rest before
stops Ends input here rest before shown now unread piece h read b = record {
  bytes = h.bytes ++ piece;
  read = consumes_more input here rest h.bytes piece h.read read;
  broken = record {
    lines = h.gone.lines ++ b.lines;
    others = b.others;
    cut = h.gone.cut piece ∙ ap (λ (ls : List (List ℕ)). h.gone.lines ++ ls) b.cut ∙ sym (append_assoc h.gone.lines b.lines b.others);
    mid = b.mid;
    text = h.gone.text ++ b.text;
    taken = taken_both h.gone.lines b.lines nothing now b.mid h.gone.text b.text h.gone.taken b.taken;
    here = b.here;
    printed = appends_more before shown b.here h.gone.text b.text h.gone.printed b.printed;
    ends = b.ends;
  };
}

pub ends_within : (input here rest before shown behind : Option (List ℕ)) (now new : Prefix) (unread last piece : List ℕ)
    (ending : ExitKind) → IsHeard input here before shown now unread → Consumes here rest piece
    → EndsPiece now unread piece new last shown behind (Some ending) → JudgesPrefixes input rest before behind ending
ends_within input here rest before shown behind now new unread last piece Done h read ends = absurd ends
ends_within input here rest before shown behind now new unread last piece Refused h read ends =
    inr (stops (IsRefusedFirst behind) input here rest before shown now unread piece h read ends)
ends_within input here rest before shown behind now new unread last piece NoMemory h read ends =
    stops (λ mid others at. Appends at behind no_memory) input here rest before shown now unread piece h read ends
ends_within input here rest before shown behind now new unread last piece Unread h read ends = absurd ends
ends_within input here rest before shown behind now new unread last piece Unwritten h read ends = tt

-- each read takes one of those that are left
pub counted_more : (old new reads all : ℕ) → (old ≡ 0 → ⊥) → (0 < old → new + 1 ≡ old) → old + reads ≡ all → new + (reads + 1) ≡ all
counted_more zero new reads all some taken counted = absurd (some refl)
counted_more (suc old) new reads all some taken counted = (let one = taken (omega arith) in omega (arith, one, counted))

pub most_more : (old reads all most : ℕ) → old ≤ most → old + reads ≡ all → (0 < reads → all ≤ most) → all ≤ most
most_more old zero all most within counted known = omega (arith, within, counted)
most_more old (suc reads) all most within counted known = known (omega arith)

-- the input ended
pub ends_with_input : (input rest before behind : Option (List ℕ)) (now : Prefix) (unread : List ℕ) (ending : ExitKind)
    → IsHeard input rest before behind now unread → IsAtEnd rest → ending ≡ ending_of now.good
    → JudgesPrefixes input rest before behind ending
ends_with_input input rest before behind now unread ending h end is =
    subst (λ (e : ExitKind). JudgesPrefixes input rest before behind e) (sym is) (by_good now.good refl)
  where
    by_good : (good : Bool) → now.good ≡ good → JudgesPrefixes input rest before behind (ending_of good)
    by_good true so = (now, judged_by input rest before behind now unread h, so, end)
    by_good false so = inl (now, judged_by input rest before behind now unread h, so, end)

-- the line brought entries
pub brought_line : (old : Prefix) (bytes : List ℕ) (new : Prefix) (before : Option (List ℕ)) → (length bytes == 0) ≡ false
    → BringsTo old bytes new → EndsLine old bytes new before before None
brought_line old [] new before some came = (let bad : true ≡ false = some in absurd cc)
brought_line old (c ∷ bytes) new before some came = ([], (came, refl), appends_none before)

-- ---- entries that come behind others

taken_suc : {A : Type 0} → (xs : List A) (k : ℕ) (x : A) → slice_get xs k ≡ Some x → take k xs ++ x ∷ [] ≡ take (suc k) xs
taken_suc [] k x at = absurd cc
taken_suc (y ∷ xs) zero x at = ap (λ z. z ∷ []) (sym (same_Some y x at))
taken_suc (y ∷ xs) (suc k) x at = ap (λ zs. y ∷ zs) (taken_suc xs k x at)

pub added_more : {A : Type 0} → (front xs old new : List A) (k : ℕ) (x : A) → old ≡ front ++ take k xs → slice_get xs k ≡ Some x
    → new ≡ old ++ x ∷ [] → new ≡ front ++ take (k + 1) xs
added_more front xs old new k x is at added =
    let more : k + 1 ≡ suc k = omega arith in
    added ∙ ap (λ ys. ys ++ x ∷ []) is ∙ append_assoc front (take k xs) (x ∷ [])
    ∙ ap (λ ys. front ++ ys) (taken_suc xs k x at ∙ ap (λ j. take j xs) (sym more))

joined_suc : (xs ps : List (List Claim)) (n : ℕ) (x p : List Claim) → slice_get xs n ≡ Some x → slice_get ps n ≡ Some p
    → take (suc n) (slice_set xs n (x ++ p)) ++ joined (drop (suc n) (slice_set xs n (x ++ p))) (drop (suc n) ps)
    ≡ take n xs ++ joined (drop n xs) (drop n ps)
joined_suc [] ps n x p at there = absurd cc
joined_suc (y ∷ xs) [] n x p at there = absurd cc
joined_suc (y ∷ xs) (q ∷ ps) zero x p at there = (λ i. (sym (same_Some y x at) i ++ sym (same_Some q p there) i) ∷ joined xs ps)
joined_suc (y ∷ xs) (q ∷ ps) (suc n) x p at there = ap (λ zs. y ∷ zs) (joined_suc xs ps n x p at there)

pub joined_more : (xs ps : List (List Claim)) (n : ℕ) (x p : List Claim) → slice_get xs n ≡ Some x → slice_get ps n ≡ Some p
    → take (n + 1) (slice_set xs n (x ++ p)) ++ joined (drop (n + 1) (slice_set xs n (x ++ p))) (drop (n + 1) ps)
    ≡ take n xs ++ joined (drop n xs) (drop n ps)
joined_more xs ps n x p at there = (let more : n + 1 ≡ suc n = omega arith in rw more (joined_suc xs ps n x p at there))

pub joined_all : (n : ℕ) (xs ps : List (List Claim)) → length xs ≡ n → length ps ≡ n → take n xs ++ joined (drop n xs) (drop n ps) ≡ xs
joined_all zero [] [] a b = refl
joined_all zero [] (p ∷ ps) a b = absurd (omega (arith, b))
joined_all zero (x ∷ xs) ps a b = absurd (omega (arith, a))
joined_all (suc n) [] ps a b = absurd (omega (arith, a))
joined_all (suc n) (x ∷ xs) [] a b = absurd (omega (arith, b))
joined_all (suc n) (x ∷ xs) (p ∷ ps) a b = ap (λ zs. x ∷ zs) (joined_all n xs ps (omega (arith, a)) (omega (arith, b)))

pub joined_length : (xs ps : List (List Claim)) → length xs ≡ length ps → length (joined xs ps) ≡ length xs
joined_length [] [] a = refl
joined_length [] (p ∷ ps) a = absurd (omega (arith, a))
joined_length (x ∷ xs) [] a = refl
joined_length (x ∷ xs) (p ∷ ps) a = ap suc (joined_length xs ps (omega (arith, a)))
