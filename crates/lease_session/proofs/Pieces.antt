-- What is fed and written, piece by piece.
use Rattle.std.proofs.Common.{◌≡◌, ℕ, ◌≤◌, Bool, List, [], ◌∷◌, ◌++◌, Option, Some, None, refl, sym, ap, ◌∙◌, append_assoc, append-nil}
use Rattle.std.proofs.Common.{subst, true, false, arith}
use Rattle.std.specs.Prelude.{max, take}
use Rattle.std.specs.Io.KnownBytes.{Appends, Consumes, IsAtEnd}
use Rattle.line_words.specs.Lines.{lines_of}
use Rattle.lease_machine.specs.declared.state.LeaseMachine.{LeaseMachine}
use Rattle.lease_session.specs.Feeding.{Answers, AreAnswered, At, Fed, IsNew, at}
use Rattle.lease_session.specs.Holding.{AreHoldersTold}
use Rattle.lease_session.specs.declared.process.LeaseProcess.{LeaseProcess}
use Rattle.lease_session.specs.declared.process.Start.{Start}
use Rattle.lease_session.specs.declared.seals.LeaseSeal.{LeaseSeal}
use Rattle.lease_machine.specs.declared.terms.LeaseTerms.{LeaseTerms}
use Rattle.lease_session.specs.Own.{bound_by}
use Rattle.lease_session.specs.Turns.{text_of}
use Rattle.lease_session.specs.Served.{AnyClearing, AreAnsweredBy, EndsSo, FedIsTold, HasOtherText, IsBegun, IsServedFrom, IsToldAll}
use Rattle.lease_session.specs.Steps.{IsSound, LinesAreSteps}
use Rattle.lease_session.specs.declared.serving.LeaseEnd.{LeaseEnd}
use Rattle.lease_session.specs.declared.serving.LeaseEnd.TheVariants as end
use Rattle.lease_session.proofs.Cutting.{lines_further}

-- ---- streams

appends_none : (a : Option (List ℕ)) → Appends a a []
appends_none None = tt
appends_none (Some xs) = sym (append-nil xs)

appends_more : (a b c : Option (List ℕ)) (x y : List ℕ) → Appends a b x → Appends b c y → Appends a c (x ++ y)
appends_more None b c x y first second = tt
appends_more (Some xs) None c x y first second = absurd first
appends_more (Some xs) (Some ys) None x y first second = absurd second
appends_more (Some xs) (Some ys) (Some zs) x y first second = second ∙ ap (λ l. l ++ y) first ∙ append_assoc xs x y

consumes_none : (a : Option (List ℕ)) → Consumes a a []
consumes_none None = tt
consumes_none (Some xs) = refl

consumes_more : (a b c : Option (List ℕ)) (x y : List ℕ) → Consumes a b x → Consumes b c y → Consumes a c (x ++ y)
consumes_more None b c x y first second = tt
consumes_more (Some xs) None c x y first second = absurd first
consumes_more (Some xs) (Some ys) None x y first second = absurd second
consumes_more (Some xs) (Some ys) (Some zs) x y first second = first ∙ ap (λ l. x ++ l) second ∙ sym (append_assoc x y zs)

-- ---- where only the text is another one

other_then : (a b c : At) → HasOtherText a b → HasOtherText b c → HasOtherText a c
other_then a b c first second = subst (λ (x : At). c ≡ record x { process = record x.process { text = c.process.text } }) first second

sound_other : (a b : At) → HasOtherText a b → IsSound a → IsSound b
sound_other a b same sound =
    subst IsSound (sym same) (record { goes_on = sound.goes_on; reserved = sound.reserved; holders = sound.holders })

other_behind : (lines : List (List ℕ)) (old mid new : At) (text : List ℕ) → AreAnsweredBy lines old mid text → HasOtherText mid new
    → AreAnsweredBy lines old new text
other_behind [] old mid new text a same = (other_then old mid new a.0 same, a.1)
other_behind (line ∷ lines) old mid new text a same = (a.0, a.1, a.2, a.3, a.4, a.5, other_behind lines a.2 mid new a.5 a.6 same, a.7)

other_before : (lines : List (List ℕ)) (old mid new : At) (text : List ℕ) → HasOtherText old mid → AreAnsweredBy lines mid new text
    → AreAnsweredBy lines old new text
other_before [] old mid new text same a = (other_then old mid new same a.0, a.1)
other_before (line ∷ lines) old mid new text same a = (a.0, other_then old mid a.0 same a.1, a.2, a.3, a.4, a.5, a.6, a.7)

-- a session whose text was taken away
pub cleared_so : {Store : Type 0} (reserved : Store → ℕ)
    (p q : LeaseProcess) {told told' : ℕ} {stopped stopped' : Bool} {store store' : Store} → q ≡ record p { text = q.text } → told' ≡ told
    → store' ≡ store
    → stopped' ≡ stopped → HasOtherText (at p told stopped (reserved store)) (at q told' stopped' (reserved store'))
cleared_so reserved p q process told store stopped = λ i. at (process i) (told i) (stopped i) (reserved (store i))

-- ---- lines, one behind another

both : (first second : List (List ℕ)) (old mid new : At) (text more : List ℕ) → AreAnsweredBy first old mid text
    → AreAnsweredBy second mid new more
    → AreAnsweredBy (first ++ second) old new (text ++ more)
both [] second old mid new text more a b = subst (λ (t : List ℕ). AreAnsweredBy second old new (t ++ more)) (sym a.1)
    (other_before second old mid new more a.0 b)
both (line ∷ first) second old mid new text more a b = (
  a.0,
  a.1,
  a.2,
  a.3,
  a.4,
  a.5 ++ more,
  both first second a.2 mid new a.5 more a.6 b,
  ap (λ (t : List ℕ). t ++ more) a.7 ∙ append_assoc a.3 a.5 more,
)

-- what they add to the text
record Added (lines : List (List ℕ)) (old new : At) : Type 0 where
  pub text : List ℕ
  pub adds : new.process.text.items ≡ old.process.text.items ++ text
  pub by : AreAnsweredBy lines old new text
  pub sound : IsSound new

added : LinesAreSteps → (lines : List (List ℕ)) (old new : At) → AreAnswered lines old new → IsSound old → Added lines old new
added law [] old new same sound =
    subst (λ (b : At). Added [] old b) (sym same) (record {
      text = [];
      adds = sym (append-nil old.process.text.items);
      by =
          (refl, refl);
      sound = sound;
    })
added law (line ∷ lines) old new a sound =
    let it = law line old a.0 a.1 sound in
    let more = added law lines a.0 new a.2 it.1.sound in
    record {
      text = text_of it.0 ++ more.text;
      adds = more.adds ∙ (ap (λ (t : List ℕ). t ++ more.text) it.1.text ∙ append_assoc old.process.text.items (text_of it.0) more.text);
      by = (old, refl, a.0, text_of it.0, (a.1, it.1.text), more.text, more.by, refl);
      sound = more.sound;
    }

-- ---- pieces

pub fed_is_told : LinesAreSteps → FedIsTold
fed_is_told law kept piece rest old new fed sound =
    let it = added law fed.lines old new fed.answered sound in
    (it.text, it.adds, record { lines = fed.lines; cut = fed.cut; answered = it.by }, it.sound)

pub clearing : AnyClearing
clearing kept first second rest last old mid cleared new text more a same b = record {
  lines = a.lines ++ b.lines;
  cut = ap lines_of (sym (append_assoc kept first second))
      ∙ (lines_further (kept ++ first) second a.lines rest a.cut
      ∙ (ap (λ (ls : List (List ℕ)). a.lines ++ ls) b.cut ∙ sym (append_assoc a.lines b.lines (last ∷ []))));
  answered = both a.lines b.lines old cleared new text more (other_behind a.lines old mid cleared text a.answered same) b.answered;
}

-- ---- the whole input

-- what was read so far, and written; nothing of it is left in the text
pub record IsSoFar (old now : At) (kept : List ℕ) (input here before shown : Option (List ℕ)) : Type 0 where
  pub bytes : List ℕ
  pub text : List ℕ
  pub read : Consumes input here bytes
  pub told : IsToldAll [] bytes kept old now text
  pub printed : Appends before shown text
  pub sound : IsSound now
  pub clear : now.process.text.items ≡ []

pub so_far_none : (a : At) (kept : List ℕ) (input before : Option (List ℕ)) → kept ≡ [] → IsSound a → a.process.text.items ≡ []
    → IsSoFar a a kept input input before before
so_far_none a kept input before none sound clear = record {
  bytes = [];
  text = [];
  read = consumes_none input;
  told = record { lines = []; cut = ap (λ (l : List ℕ). l ∷ []) (sym none); answered = (refl, refl) };
  printed = appends_none before;
  sound = sound;
  clear = clear;
}

-- one piece more, whose answers are written
pub so_far_more : LinesAreSteps → (old now fed cleared : At) (kept rest last piece : List ℕ)
    (input here left before shown behind : Option (List ℕ))
    → IsSoFar old now kept input here before shown → Consumes here left piece → Fed kept piece rest now fed
    → Appends shown behind fed.process.text.items → HasOtherText fed cleared
    → cleared.process.text.items ≡ [] → last ≡ rest → IsSoFar old cleared last input left before behind
so_far_more law old now fed cleared kept rest last piece input here left before shown behind so read is_fed out same clear kept_is =
    let it = fed_is_told law kept piece rest now fed is_fed so.sound in
    let its : fed.process.text.items ≡ it.0 = it.1 ∙ ap (λ (t : List ℕ). t ++ it.0) so.clear in
    subst (λ (l : List ℕ). IsSoFar old cleared l input left before behind) (sym kept_is) (record {
      bytes = so.bytes ++ piece;
      text = so.text ++ it.0;
      read = consumes_more input here left so.bytes piece so.read read;
      told = clearing [] so.bytes piece kept rest old now now cleared so.text it.0 so.told refl
          (record { lines = it.2.lines; cut = it.2.cut; answered = other_behind it.2.lines now fed cleared it.0 it.2.answered same });
      printed = appends_more before shown behind so.text it.0 so.printed (subst (λ (t : List ℕ). Appends shown behind t) its out);
      sound = sound_other fed cleared same it.3;
      clear = clear;
    })

pub served : (old now : At) (kept : List ℕ) (input here before shown : Option (List ℕ)) (how : LeaseEnd)
    → IsSoFar old now kept input here before shown → EndsSo how now here
    → IsServedFrom old input here before shown how
served old now kept input here before shown how so ends =
    record { bytes = so.bytes; read = so.read; kept = kept; new = now; text = so.text; told = so.told; printed = so.printed; ends = ends }

-- the input has no more
pub served_to_end : (old now : At) (kept : List ℕ) (input here left before shown : Option (List ℕ)) (n : ℕ) (piece : List ℕ)
    → IsSoFar old now kept input here before shown
    → Consumes here left (take n piece) → n ≡ 0 → IsAtEnd left → now.stopped ≡ false → IsServedFrom old input left before shown end.Input
served_to_end old now kept input here left before shown n piece so read none ends going = record {
  bytes = so.bytes;
  read = subst (λ (l : List ℕ). Consumes input left l) (append-nil so.bytes)
      (consumes_more input here left so.bytes [] so.read (subst (λ (m : ℕ). Consumes here left (take m piece)) none read));
  kept = kept;
  new = now;
  text = so.text;
  told = so.told;
  printed = so.printed;
  ends = (going, ends);
}

-- ---- one that begins

pub new_sound : (a : At) {terms start : _} {kept : List ℕ} → IsNew terms start kept a → IsSound a
new_sound a new = record {
  goes_on = λ off. new.6;
  reserved = subst (λ (o : Option LeaseMachine). bound_by a.process.start o ≤ max a.reserved a.process.start.floor) (sym new.3)
      (omega arith);
  holders = λ none. subst (λ (o : Option LeaseMachine). AreHoldersTold o a.process.told.items) (sym new.3) tt;
}

new_at : {terms : LeaseTerms} {start : Start} {kept : List ℕ} (a : At) → IsNew terms start kept a → IsNew terms start [] a
new_at a new = (refl, new.1, new.2, new.3, new.4, new.5, new.6, new.7)

pub begun_plain : {Store : Type 0} (reserved : Store → ℕ) {terms : LeaseTerms} {start : Start} {seal : Option LeaseSeal} {kept : List ℕ}
    (p : LeaseProcess) {told : ℕ} {stopped : Bool} {store first : Store}
    → IsNew terms start kept (at p told stopped (reserved store)) → p.seal ≡ None → p.text.items ≡ [] → store ≡ first → seal ≡ None
    → IsBegun terms start seal (reserved first) (at p told stopped (reserved store))
begun_plain reserved p {told = told} {stopped = stopped} {store = store} new none silent same given =
    record {
      is_new = new_at (at p told stopped (reserved store)) new;
      sealed = none ∙ sym given;
      of_store = ap reserved same;
      silent =
          silent;
    }

pub begun_sealed : {Store : Type 0} (reserved : Store → ℕ) {terms : LeaseTerms} {start : Start} {seal : Option LeaseSeal} {it : LeaseSeal}
    {kept : List ℕ} (p q : LeaseProcess) {told told' : ℕ}
    {stopped stopped' : Bool} {store store' first : Store} → IsNew terms start kept (at p told stopped (reserved store))
    → q ≡ record p { seal = Some it } → told' ≡ told → store' ≡ store
    → stopped' ≡ stopped → p.text.items ≡ [] → store ≡ first → seal ≡ Some it
    → IsBegun terms start seal (reserved first) (at q told' stopped' (reserved store'))
begun_sealed reserved {terms = terms} {start = start} p q new process tells stores stops silent same given = record {
  is_new = subst (IsNew terms start []) (sym (λ i. at (process i) (tells i) (stops i) (reserved (stores i))))
      (refl, new.1, new.2, new.3, new.4, new.5, new.6, new.7);
  sealed = ap (λ (x : LeaseProcess). x.seal) process ∙ sym given;
  of_store = ap reserved (stores ∙ same);
  silent = ap (λ (x : LeaseProcess). x.text.items) process ∙ silent;
}
