-- What is delivered was sealed for the own life, and what is sealed for a node is sealed for the life that was told of it.
use Rattle.std.proofs.Common.{◌≡◌, ◌<◌, ◌==◌, ◌&&◌, inl, ◌⊎◌, inr, ℕ, Bool, true, false, List, [], ◌∷◌, length, refl, sym, ap, ◌∙◌, Option}
use Rattle.std.proofs.Common.{Some, None, Result, Ok, Err}
use Rattle.std.specs.Prelude.{if◌then◌else◌, option_map}
use Rattle.std.specs.Result.{result_ok}
use Rattle.std.proofs.lemmas.List.{get_or-set_same, get_or-set_other}
use Rattle.std.proofs.lemmas.List.Elements.{All-nil}
use Rattle.hex.specs.Hex.{decode_of}
use Rattle.hex.proofs.HexLemmas.{decode_of-ok}
use Rattle.wire_msg.specs.Envelope.{Envelope}
use Rattle.wire_msg.proofs.PublicLaws.{AreBytes-from_index}
use Rattle.line_words.specs.Words.{words_of}
use Rattle.line_words.specs.Lines.{bytes_of}
use Rattle.sealed_msg.specs.declared.stamp.Stamp.{Stamp}
use Rattle.sealed_msg.specs.Lives.{life_key}
use Rattle.sealed_msg.specs.Sealing.{AreBytes, opened}
use Rattle.sealed_msg.proofs.Openings.{opened_sealed}
use Rattle.node_session.specs.Chains.{LineOutcome, after_turns}
use Rattle.node_session.specs.Lines.{At, after_by, after_line, after_lines, plain_answer}
use Rattle.node_session.specs.Seals.{Brought, NoBytes, Strange, Garbled, Opened, Seals, asked_under, brought_by, brought_word, is_fresh}
use Rattle.node_session.specs.Seals.{key_else, life_of, new_seals, opened_else, opened_other, sealed_behind, taken_brought, taken_fresh}
use Rattle.node_session.specs.Seals.{taken_sealed, taken_told, taken_under, taken_words, told_life}
use Rattle.node_session.specs.Told.{OwnLifeAlone, ToldLifeAlone}
use Rattle.node_session.proofs.Taking.{opened_alone}

-- ---- the keys that open never change

record OpensSo (opens : List ℕ) (other : Option (List ℕ)) (seal : Option Seals) : Type 0 where
  pub q : Seals
  pub is : seal ≡ Some q
  pub opens_so : q.opens ≡ opens
  pub other_so : q.other ≡ other

taken_opens : (q : Seals) (line : List ℕ) → ((taken_sealed q line).opens ≡ q.opens) × ((taken_sealed q line).other ≡ q.other)
taken_opens q line = by_word (brought_word (words_of line))
  where
    by_fresh : (b : Bool) (m : Envelope) (stamp : Stamp) → ((taken_fresh b q m stamp).opens ≡ q.opens)
        × ((taken_fresh b q m stamp).other ≡ q.other)
    by_fresh true m stamp = (refl, refl)
    by_fresh false m stamp = (refl, refl)

    by_brought : (brought : Brought) → ((taken_brought q brought).opens ≡ q.opens) × ((taken_brought q brought).other ≡ q.other)
    by_brought NoBytes = (refl, refl)
    by_brought Strange = (refl, refl)
    by_brought Garbled = (refl, refl)
    by_brought (Opened m stamp) = by_fresh (is_fresh q m stamp) m stamp

    by_told : (o : Option (ℕ × List ℕ)) → ((taken_told q o).opens ≡ q.opens) × ((taken_told q o).other ≡ q.other)
    by_told None = (refl, refl)
    by_told (Some it) = (refl, refl)

    by_word : (o : Option (List ℕ)) → ((taken_words q line o).opens ≡ q.opens) × ((taken_words q line o).other ≡ q.other)
    by_word None = by_told (told_life line)
    by_word (Some word) = by_brought (brought_by q word)

behind_opens : (opens : List ℕ) (other : Option (List ℕ)) (seal : Option Seals) (line : List ℕ) (life : Option ℕ) (text : List ℕ)
    → OpensSo opens other seal
    → OpensSo opens other (sealed_behind (taken_under seal line) life text)
behind_opens opens other None line life text so = absurd (let bad : None ≡ Some so.q = so.is in cc)
behind_opens opens other (Some q) line life text so =
    let same : q ≡ so.q = (let e : Some q ≡ Some so.q = so.is in cc) in
    let taken = taken_opens q line in
    record {
      q = _;
      is = refl;
      opens_so = taken.0 ∙ (ap (λ (x : Seals). x.opens) same ∙ so.opens_so);
      other_so = taken.1 ∙ (ap (λ (x : Seals). x.other) same ∙ so.other_so);
    }

line_opens : (self nodes : ℕ) (opens : List ℕ) (other : Option (List ℕ)) (b : Bool) (a : At) (line : List ℕ) (came : LineOutcome)
    → OpensSo opens other a.seal → OpensSo opens other (after_by self nodes b a line came).seal
line_opens self nodes opens other true a line came so = so
line_opens self nodes opens other false a line came so =
    behind_opens opens other a.seal line (life_of (after_turns self nodes a.state came.turns))
    (plain_answer self nodes a (asked_under a.seal line) came) so

lines_open : (self nodes : ℕ) (opens : List ℕ) (other : Option (List ℕ)) (a : At) (lines : List (List ℕ)) (all : List LineOutcome)
    → OpensSo opens other a.seal → OpensSo opens other (after_lines self nodes a lines all).seal
lines_open self nodes opens other a [] all so = so
lines_open self nodes opens other a (line ∷ lines) [] so = so
lines_open self nodes opens other a (line ∷ lines) (came ∷ all) so =
    lines_open self nodes opens other (after_line self nodes a line came) lines all
    (line_opens self nodes opens other a.stopped a line came so)

-- ---- what one of them opens was sealed with it

read_empty : (bytes : List ℕ) → Some [] ≡ Some bytes → AreBytes bytes
read_empty [] is = All-nil (λ (b : ℕ). b < 256)
read_empty (b ∷ bytes) is = absurd cc

read_ok : {E : Type 0} (d : Result (List ℕ) E) (bytes : List ℕ) → result_ok d ≡ Some bytes → d ≡ Ok bytes
read_ok (Ok it) bytes is = (let same : Some it ≡ Some bytes = is in cc)
read_ok (Err e) bytes is = absurd (let bad : None ≡ Some bytes = is in cc)

-- a word spells bytes
spells_bytes : (word bytes : List ℕ) → bytes_of word ≡ Some bytes → AreBytes bytes
spells_bytes [] bytes is = absurd cc
spells_bytes (c ∷ rest) bytes is = by_dash (c == 45 && length rest == 0) is
  where
    by_dash : (b : Bool) → (if b then Some [] else result_ok (decode_of (c ∷ rest))) ≡ Some bytes → AreBytes bytes
    by_dash true is = read_empty bytes is
    by_dash false is = AreBytes-from_index bytes (decode_of-ok (c ∷ rest) bytes (read_ok (decode_of (c ∷ rest)) bytes is)).3

record OpenedBy (own : List ℕ) (other : Option (List ℕ)) (life bytes : List ℕ) (it : List ℕ × Stamp) : Type 0 where
  pub key : List ℕ
  pub given : (key ≡ own) ⊎ (other ≡ Some key)
  pub opened_so : opened (life_key key life) bytes ≡ Some it

opened_by : (own : List ℕ) (other : Option (List ℕ)) (life bytes : List ℕ) (it : List ℕ × Stamp)
    → opened_else (opened (life_key own life) bytes) (option_map (λ key. life_key key life) other) bytes ≡ Some it
    → OpenedBy own other life bytes it
opened_by own other life bytes it is = by_own (opened (life_key own life) bytes) refl is
  where
    by_other : (o : Option (List ℕ)) → other ≡ o → opened_other (option_map (λ key. life_key key life) o) bytes ≡ Some it
        → OpenedBy own other life bytes it
    by_other None given is = absurd cc
    by_other (Some key) given is = record { key = key; given = inr given; opened_so = is }

    by_own : (o : Option (List ℕ × Stamp)) → opened (life_key own life) bytes ≡ o
        → opened_else o (option_map (λ key. life_key key life) other) bytes ≡ Some it → OpenedBy own other life bytes it
    by_own None opens is = by_other other refl is
    by_own (Some found) opens is = record { key = own; given = inl refl; opened_so = opens ∙ is }

pub own_life_alone : OwnLifeAlone
own_life_alone self nodes slots own other life a lines all line came m begun comes delivers =
    let so = lines_open self nodes (life_key own life) (option_map (λ key. life_key key life) other) a lines all (record {
      q =
          new_seals own other life;
      is = begun;
      opens_so = refl;
      other_so = refl;
    }) in
    let it = opened_alone self nodes slots (after_lines self nodes a lines all) line came so.q m so.is comes delivers in
    let by = opened_by own other life it.bytes (it.spelling, it.stamp)
    (ap (λ (o : Option (List ℕ)). opened_else (opened (life_key own life) it.bytes) o it.bytes) (sym so.other_so)
    ∙ (ap (λ (k : List ℕ). opened_else (opened k it.bytes) so.q.other it.bytes) (sym so.opens_so) ∙ it.opened)) in
    record {
      word = it.word;
      bytes = it.bytes;
      key = by.key;
      spelling = it.spelling;
      stamp = it.stamp;
      brought = it.brought;
      spelled = it.spelled;
      given = by.given;
      sealed_so = opened_sealed (life_key by.key life) it.bytes it.spelling it.stamp (spells_bytes it.word it.bytes it.spelled)
          by.opened_so;
      read = it.read;
    }

-- ---- what is told

pub told_life_alone : ToldLifeAlone
told_life_alone keys node life within = (
  ap (key_else keys.own) (get_or-set_same keys.lives node (Some (life_key keys.own life)) None within),
  λ n other. ap (key_else keys.own) (get_or-set_other keys.lives node n (Some (life_key keys.own life)) None other),
)
