-- What was written of a text, write by write.
use Rattle.std.proofs.Common.{◌≡◌, ℕ, List, [], ◌++◌, Option, Some, None, refl, sym, ap, ◌∙◌, append_assoc, append-nil, subst, take, drop}
use Rattle.std.specs.Io.KnownBytes.{Appends, Keeps}
use Rattle.std.proofs.lemmas.List.{take-append-drop}
use Rattle.node_server.specs.Served.{AppendsFront}
use Rattle.node_server.proofs.Bytes.{appends_more, appends_none, keeps_on}

-- a front of the text was written, and this is left of it
pub record IsWritten (text left : List ℕ) (before here : Option (List ℕ)) : Type 0 where
  pub front : List ℕ
  pub cut : text ≡ front ++ left
  pub printed : Appends before here front

pub none_written : (text : List ℕ) (a : Option (List ℕ)) → IsWritten text text a a
none_written text a = record { front = []; cut = refl; printed = appends_none a }

pub some_more : (text left : List ℕ) (n : ℕ) (before here next : Option (List ℕ)) → IsWritten text left before here
    → Appends here next (take n left) → IsWritten text (drop n left) before next
some_more text left n before here next so more = record {
  front = so.front ++ take n left;
  cut = so.cut ∙ ap (λ (l : List ℕ). so.front ++ l) (sym (take-append-drop n left))
      ∙ sym (append_assoc so.front (take n left) (drop n left));
  printed = appends_more before here next so.front (take n left) so.printed more;
}

pub none_more : (text left : List ℕ) (before here next : Option (List ℕ)) → IsWritten text left before here → Keeps here next
    → IsWritten text left before next
none_more text left before here next so keeps = record {
  front = so.front;
  cut = so.cut;
  printed =
      keeps_on before here next so.front so.printed keeps;
}

pub all_written : (text left : List ℕ) (before here : Option (List ℕ)) → IsWritten text left before here → left ≡ []
    → Appends before here text
all_written text left before here so none = subst (λ (l : List ℕ). Appends before here l)
    (sym (so.cut ∙ ap (λ (l : List ℕ). so.front ++ l) none ∙ append-nil so.front)) so.printed

pub front_written : (text left : List ℕ) (before here : Option (List ℕ)) → IsWritten text left before here → AppendsFront text before here
front_written text left before here so = record { front = so.front; rest = left; cut = so.cut; printed = so.printed }

pub nothing_appended : (a b : Option (List ℕ)) → Appends a b [] → Keeps a b
nothing_appended None b none = tt
nothing_appended (Some xs) None none = none
nothing_appended (Some xs) (Some ys) none = none ∙ append-nil xs

pub kept_appends : (a b : Option (List ℕ)) → Keeps a b → Appends a b []
kept_appends None b keeps = tt
kept_appends (Some xs) None keeps = keeps
kept_appends (Some xs) (Some ys) keeps = keeps ∙ sym (append-nil xs)
