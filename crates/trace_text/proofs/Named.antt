-- What a delivery says.
use Rattle.std.proofs.Common.{◌≡◌, ℕ, List, true, refl, sym, subst}
use Rattle.std.specs.Prelude.{codes}
use Rattle.std.specs.Str.{bytes_eq}
use Rattle.std.proofs.lemmas.Slice.Eq.{bytes_eq-Decides}
use Rattle.trace_text.specs.Fields.{FieldData}
use Rattle.trace_text.specs.Entries.{deliver_in, action_named}
use Rattle.trace_text.specs.Places.{with_device}

pub deliver_named : (f : FieldData) (name : List ℕ) → bytes_eq name (codes "deliver") ≡ true
    → action_named f name ≡ with_device f (deliver_in f)
deliver_named f name is = subst (λ (n : List ℕ). action_named f n ≡ with_device f (deliver_in f))
    (sym ((bytes_eq-Decides name (codes "deliver")).0 is)) refl
