-- Whose a file is.
use Rattle.std.specs.Prelude.{◌≡◌, ◌≢◌, ◌↔◌, ◌⊎◌, ℕ, ◌+◌, ◌*◌, ◌==◌, ◌&&◌, ◌||◌, not, Bool, false, IsTrue, IfSome, List, ◌∷◌, ◌++◌}
use Rattle.std.specs.Prelude.{bytes_eq, codes, get_or, if◌then◌else◌, replicate, slice_index_or, take, Option, Some, None}
use Rattle.sealed_msg.specs.Hmac.{hmac}
use Rattle.file_disk.specs.Label.{IsOfANode, byte_of, mark_in, marked_label, slots_in}
use Rattle.file_disk.specs.declared.stride.Stride.{Stride}
use Rattle.file_disk.specs.declared.stride.Stride.TheVariants.{Packed, Spaced}
use Rattle.command_line.specs.LeaseLabel.{lease_label}
use Rattle.command_line.specs.declared.label.LabelOwner.{LabelOwner}
use Rattle.command_line.specs.declared.label.LabelOwner.TheVariants as owner

-- what stands, by version 1, behind the last sector of the file of node `id` of so many, whose sectors lie so far apart: 16 bytes, and
-- zeros are taken behind them
abbrev pub label_of : ℕ → ℕ → Stride → List ℕ
label_of id nodes stride = codes "dumgerok" ++ 1 ∷ id ∷ nodes ∷ byte_of stride ∷ replicate 20 0

-- the byte behind a label's name, which is the version of the file's format
abbrev pub version_in : Option (List ℕ) → ℕ
version_in None = 0
version_in (Some label) = slice_index_or label 8 0

-- the label is that of a node's file whose format is of this version
abbrev pub IsOfVersion : Option (List ℕ) → ℕ → Type 0
IsOfVersion label version = IsOfANode label × (version_in label ≡ version)

-- ---- version 2

-- the mark of the cluster of this name
abbrev pub mark_of : Option (List ℕ) → List ℕ
mark_of None = replicate 4 0
mark_of (Some name) = take 4 (hmac name (codes "dumgerok cluster 2"))

-- two marks are of one cluster, as far as both say which
abbrev pub are_one : List ℕ → List ℕ → Bool
are_one a b = bytes_eq a b || bytes_eq a (replicate 4 0) || bytes_eq b (replicate 4 0)

-- the label is spelled as one of version 2
abbrev pub is_spelled : List ℕ → Bool
is_spelled label =
    bytes_eq label (marked_label (get_or label 9 0) (get_or label 10 0) Packed (mark_in label) (slots_in label))
    || bytes_eq label (marked_label (get_or label 9 0) (get_or label 10 0) Spaced (mark_in label) (slots_in label))

-- it is one of version 2: one that lost its end says no slots
abbrev pub is_marked : List ℕ → Bool
is_marked label = not (slots_in label == 0) && is_spelled label

-- a label of version 2 is that of node `id` of so many, whose file has so many sectors, in the cluster of this mark
abbrev pub is_own_marked : List ℕ → ℕ → ℕ → Stride → ℕ → List ℕ → Bool
is_own_marked label id nodes stride sectors mark =
    bytes_eq label (marked_label id nodes stride (mark_in label) (slots_in label)) && sectors == 8 + 4 * slots_in label
    && are_one (mark_in label) mark

-- a file with this label is that node's
abbrev pub is_own : Option (List ℕ) → ℕ → ℕ → Stride → ℕ → List ℕ → Bool
is_own None id nodes stride sectors mark = false
is_own (Some label) id nodes stride sectors mark = bytes_eq label (label_of id nodes stride)
    || is_own_marked label id nodes stride sectors mark

-- a label alone says this: that there are no leases, another length or another cluster takes more to say
abbrev pub IsByLabel : LabelOwner → Type 0
IsByLabel owner.NoLeases = ⊥
IsByLabel (owner.OtherLength slots) = ⊥
IsByLabel (owner.OtherCluster id nodes) = ⊥
IsByLabel other = Unit {0}

-- whose a file of so many sectors is, to a node of the cluster of this mark
abbrev pub judged : LabelOwner → ℕ → List ℕ → LabelOwner
judged (owner.Marked id nodes slots its) sectors mark =
    if sectors == 8 + 4 * slots then (if are_one its mark then owner.Marked id nodes slots its else owner.OtherCluster id nodes)
    else owner.OtherLength slots
judged other sectors mark = other

-- a label, or none, says that a file is this one's
pub record SaysOf (label : Option (List ℕ)) (whose : LabelOwner) : Type 0 where
  pub node : (id nodes : ℕ) → (whose ≡ owner.Node id nodes) ↔ ((label ≡ Some (label_of id nodes Packed))
      ⊎ (label ≡ Some (label_of id nodes Spaced)))
  pub marked : IfSome label (λ l. (whose ≡ owner.Marked (get_or l 9 0) (get_or l 10 0) (slots_in l) (mark_in l)) ↔ IsTrue (is_marked l))
  pub leases : (machine : ℕ) → (whose ≡ owner.Leases machine) ↔ (label ≡ Some (lease_label machine))
  pub unread : (version : ℕ) → (whose ≡ owner.Unread version) ↔ (version ≢ 1) × (version ≢ 2) × IsOfVersion label version
  pub by_label : IsByLabel whose
