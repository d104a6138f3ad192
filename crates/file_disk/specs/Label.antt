-- Whose a file is, as its label says it.
use Rattle.std.specs.Prelude.{◌≡◌, ℕ, ◌+◌, ◌*◌, ◌/◌, ◌%◌, List, [], ◌∷◌, ◌++◌, codes, get_or, replicate, slice_index_or, Option, Some, None}
use Rattle.file_disk.specs.declared.stride.Stride.{Stride}
use Rattle.file_disk.specs.declared.stride.Stride.TheVariants.{Packed, Spaced}

-- the label is that of a node's file, whichever node's
abbrev pub IsOfANode : Option (List ℕ) → Type 0
IsOfANode None = ⊥
IsOfANode (Some label) = (rest : List ℕ) × (label ≡ codes "dumgerok" ++ rest)

-- ---- how far apart the sectors lie

-- the byte of a label that says so
abbrev pub byte_of : Stride → ℕ
byte_of Packed = 0
byte_of Spaced = 1

abbrev pub stride_byte : Option (List ℕ) → ℕ
stride_byte None = 0
stride_byte (Some label) = slice_index_or label 11 0

-- the label is that of a node's file in which each sector has a block of its own
abbrev pub IsSpaced : Option (List ℕ) → Type 0
IsSpaced label = IsOfANode label × (stride_byte label ≡ 1)

-- ---- what a label of version 2 says

-- what stands behind the last sector of the file of node `id` of so many, with so many slots, in the cluster of this mark
abbrev pub marked_label : ℕ → ℕ → Stride → List ℕ → ℕ → List ℕ
marked_label id nodes stride mark slots =
    codes "dumgerok" ++ 2 ∷ id ∷ nodes ∷ byte_of stride ∷ get_or mark 0 0 ∷ get_or mark 1 0 ∷ get_or mark 2 0 ∷ get_or mark 3 0
    ∷ slots / 256 ∷ slots % 256 ∷ replicate 14 0

-- the mark of its cluster: zeros where none was said
abbrev pub mark_in : List ℕ → List ℕ
mark_in label = get_or label 12 0 ∷ get_or label 13 0 ∷ get_or label 14 0 ∷ get_or label 15 0 ∷ []

-- the number of slots of an area of its journal
abbrev pub slots_in : List ℕ → ℕ
slots_in label = 256 * get_or label 16 0 + get_or label 17 0
