-- The key of what is sealed for one process.
use Rattle.std.specs.Prelude.{ℕ, ◌==◌, List, ◌++◌, length, codes, if◌then◌else◌}
use Rattle.sealed_msg.specs.Hmac.{block_of, hmac_by}

-- what is drawn for a process is its life, and a key of it is bound to that
abbrev pub life_text : List ℕ → List ℕ
life_text life = codes "dumgerok life 1" ++ life

abbrev pub bound_key : List ℕ → List ℕ → List ℕ
bound_key key life = block_of (hmac_by key (life_text life))

-- of a process without a life it is the key itself
abbrev pub life_key : List ℕ → List ℕ → List ℕ
life_key key life = if length life == 0 then key else bound_key key life
