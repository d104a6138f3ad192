-- What is drawn as jitter: the words of a generator.
use Rattle.std.specs.Prelude.{ℕ, ◌+◌, ◌%◌}
use Rattle.rand_pcg.specs.Lcg.{Lcg, increment_of, started}
use Rattle.rand_pcg.specs.Pcg.{multiplier_64, pcg32}

-- the generator of a node: Pcg32 by the seed, in the stream of the node's number, so that nodes of one seed draw other words
unfoldable pub seeded : ℕ → ℕ → Lcg
seeded seed id = started 64 multiplier_64 seed (increment_of 64 id)

-- what is drawn: the generator's next word, modulo one more than the most that it may be
unfoldable pub drawn : ℕ → Lcg → ℕ
drawn most g = (pcg32 g).0 % (most + 1)

-- the generator behind that word
unfoldable pub behind_word : Lcg → Lcg
behind_word g = (pcg32 g).1
