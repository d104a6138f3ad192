-- HMAC-SHA256, as RFC 2104 says it: the hash is SHA-256, and its blocks have 64 bytes.
use Rattle.std.specs.Prelude.{ℕ, ◌-◌, nat_lt, List, ◌++◌, length, map, replicate, bit_xor, if◌then◌else◌}
use Rattle.sha2.specs.Sha256.{sha256}

-- zeros behind a key, up to a block
abbrev pub filled : List ℕ → List ℕ
filled key = key ++ replicate (64 - length key) 0

-- a key as a block: one that is longer than a block is hashed first
abbrev pub block_of : List ℕ → List ℕ
block_of key = filled (if nat_lt 64 (length key) then sha256 key else key)

-- a block, with each byte xored with the pad
abbrev pub padded : List ℕ → ℕ → List ℕ
padded block pad = map (λ b. bit_xor b pad) block

-- H(K xor opad, H(K xor ipad, text)), where K is a block
abbrev pub hmac_by : List ℕ → List ℕ → List ℕ
hmac_by block text = sha256 (padded block 0x5c ++ sha256 (padded block 0x36 ++ text))

abbrev pub hmac : List ℕ → List ℕ → List ℕ
hmac key text = hmac_by (block_of key) text
