-- HMAC-SHA256 (RFC 2104, section 2).
use Rattle.std.specs.Prelude.{ℕ, ◌-◌, nat_lt, if◌then◌else◌, List, ◌++◌, map, length, replicate, bit_xor}
use Rattle.sha2.specs.Sha256.{sha256}

-- a key of at most one block of 64 bytes: a longer one is hashed first
abbrev pub short_key : List ℕ → List ℕ
short_key key = if nat_lt 64 (length key) then sha256 key else key

-- a key of one block: zeros follow a shorter one
unfoldable pub block_key : List ℕ → List ℕ
block_key key = short_key key ++ replicate (64 - length (short_key key)) 0

-- a key with the same byte added to each of its bytes
abbrev pub with_pad : ℕ → List ℕ → List ℕ
with_pad pad key = map (λ x. bit_xor x pad) key

-- the keyed hash of a text
unfoldable pub hmac : List ℕ → List ℕ → List ℕ
hmac key text = sha256 (with_pad 0x5c (block_key key) ++ sha256 (with_pad 0x36 (block_key key) ++ text))
