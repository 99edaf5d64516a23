-- HMAC-SHA256 under a key of one block (RFC 2104, section 2, steps 2 to 7).
use Rattle.std.specs.Prelude.{◌≡◌, ℕ, List, ◌++◌, length, map, bit_xor}
use Rattle.sha2.specs.Sha256.{compress, initial_hash_256, sha256}
use Rattle.sha2.specs.Hashers.{Holds256}
use Rattle.st_lanes.specs.declared.mac.Keyed.{Keyed}

-- a key with the same byte added to each of its bytes
abbrev pub with_pad : ℕ → List ℕ → List ℕ
with_pad pad key = map (λ x. bit_xor x pad) key

-- the keyed hash of a text
unfoldable pub hmac_under : List ℕ → List ℕ → List ℕ
hmac_under key text = sha256 (with_pad 0x5c key ++ sha256 (with_pad 0x36 key ++ text))

-- what there is after a key's blocks (RFC 2104, section 4)
pub record IsKeyedBy (key : List ℕ) (keyed : Keyed) : Type 0 where
  pub block : length key ≡ 64
  pub inner : keyed.inner ≡ compress initial_hash_256 (with_pad 0x36 key)
  pub outer : keyed.outer ≡ compress initial_hash_256 (with_pad 0x5c key)
  pub inner_hasher : Holds256 keyed.inner_hasher (with_pad 0x36 key)
  pub outer_hasher : Holds256 keyed.outer_hasher (with_pad 0x5c key)
