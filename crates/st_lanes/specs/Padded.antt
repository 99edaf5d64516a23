-- A message of whole blocks and a text after them, whose end is padded for the whole (FIPS 180-4, 5.1.1 and 6.2).
use Rattle.std.specs.Prelude.{ℕ, ◌+◌, ◌*◌, ◌/◌, List, ◌++◌, length, take, drop}
use Rattle.sha2.specs.Sha256.{digest_bytes, hash_after, padding}

-- the text after n bytes of whole blocks, and the padding of both
abbrev pub padded_behind : ℕ → List ℕ → List ℕ
padded_behind n text = text ++ padding (n + length text)

-- how many blocks they are
abbrev pub count_behind : ℕ → List ℕ → ℕ
count_behind n text = length (padded_behind n text) / 64

-- block i of them
abbrev pub block_behind : ℕ → List ℕ → ℕ → List ℕ
block_behind n text i = take 64 (drop (i * 64) (padded_behind n text))

-- what is left of them after the whole blocks of the text
abbrev pub end_behind : ℕ → List ℕ → List ℕ
end_behind n text = drop (length text / 64 * 64) (padded_behind n text)

-- the digest of the message, h being the hash value after the n bytes
unfoldable pub digest_behind : List ℕ → ℕ → List ℕ → List ℕ
digest_behind h n text = digest_bytes (hash_after h (padded_behind n text) (count_behind n text)) 8
