-- States side by side, as eight planes of 16 or 32 bytes. Half g of a plane has bytes 16 * g to 16 * g + 15; bit j of byte
-- 16 * g + p of plane b is bit b of byte p of state j of half g, for each j below 8. A plane of 16 bytes has half 0 alone.
use Rattle.std.specs.Prelude.{ℕ, Bool, ◌≡◌, ◌<◌, ◌≤◌, ◌==◌, if◌then◌else◌, ◌+◌, ◌-◌, ◌*◌, ◌/◌, ◌%◌, List, [], ◌∷◌, map, slice_index, slice_index_or, length}
use Rattle.std.specs.Int.{bit_at}
use Rattle.std.specs.List.{range_with_len}
use Rattle.std.specs.Simd.Lanes.{chunk}
use Rattle.st_aes.specs.Cipher.{list_of, round_key, encrypt}
use Rattle.st_aes.specs.Gcm.{counter_block}

-- bit j of byte l of a vector
unfoldable pub bit : List ℕ → ℕ → ℕ → ℕ
bit v l j = bit_at (slice_index v l) j

-- vector i of several
abbrev pub plane : List (List ℕ) → ℕ → List ℕ
plane q i = slice_index_or q i []

-- the bits of the first n vectors at one place
abbrev pub bits : ℕ → List (List ℕ) → ℕ → ℕ → List ℕ
bits n q l j = map (λ i. bit (plane q i) l j) (range_with_len 0 n)

-- the number with these bits, the lowest first
abbrev pub value : List ℕ → ℕ
value [] = 0
value (b ∷ bs) = b + 2 * value bs

-- the bits of a byte, the lowest first
unfoldable pub bits_of : ℕ → List ℕ
bits_of v = list_of 8 (bit_at v)

-- the byte at byte l, bit j of eight planes
unfoldable pub byte_at : List (List ℕ) → ℕ → ℕ → ℕ
byte_at q l j = value (bits 8 q l j)

-- state j of half g
unfoldable pub state_at : List (List ℕ) → ℕ → ℕ → List ℕ
state_at q g j = list_of 16 (λ p. byte_at q (16 * g + p) j)

-- ---- moves of bytes and bits

-- the byte that ShiftRows moves to byte l of a plane
abbrev pub row_turned : ℕ → ℕ
row_turned l = 16 * (l / 16) + (l % 4 + 4 * ((l / 4 + l % 4) % 4))

-- the byte n rows below byte l of a plane, in its column
abbrev pub column_turned : ℕ → ℕ → ℕ
column_turned n l = 4 * (l / 4) + (l + n) % 4

-- k is one of the powers of two that add up to j
abbrev pub has : ℕ → ℕ → Bool
has k j = j / k % 2 == 1

-- bit j of byte l of a, but those at the places that have k come from b, k places lower
abbrev pub changed_low : List ℕ → List ℕ → ℕ → ℕ → ℕ → ℕ
changed_low a b k l j = if has k j then bit b l (j - k) else bit a l j

-- and of b, but the others come from a, k places higher
abbrev pub changed_high : List ℕ → List ℕ → ℕ → ℕ → ℕ → ℕ
changed_high a b k l j = if has k j then bit b l j else bit a l (k + j)

-- half g of a vector
unfoldable pub half : List ℕ → ℕ → List ℕ
half v g = list_of 16 (λ p. slice_index v (16 * g + p))

-- eight vectors of n bytes, from byte i on
abbrev pub vectors_at : ℕ → List ℕ → ℕ → List (List ℕ)
vectors_at n bytes i = map (λ b. chunk (i + n * b) n bytes) (range_with_len 0 8)

-- these are the round keys of expanded words, each in planes as the same key for eight states
abbrev pub IsRoundKeys : List ℕ → List (List ℕ) → Type 0
IsRoundKeys keys ws = (n j : ℕ) → n < 15 → j < 8 → state_at (vectors_at 16 keys (128 * n)) 0 j ≡ round_key ws n

-- the first count bytes are those of the encrypted counter blocks from number first on
pub record HasPads (pads key iv : List ℕ) (first count : ℕ) : Type 0 where
  pub enough : count ≤ length pads
  pub each : (i : ℕ) → i < count → slice_index pads i ≡ slice_index (encrypt key (counter_block iv (first + i / 16))) (i % 16)
