-- Numbers and octet strings as bytes (RFC 0030): each value has one spelling.
use Rattle.std.specs.Prelude.{ℕ, ◌+◌, ◌*◌, ◌^◌, nat_lt, if◌then◌else◌, List, [], ◌∷◌, ◌++◌, length, fold}
use Rattle.std.specs.Int.{w64, to_be_bytes, bytes_high_first}

-- the number that bytes give, the highest first
abbrev pub number : List ℕ → ℕ
number bytes = fold (λ n byte. n * 256 + byte) 0 bytes

-- how many bytes a number below 2 ^ 64 needs, at least one
abbrev pub byte_count : ℕ → ℕ
byte_count n =
    if nat_lt n (256 ^ 1) then 1 else (if nat_lt n (256 ^ 2) then 2 else (if nat_lt n (256 ^ 3) then 3 else (if nat_lt n (256 ^ 4) then 4
    else (if nat_lt n (256 ^ 5) then 5 else (if nat_lt n (256 ^ 6) then 6 else (if nat_lt n (256 ^ 7) then 7 else 8))))))

-- the fewest bytes of a number, the highest first
unfoldable pub digits : ℕ → List ℕ
digits n = bytes_high_first (byte_count n) n

-- UInt8: one byte
abbrev pub uint8 : ℕ → List ℕ
uint8 n = n ∷ []

-- UInt64: eight bytes, the highest first
abbrev pub uint64 : ℕ → List ℕ
uint64 n = to_be_bytes w64 n

-- length prefix: a length below 128 is one byte, a greater one is 128 and the count of its bytes, and those
unfoldable pub length_bytes : ℕ → List ℕ
length_bytes n = if nat_lt n 128 then n ∷ [] else (128 + length (digits n)) ∷ digits n

-- variable octet string: its length, and its bytes
abbrev pub octets : List ℕ → List ℕ
octets bytes = length_bytes (length bytes) ++ bytes

-- VarUInt: an octet string of the fewest bytes of the number
unfoldable pub var_uint : ℕ → List ℕ
var_uint n = length_bytes (length (digits n)) ++ digits n
