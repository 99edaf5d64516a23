-- Reading a field from the front of bytes (RFC 0030): the value and the bytes after it, or the first fault.
-- This profile takes the shortest spelling alone. Each definition tests in the order of its refusals.
use Rattle.std.specs.Prelude.{ℕ, ◌-◌, ◌^◌, nat_lt, ◌==◌, ◌&&◌, ◌||◌, if◌then◌else◌, List, [], ◌∷◌, length, take, drop, slice_index, Result, Ok, Err}
use Rattle.std.specs.Int.{w64, from_be_bytes}
use Rattle.st_oer.specs.declared.error.OerError.{OerError}
use Rattle.st_oer.specs.declared.error.OerError.TheVariants.{Short, LongLength, LongNumber, TooBig}
use Rattle.st_oer.specs.Spelling.{number}

-- one reading after another: the first refusal is that of both
infixl 10 ◌>>=◌
abbrev pub ◌>>=◌ : {A B : Type 0} → Result A OerError → (A → Result B OerError) → Result B OerError
(Ok x) >>= f = f x
(Err e) >>= f = Err e

-- n bytes
abbrev pub fixed_at : ℕ → List ℕ → Result (List ℕ × List ℕ) OerError
fixed_at n bytes = if nat_lt (length bytes) n then Err Short else Ok (take n bytes, drop n bytes)

-- UInt8
abbrev pub byte_at : List ℕ → Result (ℕ × List ℕ) OerError
byte_at [] = Err Short
byte_at (b ∷ rest) = Ok (b, rest)

-- UInt64
unfoldable pub u64_at : List ℕ → Result (ℕ × List ℕ) OerError
u64_at bytes = if nat_lt (length bytes) 8 then Err Short else Ok (from_be_bytes w64 (take 8 bytes), drop 8 bytes)

-- the length in all of these bytes: no 0 in front, and none that one byte would say
abbrev pub long_length : List ℕ → Result ℕ OerError
long_length bytes = if (slice_index bytes 0 == 0) || nat_lt (number bytes) 128 then Err LongLength else Ok (number bytes)

-- length prefix
unfoldable pub length_at : List ℕ → Result (ℕ × List ℕ) OerError
length_at bytes = do
  first ← byte_at bytes
  if nat_lt first.0 128 then Ok first else (if first.0 == 128 then Err LongLength else (if nat_lt 136 first.0 then Err TooBig else (do
    long ← fixed_at (first.0 - 128) first.1
    n ← long_length long.0
    Ok (n, long.1))))

-- variable octet string
unfoldable pub octets_at : List ℕ → Result (List ℕ × List ℕ) OerError
octets_at bytes = do
  n ← length_at bytes
  fixed_at n.0 n.1

-- the number in all of these bytes: no 0 in front of others
abbrev pub short_number : List ℕ → Result ℕ OerError
short_number bytes = if (slice_index bytes 0 == 0) && nat_lt 1 (length bytes) then Err LongNumber else Ok (number bytes)

-- VarUInt of at most eight bytes
unfoldable pub var_uint_at : List ℕ → Result (ℕ × List ℕ) OerError
var_uint_at bytes = do
  n ← length_at bytes
  if n.0 == 0 then Err LongNumber else (if nat_lt 8 n.0 then Err TooBig else (do
    text ← fixed_at n.0 n.1
    x ← short_number text.0
    Ok (x, text.1)))

-- VarUInt of a limit: more than eight bytes say the greatest number
unfoldable pub limit_at : List ℕ → Result (ℕ × List ℕ) OerError
limit_at bytes = do
  n ← length_at bytes
  if n.0 == 0 then Err LongNumber else (do
    text ← fixed_at n.0 n.1
    x ← short_number text.0
    Ok ((if nat_lt 8 n.0 then 2 ^ 64 - 1 else x), text.1))
