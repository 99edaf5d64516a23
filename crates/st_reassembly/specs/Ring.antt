-- A window of 65,536 places, in which the byte at an offset lies at the remainder of the offset. A bit for each place, 64 to a word, says whether a byte is there.
use Rattle.std.specs.Prelude.{◌≡◌, ℕ, ◌+◌, ◌-◌, ◌/◌, ◌%◌, ◌<◌, ◌≤◌, Bool, true, false, nat_eq, if◌then◌else◌, slice_index, List, length, Option, Some, None, IsSome, nat_lt}
use Rattle.std.specs.Int.{bit_at}
use Rattle.st_streams.specs.Table.{is_between}
use Rattle.std.specs.Option.{option_or}
use Rattle.st_reassembly.specs.declared.ring.Ring.{Ring}

-- the byte that a chunk has at q, by tests of both its ends
abbrev pub byte_at : ℕ → List ℕ → ℕ → Option ℕ
byte_at offset xs q = if is_between offset (offset + length xs) q then Some (slice_index xs (q - offset)) else None

-- whether this bit of a word is set
unfoldable pub has_bit : ℕ → ℕ → Bool
has_bit word i = nat_eq (bit_at word i) 1

-- whether a place is marked
abbrev pub is_marked : List ℕ → ℕ → Bool
is_marked marks k = has_bit (slice_index marks (k / 64)) (k % 64)

-- the byte at a place
abbrev pub place : List ℕ → List ℕ → ℕ → Option ℕ
place bytes marks k = if is_marked marks k then Some (slice_index bytes k) else None

-- the byte at an offset
abbrev pub cell : List ℕ → List ℕ → ℕ → Option ℕ
cell bytes marks q = place bytes marks (q % 65536)

module _ {A : Type 0} where
  -- the byte at each place of a window
  abbrev pub places : Ring A → ℕ → Option ℕ
  places ring = place ring.bytes.items ring.marks.items

  -- the byte at each offset of a window
  abbrev pub cells : Ring A → ℕ → Option ℕ
  cells ring = cell ring.bytes.items ring.marks.items

-- the bytes from `at` on are the new ones
abbrev pub Overwrites : ℕ → List ℕ → (old new : List ℕ) → Type 0
Overwrites at piece old new = (k : ℕ) → slice_index new k ≡ (if is_between at (at + length piece) k then slice_index piece (k - at) else slice_index old k)

-- each empty place has its new byte, the first of which lies at place `at`
abbrev pub FillsPlaces : ℕ → List ℕ → (old new : ℕ → Option ℕ) → Type 0
FillsPlaces at piece old new = (k : ℕ) → k < 65536 → new k ≡ option_or (old k) (byte_at at piece k)

-- from `low` on, a byte that is there stays, and the bytes of `more` join it
abbrev pub JoinsBytes : ℕ → (more old new : ℕ → Option ℕ) → Type 0
JoinsBytes low more old new = (q : ℕ) → low ≤ q → q < low + 65536 → new q ≡ option_or (old q) (more q)

-- the byte that a chunk has at q, below `high`
abbrev pub byte_below : ℕ → ℕ → List ℕ → ℕ → Option ℕ
byte_below high offset piece q = if nat_lt q high then byte_at offset piece q else None

-- before the chunk, bytes whose places it does not take stay
abbrev pub KeepsBytesBefore : ℕ → List ℕ → (old new : ℕ → Option ℕ) → Type 0
KeepsBytesBefore offset piece old new = (q : ℕ) → q < offset → offset + length piece ≤ q + 65536 → new q ≡ old q

-- the first `count` bytes from `first` on are gone, and the window begins after them
abbrev pub ForgetsBytes : (first count : ℕ) → (old new : ℕ → Option ℕ) → Type 0
ForgetsBytes first count old new = (q : ℕ) → first + count ≤ q → q < first + count + 65536 → new q ≡ (if nat_lt q (first + 65536) then old q else None)

-- what the body of an inbox keeps: top is the least offset past every byte that is buffered or was read, and room is the
-- memory of the window, which is freed once the inbox is spent
pub record IsSound (spent : Bool) (bytes marks : List ℕ) (room read top : ℕ) : Type 0 where
  pub size : spent ≡ false → length bytes ≡ 65536
  pub words : spent ≡ false → length marks ≡ 1024
  pub freed : spent ≡ true → room ≡ 0
  pub ended : spent ≡ true → top ≡ read
  pub from : read ≤ top
  pub near : top ≤ read + 65536
  pub below : (q : ℕ) → read ≤ q → q < read + 65536 → IsSome (cell bytes marks q) → q < top
  pub least : read < top → IsSome (cell bytes marks (top - 1))
