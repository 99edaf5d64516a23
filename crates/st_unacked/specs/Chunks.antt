-- The bytes of a stream in chunks, each of which has memory of its own for 4,096 bytes.
use Rattle.std.specs.Prelude.{◌≡◌, ℕ, zero, ◌+◌, ◌-◌, ◌*◌, ◌<◌, ◌≤◌, Bool, true, false, not, ◌&&◌, nat_lt, List, [], ◌∷◌, ◌++◌, length, take, drop, replicate, slice_index, if◌then◌else◌}
use Rattle.st_unacked.specs.declared.run.Run.{Run}
use Rattle.st_unacked.specs.Runs.{status_at, is_kept, counted, kept_in, IsTiled, Parted}

-- the bytes from an offset on
pub record Block : Type 0 where
  pub at : ℕ
  pub bytes : List ℕ

-- whether an offset lies before the end of a block
abbrev pub ends_past : ℕ → Block → Bool
ends_past q c = nat_lt (q - c.at) 4096

-- the byte at an offset: that of the first block that ends past it
abbrev pub byte_in : List Block → ℕ → ℕ
byte_in [] q = 0
byte_in (c ∷ cs) q = if ends_past q c then slice_index c.bytes (q - c.at) else byte_in cs q

-- whether that block has the offset
abbrev pub covers : List Block → ℕ → Bool
covers [] q = false
covers (c ∷ cs) q = if ends_past q c then not (nat_lt q c.at) else covers cs q

-- the blocks lie one after the other, from an offset on, and each begins before another offset
abbrev pub Laid : ℕ → ℕ → List Block → Type 0
Laid from end [] = Unit {0}
Laid from end (c ∷ cs) = (from ≤ c.at) × (c.at < end) × (length c.bytes ≡ 4096) × Laid (c.at + 4096) end cs

-- in each block an offset passes a test
abbrev pub EachHas : (ℕ → Bool) → List Block → Type 0
EachHas passes [] = Unit {0}
EachHas passes (c ∷ cs) = (0 < counted passes c.at 4096) × EachHas passes cs

-- whether a block has a byte that is kept
abbrev pub is_held : List Run → Block → Bool
is_held runs c = nat_lt 0 (kept_in runs c.at 4096)

-- how many bytes from an offset on the last block has room for
abbrev pub room_behind : ℕ → List Block → ℕ
room_behind at [] = 0
room_behind at (c ∷ []) = 4096 - (at - c.at)
room_behind at (c ∷ d ∷ cs) = room_behind at (d ∷ cs)

-- some bytes written over those at a place
abbrev pub written : ℕ → List ℕ → List ℕ → List ℕ
written place xs bytes = take place bytes ++ xs ++ drop (place + length xs) bytes

-- the last block with bytes from an offset on
abbrev pub last_written : ℕ → List ℕ → List Block → List Block
last_written at xs [] = []
last_written at xs (c ∷ []) = record { at = c.at; bytes = written (at - c.at) xs c.bytes } ∷ []
last_written at xs (c ∷ d ∷ cs) = c ∷ last_written at xs (d ∷ cs)

-- the 4,096 bytes of a block: these, and zeros after them
abbrev pub padded : List ℕ → List ℕ
padded xs = written 0 xs (replicate 4096 0)

-- the bytes from an offset on, cut into blocks
abbrev pub IsCut : ℕ → List ℕ → List Block → Type 0
IsCut at xs [] = xs ≡ []
IsCut at xs (c ∷ cs) = (c.at ≡ at) × (0 < length xs) × (c.bytes ≡ padded (take 4096 xs)) × IsCut (at + 4096) (drop 4096 xs) cs

-- the new blocks have the bytes of the old ones at the same offsets, and more bytes from an offset on. If an offset in each old
-- block and the offset of each of these bytes pass a test, an offset in each new block does
pub record HasBytes (at : ℕ) (more : List ℕ) (old new : List Block) : Type 0 where
  pub laid : Laid 0 (at + length more) new
  pub before : (q : ℕ) → q < at → covers old q ≡ true → (covers new q ≡ true) × (byte_in new q ≡ byte_in old q)
  pub behind : (q : ℕ) → at ≤ q → q < at + length more → (covers new q ≡ true) × (byte_in new q ≡ slice_index more (q - at))
  pub held : (passes : ℕ → Bool) → EachHas passes old → ((q : ℕ) → at ≤ q → q < at + length more → passes q ≡ true) → EachHas passes new

-- the runs have the status of each of the n bytes, and are as few as can be; each byte that is kept lies in a block, and each
-- block has one; places is the memory of the table of blocks, which is given back with the last
pub record IsTidy (runs : List Run) (blocks : List Block) (n places : ℕ) : Type 0 where
  pub tiled : IsTiled runs 0 n
  pub parted : Parted 0 runs
  pub laid : Laid 0 n blocks
  pub covered : (q : ℕ) → is_kept (status_at runs q) ≡ true → covers blocks q ≡ true
  pub held : EachHas (λ q. is_kept (status_at runs q)) blocks
  pub freed : length blocks ≡ 0 → places ≡ 0
