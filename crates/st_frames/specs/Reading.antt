-- Reading a packet from left to right (RFC 0029, section 5.2), with the fault that is reported if there are several.
use Rattle.std.specs.Prelude.{ℕ, zero, suc, ◌+◌, List, [], ◌∷◌, length, Option, Some, None, Result, Ok, Err, nat_lt, ◌==◌, if◌then◌else◌}
use Rattle.st_oer.specs.declared.error.OerError.{OerError}
use Rattle.st_oer.specs.Reading.{byte_at, octets_at, var_uint_at}
use Rattle.st_frames.specs.declared.error.FrameError.{FrameError}
use Rattle.st_frames.specs.declared.error.FrameError.TheVariants.{Version, Kind, FrameFormat, TooLong}
use Rattle.st_frames.specs.Errors.{wrapped}
use Rattle.st_frames.specs.Frames.{Known, Packet, max_packet}
use Rattle.st_frames.specs.Contents.{◌>>=◌, refusing, contents_at}

-- a frame as it is in the bytes: its type and its contents
pub record Raw : Type 0 where
  pub type : ℕ
  pub contents : List ℕ

-- the type and contents of one frame, and the bytes after it
unfoldable pub raw_at : List ℕ → Result (Raw × List ℕ) OerError
raw_at bytes = do
  type ← byte_at bytes
  contents ← octets_at type.1
  Ok (record { type = type.0; contents = contents.0 }, contents.1)

-- the types and contents of n frames; bytes after the last are ignored
unfoldable pub raws_at : ℕ → List ℕ → Result (List Raw) OerError
raws_at zero bytes = Ok []
raws_at (suc n) bytes = do
  first ← raw_at bytes
  others ← raws_at n first.1
  Ok (first.0 ∷ others)

-- frame i in front of the others, if it is known
abbrev pub with_known : ℕ → Option Known → List (ℕ × Known) → List (ℕ × Known)
with_known i None others = others
with_known i (Some x) others = (i, x) ∷ others

-- the known ones of these frames, counted from i on over all of them
unfoldable pub known_at : ℕ → List Raw → Result (List (ℕ × Known)) FrameError
known_at i [] = Ok []
known_at i (r ∷ rs) = do
  first ← refusing (FrameFormat i) (contents_at r.type r.contents)
  others ← known_at (i + 1) rs
  Ok (with_known i first others)

-- a fault in the numbers, in a frame's type or in its length
abbrev pub outer : {A : Type 0} → Result A OerError → Result A FrameError
outer (Ok x) = Ok x
outer (Err e) = Err (wrapped e)

-- the known ones of n frames from the i-th on: every type and length is checked before the contents
abbrev pub frames_at : ℕ → ℕ → List ℕ → Result (List (ℕ × Known)) FrameError
frames_at n i bytes = outer (raws_at n bytes) >>= known_at i

-- frame i alone, and the bytes after it
unfoldable pub frame_at : ℕ → List ℕ → Result (Option Known × List ℕ) FrameError
frame_at i bytes = do
  raw ← outer (raw_at bytes)
  known ← refusing (FrameFormat i) (contents_at raw.0.type raw.0.contents)
  Ok (known, raw.1)

-- a byte that has to be this one, and the bytes after it
abbrev pub wants : FrameError → ℕ → ℕ × List ℕ → Result (List ℕ) FrameError
wants e value x = if x.0 == value then Ok x.1 else Err e

-- a packet that an ILP packet of this kind carries; bytes after the last frame are ignored
unfoldable pub packet_at : ℕ → List ℕ → Result Packet FrameError
packet_at kind bytes = if nat_lt max_packet (length bytes) then Err TooLong else (do
  version ← outer (byte_at bytes)
  rest ← wants Version 1 version
  own ← outer (byte_at rest)
  rest ← wants Kind kind own
  sequence ← outer (var_uint_at rest)
  amount ← outer (var_uint_at sequence.1)
  count ← outer (var_uint_at amount.1)
  frames ← frames_at count.0 0 count.1
  Ok (record { kind = kind; sequence = sequence.0; amount = amount.0; frames = frames }))

-- the frames if none has a fault
abbrev pub all_of : Result (List (ℕ × Known)) FrameError → List (ℕ × Known)
all_of (Ok xs) = xs
all_of (Err e) = []
