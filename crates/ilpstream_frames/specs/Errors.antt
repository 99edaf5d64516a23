-- The numbers by which refused lines and faults are known.
use Rattle.std.specs.Prelude.{ℕ, Option, None}
use Rattle.st_frames.specs.Errors as frames
use Rattle.st_reassembly.specs.Errors as reassembly
use Rattle.ilpstream_frames.specs.declared.error.LineError.{LineError}
use Rattle.ilpstream_frames.specs.declared.error.LineError.TheVariants as line

abbrev pub number : LineError → ℕ
number line.NotHex = 95
number (line.Packet e) = frames.number e
number line.StreamId = 63
number (line.Inbox e) = reassembly.number e

-- the first number that a refusal wraps
abbrev pub inner : LineError → Option ℕ
inner line.NotHex = None
inner (line.Packet e) = frames.inner e
inner line.StreamId = None
inner (line.Inbox e) = reassembly.inner e
