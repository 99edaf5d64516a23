-- Frames and packets as values (RFC 0029, section 5), without where they lie in memory.
use Rattle.std.specs.Prelude.{ℕ, List, map}

-- the most bytes of a plain packet: with its IV and tag, 28 bytes, it fits the 32,767 bytes of data of an ILP packet
abbrev pub max_packet : ℕ
max_packet = 32739

-- a limit that the sender of the frame raises
pub data KnownLimit : Type 0 where
  ConnectionMaxData : (max_offset : ℕ) → KnownLimit
  StreamMaxData : (stream max_offset : ℕ) → KnownLimit
  StreamMaxMoney : (stream receive_max total_received : ℕ) → KnownLimit

-- a limit of the peer's at which the sender of the frame waits
pub data KnownBlocked : Type 0 where
  ConnectionDataBlocked : (max_offset : ℕ) → KnownBlocked
  StreamDataBlocked : (stream max_offset : ℕ) → KnownBlocked
  StreamMoneyBlocked : (stream send_max total_sent : ℕ) → KnownBlocked

-- the end of a stream, or of the connection
pub data KnownClose : Type 0 where
  ConnectionClose : (code : ℕ) (message : List ℕ) → KnownClose
  StreamClose : (stream code : ℕ) (message : List ℕ) → KnownClose

-- what is for none of these
pub data KnownOther : Type 0 where
  ConnectionNewAddress : (address : List ℕ) → KnownOther

-- a frame of one of the eleven types that this profile reads, by what it is for, with its fields; 05, 06, 07 and 17 of
-- RFC 0029 are skipped as unknown ones
pub data Known : Type 0 where
  StreamData : (stream offset : ℕ) (bytes : List ℕ) → Known
  StreamMoney : (stream shares : ℕ) → Known
  LimitFrame : (limit : KnownLimit) → Known
  BlockedFrame : (blocked : KnownBlocked) → Known
  CloseFrame : (close : KnownClose) → Known
  OtherFrame : (other : KnownOther) → Known

-- a packet: its known frames, each with its index over all frames
pub record Packet : Type 0 where
  pub kind : ℕ
  pub sequence : ℕ
  pub amount : ℕ
  pub frames : List (ℕ × Known)

-- the known frame of a pair of it and its index
abbrev pub frame_of : ℕ × Known → Known
frame_of x = x.1

-- the known frames of a packet, without their indices
abbrev pub frames_of : Packet → List Known
frames_of p = map frame_of p.frames
