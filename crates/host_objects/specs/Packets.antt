-- A plain STREAM packet and its frames, as a host has them.
use Rattle.std.specs.Prelude.{◌≡◌, ◌⊎◌, ◌≤◌, ◌++◌, ◌∷◌, ℕ, true, false, List, [], length, map, Ok, Err, string_bytes, Option, Some, None, Result, slice_get, MatchOption, MatchResult}
use Rattle.st_frames.specs.declared.error.FrameError.{FrameError}
use Rattle.st_frames.specs.declared.error.FrameError.TheVariants.{NoMemory, FrameFormat}
use Rattle.st_frames.specs.Frames.{Known, Packet}
use Rattle.st_frames.specs.Frames as known
use Rattle.st_frames.specs.Kinds.{kind_number}
use Rattle.st_frames.specs.Reading.{packet_at}
use Rattle.st_frames.specs.Written.{is_unwritable, written}
use Rattle.host_objects.specs.declared.frame.KeptFrame.{KeptFrame}
use Rattle.host_objects.specs.declared.frame.KeptFrame.TheVariants.{ConnectionClose, ConnectionNewAddress, ConnectionMaxData, ConnectionDataBlocked, StreamClose, StreamMoney, StreamMaxMoney, StreamMoneyBlocked, StreamData, StreamMaxData, StreamDataBlocked}
use Rattle.host_objects.specs.declared.packet.PlacedFrame.{PlacedFrame}
use Rattle.host_objects.specs.declared.packet.HostPacket.{HostPacket}
use Rattle.st_frames.specs.Seen.{seen_at}
use Rattle.st_frames.specs.declared.frame.Frame.{Frame}

-- ---- frames

-- a frame's value
abbrev pub kept : KeptFrame → Known
kept (ConnectionClose code message) = known.CloseFrame (known.ConnectionClose code (string_bytes message))
kept (ConnectionNewAddress address) = known.OtherFrame (known.ConnectionNewAddress (string_bytes address))
kept (ConnectionMaxData max_offset) = known.LimitFrame (known.ConnectionMaxData max_offset)
kept (ConnectionDataBlocked max_offset) = known.BlockedFrame (known.ConnectionDataBlocked max_offset)
kept (StreamClose stream code message) = known.CloseFrame (known.StreamClose stream code (string_bytes message))
kept (StreamMoney stream shares) = known.StreamMoney stream shares
kept (StreamMaxMoney stream receive_max total_received) = known.LimitFrame (known.StreamMaxMoney stream receive_max total_received)
kept (StreamMoneyBlocked stream send_max total_sent) = known.BlockedFrame (known.StreamMoneyBlocked stream send_max total_sent)
kept (StreamData stream offset bytes) = known.StreamData stream offset bytes.items
kept (StreamMaxData stream max_offset) = known.LimitFrame (known.StreamMaxData stream max_offset)
kept (StreamDataBlocked stream max_offset) = known.BlockedFrame (known.StreamDataBlocked stream max_offset)

-- a frame with its index
abbrev pub placed : PlacedFrame → ℕ × Known
placed p = (p.index, kept p.frame)

-- ---- packets

-- a packet's value
abbrev pub packet_seen : HostPacket → Packet
packet_seen p = record { kind = kind_number p.kind; sequence = p.sequence; amount = p.amount; frames = map placed p.frames.items }

-- a packet of these numbers without frames and without output
pub record IsNewPacket (kind sequence amount : ℕ) (p : HostPacket) : Type 0 where
  pub packet_is : packet_seen p ≡ record { kind = kind; sequence = sequence; amount = amount; frames = [] }
  pub output_is : p.output.items ≡ []

-- the packet that the bytes are, without output
pub record IsReadPacket (kind : ℕ) (bytes : List ℕ) (p : HostPacket) : Type 0 where
  pub read_is : packet_at kind bytes ≡ Ok (packet_seen p)
  pub output_is : p.output.items ≡ []

-- only room for more frames may have been made
pub record IsSamePacket (old new : HostPacket) : Type 0 where
  pub packet_is : packet_seen new ≡ packet_seen old
  pub output_is : new.output ≡ old.output

-- these frames follow the others
pub record AreKept (old new : HostPacket) (more : List (ℕ × Known)) : Type 0 where
  pub kind_is : new.kind ≡ old.kind
  pub sequence_is : new.sequence ≡ old.sequence
  pub amount_is : new.amount ≡ old.amount
  pub frames_are : map placed new.frames.items ≡ map placed old.frames.items ++ more
  pub output_is : new.output ≡ old.output

abbrev pub IsKept : (old new : HostPacket) → ℕ × Known → Type 0
IsKept old new one = AreKept old new (one ∷ [])

-- a frame that can be written is added; its index is the number of those before it
abbrev pub IsPushed : (old new : HostPacket) → Known → Type 0
IsPushed old new k = (is_unwritable k ≡ false) × IsKept old new (length old.frames.items, k)

-- the frame cannot be written, or memory for it is refused
abbrev pub RefusesToPush : (old new : HostPacket) → Known → FrameError → Type 0
RefusesToPush old new k e = IsSamePacket old new × (((e ≡ FrameFormat (length old.frames.items)) × (is_unwritable k ≡ true)) ⊎ (e ≡ NoMemory))

-- the packet that the bytes are, or why they are not a packet; but memory may be refused
abbrev pub ReadsPacket : (kind : ℕ) (bytes : List ℕ) → Result HostPacket FrameError → Type 0
ReadsPacket kind bytes result = MatchResult result (λ p. IsReadPacket kind bytes p) (λ e. (e ≡ NoMemory) ⊎ (packet_at kind bytes ≡ Err e))

-- the frame at a place, with its index, if there is one
abbrev pub IsFrameAt : (place : ℕ) → List PlacedFrame → Option (ℕ × Frame) → Type 0
IsFrameAt place frames found =
    MatchOption found (slice_get frames place ≡ None) (λ x. (p : PlacedFrame) × ((slice_get frames place ≡ Some p) × (seen_at x ≡ placed p)))

-- what writing the packet gives
abbrev pub written_of : HostPacket → Result (List ℕ) FrameError
written_of p = written (kind_number p.kind) p.sequence p.amount (map (λ x. kept x.frame) p.frames.items)

-- the output is the bytes of the packet, or it is refused; but memory may be refused
abbrev pub WritesOut : {X : Type 0} → (old new : HostPacket) → Result X FrameError → Type 0
WritesOut old new result = MatchResult result (λ _. written_of old ≡ Ok new.output.items) (λ e. (e ≡ NoMemory) ⊎ (written_of old ≡ Err e))
