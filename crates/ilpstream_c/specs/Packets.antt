-- What a call on a handle of a STREAM packet answers and leaves.
use Rattle.std.specs.Prelude.{◌≡◌, ◌⊎◌, ℕ, true, false, List, length, map, slice_get, Option, Some, None, Ok, Err}
use Rattle.st_frames.specs.declared.error.FrameError.{FrameError}
use Rattle.st_frames.specs.declared.error.FrameError.TheVariants.{NoMemory}
use Rattle.st_frames.specs.Errors.{number}
use Rattle.st_frames.specs.Frames.{Known}
use Rattle.st_frames.specs.Kinds.{kind_number, is_kind}
use Rattle.st_frames.specs.Reading.{packet_at}
use Rattle.st_frames.specs.Written.{written}
use Rattle.host_objects.specs.Codes.{done, argument}
use Rattle.host_objects.specs.Objects.{packet_in}
use Rattle.host_objects.specs.Packets.{kept, packet_seen, IsNewPacket, IsReadPacket, IsPushed, RefusesToPush}
use Rattle.host_objects.specs.declared.object.Object.{Object}
use Rattle.host_objects.specs.declared.object.Object.TheVariants.{Packet}
use Rattle.host_objects.specs.declared.packet.HostPacket.{HostPacket}
use Rattle.host_objects.specs.declared.packet.PlacedFrame.{PlacedFrame}
use Rattle.ilpstream_c.specs.declared.frame.HostFrame.{HostFrame}
use Rattle.ilpstream_c.specs.declared.packet.HostHeader.{HostHeader}
use Rattle.ilpstream_c.specs.Frames.{fields, data_of}
use Rattle.ilpstream_c.specs.Handles.{OnOne, Misused, Refused}

abbrev pub OnPacket : (old new : Option Object) → (code : ℕ) → (HostPacket → HostPacket → Type 0) → Type 0
OnPacket old new code P = OnOne (packet_in old) (packet_in new) (Misused old new code) P

-- ---- a new packet

-- a packet of these numbers is made in an empty handle, unless memory is refused; of another kind none is
abbrev pub IsPacketMade : (kind sequence amount : ℕ) (old new : Option Object) (code : ℕ) → Type 0
IsPacketMade kind sequence amount None new code =
    ((code ≡ done) × ((is_kind kind ≡ true) × ((p : HostPacket) × ((new ≡ Some (Packet p)) × IsNewPacket kind sequence amount p))))
    ⊎ (((code ≡ number NoMemory) × (new ≡ None)) ⊎ ((code ≡ argument) × ((is_kind kind ≡ false) × (new ≡ None))))
IsPacketMade kind sequence amount (Some o) new code = Misused (Some o) new code

-- bytes are refused by the number of why, since memory is refused, or since no packet of this kind is read
abbrev pub RefusesToRead : (kind : ℕ) (bytes : List ℕ) (code : ℕ) → Type 0
RefusesToRead kind bytes code =
    ((e : FrameError) × ((packet_at kind bytes ≡ Err e) × ((code ≡ number e) × (is_kind kind ≡ true))))
    ⊎ (((code ≡ number NoMemory) × (is_kind kind ≡ true)) ⊎ ((code ≡ argument) × (is_kind kind ≡ false)))

-- the packet that the bytes are is made in an empty handle
abbrev pub IsPacketRead : (kind : ℕ) (bytes : List ℕ) (old new : Option Object) (code : ℕ) → Type 0
IsPacketRead kind bytes None new code =
    ((code ≡ done) × ((is_kind kind ≡ true) × ((p : HostPacket) × ((new ≡ Some (Packet p)) × IsReadPacket kind bytes p))))
    ⊎ (RefusesToRead kind bytes code × (new ≡ None))
IsPacketRead kind bytes (Some o) new code = Misused (Some o) new code

-- ---- its numbers and frames

abbrev pub Heads : (old new : HostPacket) → (code : ℕ) → HostHeader → Type 0
Heads old new code h =
    (new ≡ old) × ((code ≡ done) × (h ≡ record { sequence = old.sequence; amount = old.amount; frames = length old.frames.items; kind = kind_number old.kind }))

-- what is given is a frame, or it is refused
abbrev pub IfFrame : Option Known → (old new : Option Object) → (code : ℕ) → (Known → Type 0) → Type 0
IfFrame None old new code P = Refused old new code
IfFrame (Some k) old new code P = P k

abbrev pub OnPacketWith : Option Known → (old new : Option Object) → (code : ℕ) → (Known → HostPacket → HostPacket → Type 0) → Type 0
OnPacketWith given old new code P = IfFrame given old new code (λ k. OnPacket old new code (P k))

-- a frame is added, or refused by the number of why
abbrev pub Pushes : (old new : HostPacket) → Known → (code : ℕ) → Type 0
Pushes old new k code = ((code ≡ done) × IsPushed old new k) ⊎ ((e : FrameError) × ((code ≡ number e) × RefusesToPush old new k e))

-- the frame at a place, if there is one, is reported, and its text or data is output
abbrev pub ShowsAt : Option PlacedFrame → (old new : HostPacket) → (code : ℕ) → HostFrame → (index len : ℕ) → Type 0
ShowsAt None old new code f index len = (code ≡ argument) × (new ≡ old)
ShowsAt (Some p) old new code f index len =
    ((code ≡ done) × ((packet_seen new ≡ packet_seen old) × ((index ≡ p.index) × ((f ≡ fields (kept p.frame)) × ((new.output.items ≡ data_of (kept p.frame)) × (len ≡ length new.output.items))))))
    ⊎ ((code ≡ number NoMemory) × (new ≡ old))

abbrev pub Shows : (old new : HostPacket) → (place : ℕ) → (code : ℕ) → HostFrame → (index len : ℕ) → Type 0
Shows old new place code f index len = ShowsAt (slice_get old.frames.items place) old new code f index len

-- ---- its bytes

-- the frames that are written
abbrev pub frames_in : HostPacket → List Known
frames_in p = map (λ x. kept x.frame) p.frames.items

-- the bytes of the packet are output, or it is refused by the number of why, or memory is refused
abbrev pub Puts : (old new : HostPacket) → (code len : ℕ) → Type 0
Puts old new code len =
    ((code ≡ done) × ((packet_seen new ≡ packet_seen old) × ((written (kind_number old.kind) old.sequence old.amount (frames_in old) ≡ Ok new.output.items) × (len ≡ length new.output.items))))
    ⊎ (((e : FrameError) × ((written (kind_number old.kind) old.sequence old.amount (frames_in old) ≡ Err e) × ((code ≡ number e) × (new ≡ old))))
    ⊎ ((code ≡ number NoMemory) × (new ≡ old)))
