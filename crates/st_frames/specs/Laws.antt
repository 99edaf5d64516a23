-- Reading and the relation are one; what is written reads as itself; no packet begins another.
use Rattle.std.specs.Prelude.{◌≡◌, ◌<◌, ◌≤◌, ◌^◌, ℕ, List, [], ◌++◌, length, Ok}
use Rattle.st_oer.specs.Laws.{IsBytes, Never}
use Rattle.st_frames.specs.declared.error.FrameError.TheVariants.{NoMemory}
use Rattle.st_frames.specs.Frames.{Known, Packet, max_packet, frames_of}
use Rattle.st_frames.specs.Reading.{packet_at}
use Rattle.st_frames.specs.Relation.{IsPacket}
use Rattle.st_frames.specs.Written.{AllFit, written, packet_with}

-- a packet is read exactly if the bytes are a spelling of it
pub record PacketReads : Type 0 where
  pub found : (kind : ℕ) (bytes : List ℕ) (p : Packet) → IsBytes bytes → packet_at kind bytes ≡ Ok p → IsPacket bytes p × (p.kind ≡ kind) × (length bytes ≤ max_packet)
  pub only : (bytes : List ℕ) (p : Packet) → length bytes ≤ max_packet → IsPacket bytes p → packet_at p.kind bytes ≡ Ok p

-- bytes that spell a packet, with nothing after its last frame
abbrev pub IsWhole : List ℕ → Packet → Type 0
IsWhole bytes p = (is : IsPacket bytes p) × (is.after ≡ [])

-- what is written is a whole spelling of its packet, and reads as it
pub record PacketWrites : Type 0 where
  pub whole : (kind s a : ℕ) (ks : List Known) (text : List ℕ) → s < 2 ^ 64 → a < 2 ^ 64 → AllFit ks → written kind s a ks ≡ Ok text → IsWhole text (packet_with kind s a ks)
  pub itself : (kind s a : ℕ) (ks : List Known) (text : List ℕ) → s < 2 ^ 64 → a < 2 ^ 64 → AllFit ks → written kind s a ks ≡ Ok text → packet_at kind text ≡ Ok (packet_with kind s a ks)

-- no whole spelling begins another
abbrev pub NoneBegins : Type 0
NoneBegins = (bytes more : List ℕ) (p q : Packet) → IsWhole bytes p → IsWhole (bytes ++ more) q → more ≡ []

-- the packet that frames make has these frames
abbrev pub KeepsFrames : Type 0
KeepsFrames = (kind sequence amount : ℕ) (ks : List Known) → frames_of (packet_with kind sequence amount ks) ≡ ks

-- reading needs no memory, whatever the kind
abbrev pub ReadsWithoutMemory : Type 0
ReadsWithoutMemory = (kind : ℕ) → Never NoMemory (packet_at kind)
