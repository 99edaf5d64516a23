-- What an end received, with memory allocated in advance: it changes nothing that is received.
use Rattle.std.specs.Prelude.{◌≡◌, ◌≤◌, ℕ, Bool, true, false, ◌||◌, List, is_some, nat_eq}
use Rattle.std.specs.List.{list_any}
use Rattle.std.specs.Ordering.{nat_cmp}
use Rattle.std.specs.FinSet.{FinSet}
use Rattle.st_streams.specs.Slots.{Slots, slot}
use Rattle.st_frames.specs.Frames.{Known, Packet, CloseFrame, StreamClose, StreamMoney, StreamData, frames_of}
use Rattle.st_reassembly.specs.Held.{Held}
use Rattle.st_receiver.specs.Streams.{Receiving}

-- a set of sequences, and how many more runs it takes without memory
pub record Seated : Type 0 where
  pub set : FinSet nat_cmp
  pub room : ℕ

pub record Standing : Type 0 where
  pub state : Receiving
  pub room : ℕ  -- how many more runs of sequences find room
  pub windows : Slots Held  -- the empty windows that wait for streams that are not open

-- the stream is open, or a window waits for it
abbrev pub is_ready : Standing → ℕ → Bool
is_ready s k = is_some (slot s.state.streams k) || is_some (slot s.windows k)

-- a frame that opens its stream if it is not open
abbrev pub opens : ℕ → Known → Bool
opens k (StreamData stream offset bytes) = nat_eq stream k
opens k (StreamMoney stream shares) = nat_eq stream k
opens k (CloseFrame (StreamClose stream code message)) = nat_eq stream k
opens k f = false

-- each stream that these frames open is ready
abbrev pub AllReady : Standing → List Known → Type 0
AllReady s fs = (k : ℕ) → list_any (opens k) fs ≡ true → is_ready s k ≡ true

-- what was ready still is
abbrev pub StaysReady : Standing → Standing → Type 0
StaysReady s t = (k : ℕ) → is_ready s k ≡ true → is_ready t k ≡ true

-- what a step takes of the memory in advance: nothing that another stream may need
pub record Keeps (s t : Standing) : Type 0 where
  pub room : t.room ≡ s.room
  pub ready : StaysReady s t

-- the packet can take effect without memory
pub record HasRoom (s : Standing) (p : Packet) : Type 0 where
  pub sequence : 1 ≤ s.room
  pub streams : AllReady s (frames_of p)
