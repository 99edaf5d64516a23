-- The receiver's state between two Sends, relative to the sender's: in a lossless run, and if some Sends are lost.
use Rattle.std.specs.Prelude.{◌≡◌, ℕ, ◌+◌, ◌^◌, ◌<◌, ◌≤◌, true, false, length, map, sum}
use Rattle.std.specs.List.{range_with_len}
use Rattle.std.specs.declared.option.Option.TheVariants.{None, Some}
use Rattle.std.specs.FinMap.{get}
use Rattle.std.specs.FinSet.{contains}
use Rattle.st_streams.specs.Slots.{slot}
use Rattle.st_frames.specs.Frames.{Packet, frames_of}
use Rattle.st_reassembly.specs.Held.{Held}
use Rattle.st_reassembly.specs.Run.{run}
use Rattle.st_sender.specs.Sending.{Load, Outgoing, Sending, outgoing_at}
use Rattle.st_sender.specs.Flights.{sent_end}
use Rattle.st_receiver.specs.Streams.{Receiving, incoming_at, may_name, received_of}
use Rattle.st_receiver.specs.Limits.{capped}
use Rattle.st_world_quiet.specs.Left.{all_money_left}

-- it has read all that it received, and the sender knows no window past the receiver's own
pub record IsMirrored (s : Sending) (r : Receiving) : Type 0 where
  pub slots : length r.streams ≡ 65
  pub alive : (k : ℕ) → (incoming_at r k).held.aborted ≡ None
  pub below : (k : ℕ) → received_of (slot r.streams k) ≤ (incoming_at r k).held.read
  pub named : (k : ℕ) (x : Outgoing) → outgoing_at s k ≡ Some x → may_name r k ≡ true
  pub windows : (k : ℕ) (x : Outgoing) → outgoing_at s k ≡ Some x → x.told ≤ capped ((incoming_at r k).held.read + 65536)

-- answers that were lost
pub record Tally : Type 0 where
  pub missed : ℕ  -- how many
  pub lost : ℕ → ℕ  -- the money of each stream that they carried
  pub spare : ℕ → ℕ  -- and how much of it others may still carry
  pub spare_all : ℕ  -- on all streams together

abbrev pub none_lost : Tally
none_lost = record { missed = 0; lost = λ k. 0; spare = λ k. 0; spare_all = 0 }

-- it has read and credited all that was acknowledged, and also what lost answers carried; of n k bytes of stream k. It
-- accepts all that was offered, and also what lost answers may still carry, and is not closed
pub record IsAhead (n : ℕ → ℕ) (c : Tally) (s : Sending) (r : Receiving) : Type 0 where
  pub mirrored : IsMirrored s r
  pub modest : sum (map n (range_with_len 0 65)) < 2 ^ 63
  pub unclosed : r.closed ≡ false
  pub later : (m : ℕ) → s.last < m → contains r.fulfilled m ≡ false
  pub read : (k : ℕ) → sent_end s k (outgoing_at s k) ≤ (incoming_at r k).held.read
  pub input : (k : ℕ) → (incoming_at r k).held.read ≤ n k
  pub level : c.missed ≡ 0 → (k : ℕ) → (incoming_at r k).held.read ≡ sent_end s k (outgoing_at s k)
  pub credited : (k : ℕ) (x : Outgoing) → outgoing_at s k ≡ Some x → (incoming_at r k).credited ≡ x.fulfilled + c.lost k
  pub most : (k : ℕ) (x : Outgoing) → outgoing_at s k ≡ Some x → x.offered + c.lost k + c.spare k ≤ (incoming_at r k).receive_max
  pub within : (k : ℕ) → k < 65 → (incoming_at r k).credited ≤ (incoming_at r k).receive_max
  pub credit : r.credit + all_money_left s + c.spare_all < 2 ^ 63
  pub stops : (k m : ℕ) → (incoming_at r k).held.end ≡ Some m → m ≡ (incoming_at r k).held.read
  pub emptied : (k q : ℕ) → (incoming_at r k).held.read ≤ q → get (incoming_at r k).held.bytes q ≡ None
  pub going : (k : ℕ) (x : Outgoing) → outgoing_at s k ≡ Some x → x.acked_end < n k → (incoming_at r k).held.end ≡ None

-- if no answer was lost it is level with the sender
abbrev pub IsAbreast : (n : ℕ → ℕ) → Sending → Receiving → Type 0
IsAbreast n s r = IsAhead n none_lost s r

-- a reader took all that can be read of each stream, and nothing else has changed
pub record IsReadOut (r t : Receiving) : Type 0 where
  pub slots : length t.streams ≡ length r.streams
  pub names : (k : ℕ) → may_name t k ≡ may_name r k
  pub read : (k : ℕ) → (incoming_at t k).held.read ≡ (incoming_at r k).held.read + length (run (incoming_at r k).held)
  pub bytes : (k q : ℕ) → (incoming_at t k).held.read ≤ q → get (incoming_at t k).held.bytes q ≡ get (incoming_at r k).held.bytes q
  pub end : (k : ℕ) → (incoming_at t k).held.end ≡ (incoming_at r k).held.end
  pub aborted : (k : ℕ) → (incoming_at t k).held.aborted ≡ (incoming_at r k).held.aborted
  pub highest : (k : ℕ) → received_of (slot t.streams k) ≡ received_of (slot r.streams k)
  pub receive_max : (k : ℕ) → (incoming_at t k).receive_max ≡ (incoming_at r k).receive_max
  pub credited : (k : ℕ) → (incoming_at t k).credited ≡ (incoming_at r k).credited
  pub closed : t.closed ≡ r.closed
  pub fulfilled : t.fulfilled ≡ r.fulfilled
  pub credit : t.credit ≡ r.credit

-- a packet as it arrives, with this `Load` in it
pub record IsPacketOf (p : Load) (q : Packet) : Type 0 where
  pub sequence : q.sequence ≡ p.sequence
  pub amount : q.amount ≡ p.least
  pub frames : frames_of q ≡ p.frames

-- a direction that is neither ended nor aborted
pub record IsOn (s : Held) : Type 0 where
  pub end : s.end ≡ None
  pub aborted : s.aborted ≡ None
