-- A lossless run of both sides: each outgoing packet is fulfilled, the reply's limits are applied, all of it is read,
-- and the input is written on.
use Rattle.std.specs.Prelude.{◌≡◌, ℕ, zero, suc, ◌+◌, ◌^◌, ◌<◌, ◌≤◌, true, List, map, slice_index, sum, if◌then◌else◌}
use Rattle.std.specs.List.{range_with_len}
use Rattle.std.specs.declared.option.Option.TheVariants.{Some}
use Rattle.st_frames.specs.Frames.{Known, Packet, frames_of, max_packet}
use Rattle.st_sender.specs.Sending.{Load, Outgoing, Sending, outgoing_at}
use Rattle.st_sender.specs.Loads.{Sends, with_flight}
use Rattle.st_sender.specs.Answering.{after_all_told}
use Rattle.st_sender.specs.Filling.{Fills}
use Rattle.st_receiver.specs.Streams.{Receiving, is_open, may_name, new_receiving}
use Rattle.st_receiver.specs.Reading.{after_got}
use Rattle.st_receiver.specs.Judged.{effect}
use Rattle.st_receiver.specs.Limits.{reply_frames}
use Rattle.st_world_quiet.specs.Left.{all_money_left}
use Rattle.st_world_quiet.specs.Rounds.{IsWritten, once_fulfilled}
use Rattle.st_world_quiet.specs.Mirrored.{IsPacketOf, IsReadOut}

pub record Exchange (n : ℕ → ℕ) (s : Sending) (r : Receiving) (t : Sending) (u : Receiving) : Type 0 where
  pub limits : List Known
  pub load : Load
  pub packet : Packet
  pub sends : Sends s limits max_packet load (with_flight s load)
  pub fills : Fills s limits max_packet load
  pub carries : IsPacketOf load packet
  pub left : s.last + 1 < s.config.packets  -- the Prepares of the connection are not used up
  pub reads : IsReadOut (effect r packet load.amount) u
  pub writes : IsWritten n (after_all_told (once_fulfilled s load) (reply_frames (effect r packet load.amount) (frames_of packet))) t

-- m of them
abbrev pub Exchanges : (ℕ → ℕ) → ℕ → Sending → Receiving → Sending → Receiving → Type 0
Exchanges n zero s r t u = (t ≡ s) × (u ≡ r)
Exchanges n (suc m) s r t u = (mid : Sending) × (between : Receiving) × Exchange n s r mid between × Exchanges n m mid between t u

-- all input together stays below the limit on accepted bytes
abbrev pub IsModest : (ℕ → ℕ) → Type 0
IsModest n = sum (map n (range_with_len 0 65)) < 2 ^ 63

-- a receiver to which nothing came, with these receive maxes set
abbrev pub opened_receiving : (parity : ℕ) → (kept : List ℕ) → Receiving
opened_receiving parity kept = record (new_receiving parity) { kept = kept }

-- it accepts all that is offered, on streams that the sender opened
pub record AllowsAll (s : Sending) (r : Receiving) : Type 0 where
  pub named : (k : ℕ) (x : Outgoing) → outgoing_at s k ≡ Some x → may_name r k ≡ true
  pub most : (k : ℕ) (x : Outgoing) → outgoing_at s k ≡ Some x → x.offered ≤ slice_index r.kept k
  pub credit : all_money_left s < 2 ^ 63

-- a read of each open stream, of at most `limit` bytes
abbrev pub read_open : (limit : ℕ) → Receiving → ℕ → Receiving
read_open limit r k = if is_open r k then after_got r k limit else r

unfoldable pub read_each : (limit first count : ℕ) → Receiving → Receiving
read_each limit first zero r = r
read_each limit first (suc m) r = read_each limit (first + 1) m (read_open limit r first)
