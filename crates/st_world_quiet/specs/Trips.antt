-- A lossless run of two ends with nothing between them, from bytes to bytes.
use Rattle.std.specs.Prelude.{◌≡◌, ℕ, zero, suc, ◌+◌, ◌^◌, ◌<◌, ◌≤◌, ℤ, ◌+ℤ◌, int_le, false, List, length}
use Rattle.std.specs.declared.option.Option.TheVariants.{Some}
use Rattle.st_reassembly.specs.Run.{run}
use Rattle.st_receiver.specs.Streams.{Receiving, incoming_at}
use Rattle.st_end.specs.State.{EndState}
use Rattle.st_end.specs.Sending.{Goes, answer_time}
use Rattle.st_end.specs.Receiving.{received}
use Rattle.st_end.specs.Answers.{ended}
use Rattle.st_end.specs.declared.flight.Open.{Open}
use Rattle.st_world_quiet.specs.Mirrored.{IsReadOut}
use Rattle.st_world_quiet.specs.Rounds.{IsWritten}
use Rattle.st_world_quiet.specs.Calls.{take_each, write_each}

-- the ends of one connection: what the first sends is for the second
pub record AreJoined (e f : EndState) : Type 0 where
  pub keys : f.keys ≡ e.keys
  pub address : e.peer ≡ f.own

-- each receive max has room in a frame
abbrev pub CanTell : Receiving → Type 0
CanTell r = (k : ℕ) → (incoming_at r k).receive_max < 2 ^ 64

-- a Prepare that goes, and comes before it expires
pub record Passage (e : EndState) : Type 0 where
  pub iv : List ℕ
  pub now : ℤ
  pub later : ℤ
  pub flight : Open
  pub bytes : List ℕ
  pub gone : EndState
  pub long : length iv ≡ 12
  pub goes : Goes e iv now flight bytes gone
  pub in_time : int_le (now +ℤ answer_time) later ≡ false
  pub left : e.sending.last + 1 < e.sending.config.packets  -- the Prepares of the connection are not used up

-- the second end once the Prepare arrived, and the first once the answer arrived
abbrev pub once_received : {e : EndState} → (f : EndState) → Passage e → EndState
once_received f w = (received f w.bytes w.later).1

abbrev pub once_answered : {e : EndState} → (f : EndState) → Passage e → EndState
once_answered f w = ended w.gone w.flight (Some (received f w.bytes w.later).0.bytes)

-- then the second end reads, and the first writes on
pub record Trip (n : ℕ → ℕ) (e f g h : EndState) : Type 0 where
  pub passage : Passage e
  pub reads : IsReadOut (once_received f passage).receiving h.receiving
  pub read_alone : h ≡ record (once_received f passage) { receiving = h.receiving }
  pub writes : IsWritten n (once_answered f passage).sending g.sending
  pub written_alone : g ≡ record (once_answered f passage) { sending = g.sending }

-- m of them
abbrev pub Trips : (ℕ → ℕ) → ℕ → (e f g h : EndState) → Type 0
Trips n zero e f g h = (g ≡ e) × (h ≡ f)
Trips n (suc m) e f g h = (mid : EndState) × (between : EndState) × Trip n e f mid between × Trips n m mid between g h

-- a trip by calls: a read of each stream, with room for its contiguous bytes, and a write on each of what fits
pub record Turn (input : ℕ → List ℕ) (limit : ℕ) (e f g h : EndState) : Type 0 where
  pub passage : Passage e
  pub room : (k : ℕ) → length (run (incoming_at (once_received f passage).receiving k).held) ≤ limit
  pub reads : h ≡ take_each limit 0 65 (once_received f passage)
  pub writes : g ≡ write_each input 0 65 (once_answered f passage)

-- `count` of them
abbrev pub Turns : (ℕ → List ℕ) → (limit count : ℕ) → (e f g h : EndState) → Type 0
Turns input limit zero e f g h = (g ≡ e) × (h ≡ f)
Turns input limit (suc m) e f g h = (mid : EndState) × (between : EndState) × Turn input limit e f mid between × Turns input limit m mid between g h
