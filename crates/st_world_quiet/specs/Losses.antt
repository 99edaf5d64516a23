-- A run in which one end alone sends, one Prepare at a time, and some Sends are lost: the Prepare does not arrive, or
-- it is accepted and its answer does not arrive. The sender meets a fault before its next Send.
use Rattle.std.specs.Prelude.{◌≡◌, ℕ, suc, ◌+◌, ◌-◌, ◌*◌, ◌^◌, ◌<◌, ◌≤◌, true, List, [], ◌∷◌, map, min, slice_index, sum}
use Rattle.std.specs.List.{range_with_len}
use Rattle.std.specs.declared.option.Option.TheVariants.{Some}
use Rattle.st_frames.specs.Frames.{Known, Packet, max_packet}
use Rattle.st_frames.specs.Told.{money_in}
use Rattle.st_sender.specs.Sending.{Config, Load, Outgoing, Sending, outgoing_at}
use Rattle.st_sender.specs.Flights.{flight_of}
use Rattle.st_sender.specs.Loads.{Sends, with_flight}
use Rattle.st_sender.specs.Filling.{Fills}
use Rattle.st_sender.specs.Answering.{Plain, after_failed}
use Rattle.st_receiver.specs.Streams.{Receiving, may_name}
use Rattle.st_receiver.specs.Judged.{effect}
use Rattle.st_world_quiet.specs.Left.{all_money_left}
use Rattle.st_world_quiet.specs.Rounds.{IsWritten, Round}
use Rattle.st_world_quiet.specs.Mirrored.{IsPacketOf, IsReadOut, Tally}
use Rattle.st_world_quiet.specs.Exchanges.{Exchange}

-- what becomes of a Send
pub data Fate : Type 0 where
  Delivered : Fate
  PrepareLost : Fate  -- it never came
  AnswerLost : Fate  -- it is accepted, and its answer does not arrive

abbrev pub losses : List Fate → ℕ
losses [] = 0
losses (Delivered ∷ fs) = losses fs
losses (PrepareLost ∷ fs) = suc (losses fs)
losses (AnswerLost ∷ fs) = suc (losses fs)

abbrev pub lost_answers : List Fate → ℕ
lost_answers [] = 0
lost_answers (Delivered ∷ fs) = lost_answers fs
lost_answers (PrepareLost ∷ fs) = lost_answers fs
lost_answers (AnswerLost ∷ fs) = suc (lost_answers fs)

-- fewer than 200 in a row are lost, counting the `in_row` before: with 200 the connection fails
abbrev pub AreFew : (in_row : ℕ) → List Fate → Type 0
AreFew m [] = Unit {0}
AreFew m (Delivered ∷ fs) = AreFew 0 fs
AreFew m (PrepareLost ∷ fs) = (m + 1 < 200) × AreFew (m + 1) fs
AreFew m (AnswerLost ∷ fs) = (m + 1 < 200) × AreFew (m + 1) fs

-- ---- the sender

-- once an outgoing packet was sent and met a fault
abbrev pub once_lost : Sending → Load → Sending
once_lost s p = after_failed (with_flight s p) (flight_of p) Plain

-- a Send that was lost; the input may be written on after it
pub record Miss (n : ℕ → ℕ) (s t : Sending) : Type 0 where
  pub limits : List Known
  pub load : Load
  pub sends : Sends s limits max_packet load (with_flight s load)
  pub left : s.last + 1 < s.config.packets  -- the Prepares of the connection are not used up
  pub writes : IsWritten n (once_lost s load) t

abbrev pub Attempt : Fate → (n : ℕ → ℕ) → Sending → Sending → Type 0
Attempt Delivered n s t = Round n s t
Attempt PrepareLost n s t = Miss n s t
Attempt AnswerLost n s t = Miss n s t

-- a run as the sender sees it
abbrev pub Attempts : (n : ℕ → ℕ) → List Fate → Sending → Sending → Type 0
Attempts n [] s t = t ≡ s
Attempts n (f ∷ fs) s t = (mid : Sending) × Attempt f n s mid × Attempts n fs mid t

-- ---- both sides

-- a Prepare that never came; the reader finds nothing
pub record Lost (n : ℕ → ℕ) (s : Sending) (r : Receiving) (t : Sending) (u : Receiving) : Type 0 where
  pub miss : Miss n s t
  pub reads : IsReadOut r u

-- a Prepare that is accepted, and whose answer does not arrive; the reader reads what it brought
pub record Unanswered (n : ℕ → ℕ) (s : Sending) (r : Receiving) (t : Sending) (u : Receiving) : Type 0 where
  pub miss : Miss n s t
  pub packet : Packet
  pub fills : Fills s miss.limits max_packet miss.load
  pub carries : IsPacketOf miss.load packet
  pub reads : IsReadOut (effect r packet miss.load.amount) u

abbrev pub Try : Fate → (n : ℕ → ℕ) → Sending → Receiving → Sending → Receiving → Type 0
Try Delivered n s r t u = Exchange n s r t u
Try PrepareLost n s r t u = Lost n s r t u
Try AnswerLost n s r t u = Unanswered n s r t u

abbrev pub Tries : (n : ℕ → ℕ) → List Fate → Sending → Receiving → Sending → Receiving → Type 0
Tries n [] s r t u = (t ≡ s) × (u ≡ r)
Tries n (f ∷ fs) s r t u = (mid : Sending) × (between : Receiving) × Try f n s r mid between × Tries n fs mid between t u

-- ---- what lost answers carried

abbrev pub lost_by : (f : Fate) (n : ℕ → ℕ) (s : Sending) (r : Receiving) (t : Sending) (u : Receiving) → Try f n s r t u → (stream : ℕ) → ℕ
lost_by Delivered n s r t u x k = 0
lost_by PrepareLost n s r t u x k = 0
lost_by AnswerLost n s r t u x k = money_in k x.miss.load.frames

abbrev pub lost_on : (n : ℕ → ℕ) (fs : List Fate) (s : Sending) (r : Receiving) (t : Sending) (u : Receiving) → Tries n fs s r t u → (stream : ℕ) → ℕ
lost_on n [] s r t u run k = 0
lost_on n (f ∷ fs) s r t u run k = lost_by f n s r run.0 run.1 run.2 k + lost_on n fs run.0 run.1 t u run.3 k

abbrev pub with_lost : Load → Tally → Tally
with_lost p c = record {
  missed = c.missed + 1;
  lost = λ k. c.lost k + money_in k p.frames;
  spare = λ k. c.spare k - money_in k p.frames;
  spare_all = c.spare_all - p.amount;
}

abbrev pub tally_after : (f : Fate) (n : ℕ → ℕ) (s : Sending) (r : Receiving) (t : Sending) (u : Receiving) → Try f n s r t u → Tally → Tally
tally_after Delivered n s r t u x c = c
tally_after PrepareLost n s r t u x c = c
tally_after AnswerLost n s r t u x c = with_lost x.miss.load c

-- receive maxes and sums have room for this money of each stream, and for what this number of lost answers may carry: each
-- at most the packet limit, and on a stream at most its money
pub record MayLose (answers : ℕ) (config : Config) (money most : ℕ → ℕ) : Type 0 where
  pub each : (k : ℕ) → money k + answers * min config.packet_limit (money k) ≤ most k
  pub all : sum (map money (range_with_len 0 65)) + answers * config.packet_limit < 2 ^ 63

-- the receiver accepts all that is offered, on streams that the sender opened, and also what this number of lost
-- answers may carry: each at most the packet limit, and on a stream at most what is offered there
pub record AllowsLosses (answers : ℕ) (s : Sending) (r : Receiving) : Type 0 where
  pub named : (k : ℕ) (x : Outgoing) → outgoing_at s k ≡ Some x → may_name r k ≡ true
  pub most : (k : ℕ) (x : Outgoing) → outgoing_at s k ≡ Some x → x.offered + answers * min s.packet_limit x.offered ≤ slice_index r.kept k
  pub credit : all_money_left s + answers * s.packet_limit < 2 ^ 63
