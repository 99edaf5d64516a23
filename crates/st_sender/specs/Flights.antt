-- What is in flight, and how far its data and its money reach.
use Rattle.std.specs.Prelude.{ℕ, ◌+◌, ◌-◌, Bool, true, false, ◌&&◌, List, [], ◌∷◌, length, map, max, min, sum, nat_lt, nat_le, nat_eq, is_some, if◌then◌else◌}
use Rattle.std.specs.List.{sum_by, list_any, range_with_len}
use Rattle.std.specs.declared.option.Option.{Option}
use Rattle.std.specs.declared.option.Option.TheVariants.{None, Some}
use Rattle.std.specs.FinMap.{get}
use Rattle.st_oer.specs.Ratios.{Ratio, exchanged}
use Rattle.st_frames.specs.Frames.{Known, LimitFrame, ConnectionMaxData, CloseFrame, StreamClose, StreamMaxMoney, StreamData, StreamMaxData}
use Rattle.st_frames.specs.Told.{money_of}
use Rattle.st_sender.specs.Sending.{Outgoing, Load, SentFrame, Data, Whole, Flight, Sending, outgoing_at}

-- a frame once it is in flight, and a packet
abbrev pub flown : Known → SentFrame
flown (StreamData stream offset xs) = Data stream offset (length xs)
flown f = Whole f

abbrev pub flight_of : Load → Flight
flight_of p = record { sequence = p.sequence; amount = p.amount; frames = map flown p.frames }

-- the flight of a sequence, and the others
abbrev pub flight_at : List Flight → ℕ → Option Flight
flight_at [] n = None
flight_at (p ∷ ps) n = if nat_eq p.sequence n then Some p else flight_at ps n

abbrev pub without_flight : List Flight → ℕ → List Flight
without_flight [] n = []
without_flight (p ∷ ps) n = if nat_eq p.sequence n then ps else p ∷ without_flight ps n

-- a frame of some flight passes a test
abbrev pub any_frame : (SentFrame → Bool) → List Flight → Bool
any_frame passes ps = list_any (λ (p : Flight). list_any passes p.frames) ps

-- a frame that carries the byte of an offset
abbrev pub carries : (stream offset : ℕ) → SentFrame → Bool
carries k at (Data stream offset count) = nat_eq stream k && nat_le offset at && nat_lt at (offset + count)
carries k at (Whole f) = false

-- a frame that closes a stream with a code
abbrev pub is_close : (stream code : ℕ) → Known → Bool
is_close k c (CloseFrame (StreamClose stream code message)) = nat_eq stream k && nat_eq code c
is_close k c f = false

abbrev pub closes : (stream code : ℕ) → SentFrame → Bool
closes k c (Data stream offset count) = false
closes k c (Whole f) = is_close k c f

-- a frame that reports the same limit, whatever its value
abbrev pub same_limit : Known → Known → Bool
same_limit (LimitFrame (ConnectionMaxData m)) (LimitFrame (ConnectionMaxData n)) = true
same_limit (LimitFrame (StreamMaxData k m)) (LimitFrame (StreamMaxData l n)) = nat_eq k l
same_limit (LimitFrame (StreamMaxMoney k m t)) (LimitFrame (StreamMaxMoney l n u)) = nat_eq k l
same_limit f g = false

abbrev pub tells : Known → SentFrame → Bool
tells f (Data stream offset count) = false
tells f (Whole g) = same_limit f g

-- the byte of a stream that is due at an offset: accepted, and neither acknowledged nor in flight
abbrev pub due_at : Sending → ℕ → Outgoing → ℕ → Option ℕ
due_at s k x o = if any_frame (carries k o) s.flights then None else get x.unacked o

-- the highest end of a stream's data
abbrev pub end_of : ℕ → SentFrame → ℕ
end_of k (Data stream offset count) = if nat_eq stream k then offset + count else 0
end_of k (Whole f) = 0

abbrev pub highest_end : ℕ → List SentFrame → ℕ
highest_end k [] = 0
highest_end k (f ∷ fs) = max (end_of k f) (highest_end k fs)

abbrev pub flying_end : ℕ → List Flight → ℕ
flying_end k [] = 0
flying_end k (p ∷ ps) = max (highest_end k p.frames) (flying_end k ps)

-- acknowledged or in flight
abbrev pub sent_end : Sending → ℕ → Option Outgoing → ℕ
sent_end s k None = 0
sent_end s k (Some x) = max x.acked_end (flying_end k s.flights)

-- the sum of these ends over the streams, once these frames fly too
unfoldable pub all_ends : Sending → List SentFrame → ℕ
all_ends s fs = sum (map (λ k. max (sent_end s k (outgoing_at s k)) (highest_end k fs)) (range_with_len 0 65))

-- money of a stream that flies: a stream's shares are its part of the amount
abbrev pub money_flown : ℕ → SentFrame → ℕ
money_flown k (Data stream offset count) = 0
money_flown k (Whole f) = money_of k f

abbrev pub part_of : ℕ → Flight → ℕ
part_of k p = sum_by (money_flown k) p.frames

abbrev pub flying_money : Sending → ℕ → ℕ
flying_money s k = sum_by (part_of k) s.flights

-- and what of it should arrive at least, which is what counts against the peer's receive max
abbrev pub least_part : Sending → ℕ → Flight → ℕ
least_part s k p = exchanged s.config.least (part_of k p)

abbrev pub flying_least : Sending → ℕ → ℕ
flying_least s k = sum_by (least_part s k) s.flights

-- what has to be left of the peer's receive max to send an amount: what of it should arrive at least, and a unit if
-- there is any
abbrev pub room_for : Ratio → (amount : ℕ) → ℕ
room_for r n = max (exchanged r n) (min 1 n)

-- money of a stream that is due: offered, and neither fulfilled nor in flight
abbrev pub due_money : Sending → ℕ → Outgoing → ℕ
due_money s k x = if is_some x.abort then 0 else x.offered - x.fulfilled - flying_money s k
