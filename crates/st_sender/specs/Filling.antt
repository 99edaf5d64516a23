-- How full a packet is if its room is that of the longest packet: own rule of this profile, by which a lossless connection
-- needs few Prepares.
use Rattle.std.specs.Prelude.{◌≡◌, ℕ, ◌+◌, ◌-◌, ◌<◌, ◌≤◌, Bool, true, false, List, [], ◌∷◌, length, map, min, sum, Contains, ◌⊎◌}
use Rattle.std.specs.List.{list_any, range_with_len}
use Rattle.std.specs.declared.option.Option.{Option}
use Rattle.std.specs.declared.option.Option.TheVariants.{None, Some}
use Rattle.st_oer.specs.Ratios.{ratio}
use Rattle.st_frames.specs.Frames.{Known, CloseFrame, StreamClose, StreamMoney, StreamData}
use Rattle.st_sender.specs.Sending.{Outgoing, Load, Data, Sending, outgoing_at}
use Rattle.st_sender.specs.Flights.{carries, flight_of, due_at, all_ends, highest_end, flying_money, due_money}
use Rattle.st_sender.specs.Due.{IsDue, IsDueData}
use Rattle.st_sender.specs.Loads.{Fits, load_with}

-- a byte is due, and the current limits let it be sent
pub record CanFly (s : Sending) (k offset : ℕ) : Type 0 where
  pub stream : Outgoing
  pub is_open : outgoing_at s k ≡ Some stream
  pub byte : ℕ
  pub due : due_at s k stream offset ≡ Some byte
  pub window : offset + 1 ≤ stream.told
  pub connection : all_ends s (Data k offset 1 ∷ []) ≤ s.told

-- from the lowest byte of a stream that is due, 16,000 of its bytes, or all in a row that can be sent
pub record IsFull (s : Sending) (k offset : ℕ) (xs : List ℕ) : Type 0 where
  pub due : IsDueData s k offset xs
  pub lowest : (x : Outgoing) (q : ℕ) → outgoing_at s k ≡ Some x → q < offset → due_at s k x q ≡ None
  pub full : (length xs ≡ 16000) ⊎ (¬ CanFly s k (offset + length xs))

-- money of a stream that is due and may be sent, if all that is sent should arrive
abbrev pub money_room : Option (ℕ × ℕ) → (flying due : ℕ) → ℕ
money_room None flying due = due
money_room (Some told) flying due = min due (told.0 - told.1 - flying)

abbrev pub free_money : Sending → ℕ → Option Outgoing → ℕ
free_money s k None = 0
free_money s k (Some x) = money_room x.advertised_money (flying_money s k) (due_money s k x)

abbrev pub all_free_money : Sending → ℕ
all_free_money s = sum (map (λ k. free_money s k (outgoing_at s k)) (range_with_len 0 65))

-- all that is sent should arrive
abbrev pub WantsAll : Sending → Type 0
WantsAll s = s.config.least ≡ ratio 1 1

-- a byte, money or a close, and no word of a limit
abbrev pub is_work : Known → Bool
is_work (StreamData k o xs) = true
is_work (StreamMoney k n) = true
is_work (CloseFrame (StreamClose k code message)) = true
is_work f = false

-- a room that is large enough: 65 payments, a close of each stream, 129 limits, and a data frame of 16,000 bytes
abbrev pub full_room : ℕ
full_room = 24576

-- the packet is filled
pub record Fills (s : Sending) (limits : List Known) (room : ℕ) (p : Load) : Type 0 where
  pub bytes : (k o : ℕ) → CanFly s k o → (l offset : ℕ) × (xs : List ℕ) × Contains p.frames (StreamData l offset xs) × IsFull s l offset xs
  pub gapless : (k q byte : ℕ) (x : Outgoing) → outgoing_at s k ≡ Some x → due_at s k x q ≡ Some byte → q < highest_end k (flight_of p).frames → list_any (carries k q) (flight_of p).frames ≡ true
  pub money : min s.packet_limit (all_free_money s) ≤ p.amount
  pub worded : list_any is_work p.frames ≡ false → (f : Known) → is_work f ≡ true → IsDue s limits f → ¬ Fits s room (load_with s (f ∷ []))
