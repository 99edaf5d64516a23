-- What a Prepare may carry.
use Rattle.std.specs.Prelude.{◌≡◌, ℕ, ◌+◌, ◌-◌, ◌<◌, ◌≤◌, Bool, true, false, List, [], ◌∷◌, length, slice_get, nat_le, Contains, ◌⊎◌}
use Rattle.std.specs.declared.option.Option.{Option}
use Rattle.std.specs.declared.option.Option.TheVariants.{None, Some}
use Rattle.std.specs.FinMap.{empty}
use Rattle.st_streams.specs.Slots.{slot}
use Rattle.st_frames.specs.Frames.{Known, CloseFrame, ConnectionClose, OtherFrame, LimitFrame, ConnectionMaxData, BlockedFrame, ConnectionDataBlocked, StreamClose, StreamMoney, StreamMaxMoney, StreamMoneyBlocked, StreamData, StreamMaxData, StreamDataBlocked}
use Rattle.st_sender.specs.Sending.{Outgoing, Data, Sending, outgoing_at}
use Rattle.st_sender.specs.Flights.{any_frame, closes, tells, due_at, all_ends, room_for, due_money}

-- Frames are those of RFC 0029, section 5.3; when each is due is this profile's own rule.

-- StreamData: bytes in a row, each of them due, at most 16,000
pub record IsDueData (s : Sending) (k offset : ℕ) (xs : List ℕ) : Type 0 where
  pub stream : Outgoing
  pub is_open : outgoing_at s k ≡ Some stream
  pub some : 0 < length xs
  pub short : length xs ≤ 16000
  pub bytes : (i byte : ℕ) → slice_get xs i ≡ Some byte → due_at s k stream (offset + i) ≡ Some byte

-- StreamMoney
pub record IsDueMoney (s : Sending) (k amount : ℕ) : Type 0 where
  pub stream : Outgoing
  pub is_open : outgoing_at s k ≡ Some stream
  pub some : 0 < amount
  pub due : amount ≤ due_money s k stream

-- StreamClose: an abort is due at once; a clean close once all bytes are acknowledged and all money is fulfilled
pub record IsAbort (x : Outgoing) (code : ℕ) : Type 0 where
  pub asked : x.abort ≡ Some code
  pub unsettled : x.abort_settled ≡ false

pub record IsCleanClose (x : Outgoing) (code : ℕ) : Type 0 where
  pub asked : x.clean ≡ true
  pub alive : x.abort ≡ None
  pub unsettled : x.clean_settled ≡ false
  pub code_is : code ≡ 1
  pub acknowledged : x.unacked ≡ empty
  pub fulfilled : x.offered ≡ x.fulfilled

pub record IsDueClose (s : Sending) (k code : ℕ) : Type 0 where
  pub stream : Outgoing
  pub is_open : outgoing_at s k ≡ Some stream
  pub idle : any_frame (closes k code) s.flights ≡ false
  pub asked : IsAbort stream code ⊎ IsCleanClose stream code

-- limits only rise, so the highest of those for which a Blocked was fulfilled covers them all
abbrev pub was_blocked : Option ℕ → ℕ → Bool
was_blocked None limit = false
was_blocked (Some highest) limit = nat_le limit highest

-- a Blocked is sent when something waits beyond the limit and nothing is in flight, once for each limit
pub record IsDueDataBlocked (s : Sending) (k limit : ℕ) : Type 0 where
  pub stream : Outgoing
  pub is_open : outgoing_at s k ≡ Some stream
  pub told : limit ≡ stream.told
  pub alone : s.flights ≡ []
  pub first : was_blocked stream.blocked limit ≡ false
  pub waits : (o byte : ℕ) × (due_at s k stream o ≡ Some byte) × (limit ≤ o)

pub record IsDueConnectionBlocked (s : Sending) (limit : ℕ) : Type 0 where
  pub told : limit ≡ s.told
  pub alone : s.flights ≡ []
  pub first : was_blocked s.blocked limit ≡ false
  pub waits : (k o byte : ℕ) × (x : Outgoing) × (outgoing_at s k ≡ Some x) × (due_at s k x o ≡ Some byte) × (limit < all_ends s (Data k o 1 ∷ []))

-- its limit is the peer's receive max, its total what was fulfilled
pub record IsDueMoneyBlocked (s : Sending) (k limit total : ℕ) : Type 0 where
  pub stream : Outgoing
  pub is_open : outgoing_at s k ≡ Some stream
  pub received : ℕ
  pub told : stream.advertised_money ≡ Some (limit, received)
  pub total_is : total ≡ stream.fulfilled
  pub alone : s.flights ≡ []
  pub first : was_blocked stream.blocked_money limit ≡ false
  pub waits : limit - received < room_for s.config.least (due_money s k stream)

-- a limit of this end is sent with its current value, if that is above the peer's mark
pub record IsDueLimit (s : Sending) (limits : List Known) (mark : Option ℕ) (value : ℕ) (f : Known) : Type 0 where
  pub stands : Contains limits f
  pub marked : (m : ℕ) × (mark ≡ Some m) × (m < value)
  pub idle : any_frame (tells f) s.flights ≡ false

-- a frame that is due, given this end's own limits. Messages are empty
abbrev pub IsDue : Sending → (limits : List Known) → Known → Type 0
IsDue s limits (StreamData k offset xs) = IsDueData s k offset xs
IsDue s limits (StreamMoney k amount) = IsDueMoney s k amount
IsDue s limits (CloseFrame (StreamClose k code message)) = IsDueClose s k code × (message ≡ [])
IsDue s limits (BlockedFrame (StreamDataBlocked k limit)) = IsDueDataBlocked s k limit
IsDue s limits (BlockedFrame (ConnectionDataBlocked limit)) = IsDueConnectionBlocked s limit
IsDue s limits (BlockedFrame (StreamMoneyBlocked k limit total)) = IsDueMoneyBlocked s k limit total
IsDue s limits (LimitFrame (ConnectionMaxData value)) = IsDueLimit s limits s.marks.connection value (LimitFrame (ConnectionMaxData value))
IsDue s limits (LimitFrame (StreamMaxData k value)) = IsDueLimit s limits (slot s.marks.offsets k) value (LimitFrame (StreamMaxData k value))
IsDue s limits (LimitFrame (StreamMaxMoney k value total)) = IsDueLimit s limits (slot s.marks.money k) value (LimitFrame (StreamMaxMoney k value total))
IsDue s limits (CloseFrame (ConnectionClose code message)) = ⊥
IsDue s limits (OtherFrame o) = ⊥
