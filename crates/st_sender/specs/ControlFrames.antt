-- By which numbers a notice goes: a Blocked, which goes alone, or a limit of this end's. And what one that was fulfilled
-- leaves of the marks.
use Rattle.std.specs.Prelude.{◌≡◌, ℕ, ◌+◌, ◌-◌, ◌^◌, ◌<◌, ◌≤◌, Bool, true, false, List, [], ◌∷◌, length, max, nat_lt, slice_set, MatchOption}
use Rattle.std.specs.List.{AllByRecursion}
use Rattle.std.specs.declared.option.Option.{Option}
use Rattle.std.specs.declared.option.Option.TheVariants.{None, Some}
use Rattle.st_oer.specs.Ratios.{Ratio}
use Rattle.st_streams.specs.Slots.{Slots, slot}
use Rattle.st_frames.specs.Frames.{Known, LimitFrame, ConnectionMaxData, BlockedFrame, ConnectionDataBlocked, StreamMaxMoney, StreamMoneyBlocked, StreamMaxData, StreamDataBlocked}
use Rattle.st_frames.specs.Written.{packet_length}
use Rattle.st_sender.specs.declared.bounds.Bounds.{Bounds}
use Rattle.st_sender.specs.declared.notice.Notice.{Notice}
use Rattle.st_sender.specs.declared.notice.Notice.TheVariants as said
use Rattle.st_sender.specs.Sending.{Data, Whole, SentFrame, Flight, Load, PeerBlocked, Sending}
use Rattle.st_sender.specs.Flights.{any_frame, tells, flying_end, all_ends, room_for}
use Rattle.st_sender.specs.Answering.{mark_after, marks_after, higher}
use Rattle.st_sender.specs.Lanes.{SendStream, due_in}
use Rattle.st_sender.specs.Due.{was_blocked, IsDue}
use Rattle.st_sender.specs.Loads.{Sends}
use Rattle.st_sender.specs.Filling.{is_work}
use Rattle.st_sender.specs.Paying.{open_money}
use Rattle.st_sender.specs.Shown.{telling}

-- the packet of one frame, without money, takes no more than the room
abbrev pub IsShort : Bounds → Known → Type 0
IsShort b f = packet_length b.sequence 0 (f ∷ []) ≤ b.room

-- ---- Blocked frames

-- bytes of a stream wait beyond its limit
pub record IsDataBlocked (b : Bounds) (k : ℕ) (l : SendStream) (limit : ℕ) : Type 0 where
  pub told : limit ≡ l.out.told
  pub first : was_blocked l.out.blocked limit ≡ false
  pub waits : (o byte : ℕ) × (due_in l o ≡ Some byte) × (limit ≤ o)
  pub short : IsShort b (BlockedFrame (StreamDataBlocked k limit))

-- money of a stream waits beyond the peer's receive max
pub record IsMoneyBlocked (r : Ratio) (flights : List Flight) (b : Bounds) (k : ℕ) (l : SendStream) (limit total : ℕ) : Type 0 where
  pub received : ℕ
  pub told : l.out.advertised_money ≡ Some (limit, received)
  pub total_is : total ≡ l.out.fulfilled
  pub first : was_blocked l.out.blocked_money limit ≡ false
  pub waits : limit - received < room_for r (open_money flights k l.out)
  pub short : IsShort b (BlockedFrame (StreamMoneyBlocked k limit total))

-- a Blocked of a stream goes
abbrev pub IsBlocked : List Flight → Ratio → Bounds → (k : ℕ) → SendStream → Known → Type 0
IsBlocked flights r b k l (BlockedFrame (StreamDataBlocked j limit)) = (j ≡ k) × IsDataBlocked b k l limit
IsBlocked flights r b k l (BlockedFrame (StreamMoneyBlocked j limit total)) = (j ≡ k) × IsMoneyBlocked r flights b k l limit total
IsBlocked flights r b k l f = ⊥

-- the Blocked of a stream that goes, for bytes, for money, or for either: none only if none may go
abbrev pub IsDataNotice : Bounds → (k : ℕ) → SendStream → Option Notice → Type 0
IsDataNotice b k l notice =
    MatchOption notice ((limit : ℕ) → ¬ IsDataBlocked b k l limit)
    (λ n. (limit : ℕ) × (n ≡ said.StreamDataBlocked k limit) × IsDataBlocked b k l limit)

abbrev pub IsMoneyNotice : Ratio → List Flight → Bounds → (k : ℕ) → SendStream → Option Notice → Type 0
IsMoneyNotice r flights b k l notice =
    MatchOption notice ((limit total : ℕ) → ¬ IsMoneyBlocked r flights b k l limit total)
    (λ n. (limit total : ℕ) × (n ≡ said.StreamMoneyBlocked k limit total) × IsMoneyBlocked r flights b k l limit total)

abbrev pub IsStreamNotice : List Flight → Ratio → Bounds → (k : ℕ) → SendStream → Option Notice → Type 0
IsStreamNotice flights r b k l notice =
    MatchOption notice ((f : Known) → ¬ IsBlocked flights r b k l f) (λ n. IsBlocked flights r b k l (telling n))

pub record IsBlockedAt (lanes : Slots SendStream) (flights : List Flight) (r : Ratio) (b : Bounds) (f : Known) : Type 0 where
  pub stream : ℕ
  pub lane : SendStream
  pub is_open : slot lanes stream ≡ Some lane
  pub is_own : stream < 65
  pub blocked : IsBlocked flights r b stream lane f

abbrev pub NoneBlocked : Slots SendStream → List Flight → Ratio → Bounds → (count : ℕ) → Type 0
NoneBlocked lanes flights r b count = (k : ℕ) (l : SendStream) → k < count → slot lanes k ≡ Some l → (f : Known) → ¬ IsBlocked flights r b k l f

-- bytes of a stream wait beyond how far the sum of the streams' ends may rise
abbrev pub IsHeld : List Flight → (spare k : ℕ) → SendStream → Type 0
IsHeld flights spare k l = (o byte : ℕ) × (due_in l o ≡ Some byte) × (max l.out.acked_end (flying_end k flights) + spare ≤ o)

abbrev pub NotHeld : List Flight → (spare k : ℕ) → SendStream → Type 0
NotHeld flights spare k l = (o byte : ℕ) → due_in l o ≡ Some byte → o < max l.out.acked_end (flying_end k flights) + spare

pub record IsHeldAt (lanes : Slots SendStream) (flights : List Flight) (spare : ℕ) : Type 0 where
  pub stream : ℕ
  pub lane : SendStream
  pub is_open : slot lanes stream ≡ Some lane
  pub is_own : stream < 65
  pub held : IsHeld flights spare stream lane

abbrev pub NoneHeld : Slots SendStream → List Flight → (spare count : ℕ) → Type 0
NoneHeld lanes flights spare count = (k : ℕ) (l : SendStream) → k < count → slot lanes k ≡ Some l → NotHeld flights spare k l

-- the connection's Blocked goes
pub record IsConnectionBlocked (lanes : Slots SendStream) (flights : List Flight) (told : ℕ) (highest : Option ℕ) (b : Bounds) : Type 0 where
  pub first : was_blocked highest told ≡ false
  pub waits : IsHeldAt lanes flights b.spare
  pub short : IsShort b (BlockedFrame (ConnectionDataBlocked told))

-- the notice of the connection's Blocked: none only if it does not go
abbrev pub IsConnectionNotice : Slots SendStream → List Flight → (told : ℕ) → (highest : Option ℕ) → Bounds → Option Notice → Type 0
IsConnectionNotice lanes flights told highest b notice =
    MatchOption notice (¬ IsConnectionBlocked lanes flights told highest b)
    (λ n. (telling n ≡ BlockedFrame (ConnectionDataBlocked told)) × IsConnectionBlocked lanes flights told highest b)

-- ---- limits of this end's

abbrev pub is_limit : Known → Bool
is_limit (LimitFrame l) = true
is_limit f = false

-- a limit is above the mark
abbrev pub is_above : Option ℕ → (limit : ℕ) → Bool
is_above None limit = false
is_above (Some m) limit = nat_lt m limit

abbrev pub is_marked : PeerBlocked → Known → Bool
is_marked m (LimitFrame (ConnectionMaxData value)) = is_above m.connection value
is_marked m (LimitFrame (StreamMaxData k value)) = is_above (slot m.offsets k) value
is_marked m (LimitFrame (StreamMaxMoney k value total)) = is_above (slot m.money k) value
is_marked m f = false

-- the frame of a limit goes
pub record IsAwaited (m : PeerBlocked) (flights : List Flight) (b : Bounds) (f : Known) : Type 0 where
  pub marked : is_marked m f ≡ true
  pub idle : any_frame (tells f) flights ≡ false
  pub short : IsShort b f

-- the notice of a limit: none only if its frame does not go
abbrev pub IsLimitNotice : PeerBlocked → List Flight → Bounds → Known → Option Notice → Type 0
IsLimitNotice m flights b f notice =
    MatchOption notice (¬ IsAwaited m flights b f) (λ n. (telling n ≡ f) × IsAwaited m flights b (telling n))

abbrev pub NoneAwaited : PeerBlocked → List Flight → Bounds → (limits : List Known) → Type 0
NoneAwaited m flights b limits = AllByRecursion (λ f. ¬ IsAwaited m flights b f) limits

-- the marks once a limit was marked at its value
abbrev pub marked : PeerBlocked → Known → PeerBlocked
marked m (LimitFrame (ConnectionMaxData value)) = record m { connection = Some value }
marked m (LimitFrame (StreamMaxData k value)) = record m { offsets = slice_set m.offsets k (Some value) }
marked m (LimitFrame (StreamMaxMoney k value total)) = record m { money = slice_set m.money k (Some value) }
marked m f = m

-- and once a frame was fulfilled
abbrev pub marks_acked : PeerBlocked → Known → PeerBlocked
marks_acked m (LimitFrame (ConnectionMaxData value)) = record m { connection = mark_after m.connection value }
marks_acked m (LimitFrame (StreamMaxData k value)) = record m { offsets = marks_after m.offsets k value }
marks_acked m (LimitFrame (StreamMaxMoney k value total)) = record m { money = marks_after m.money k value }
marks_acked m f = m

abbrev pub marks_flown : PeerBlocked → SentFrame → PeerBlocked
marks_flown m (Data k o n) = m
marks_flown m (Whole f) = marks_acked m f

abbrev pub all_marks_flown : PeerBlocked → List SentFrame → PeerBlocked
all_marks_flown m [] = m
all_marks_flown m (f ∷ fs) = all_marks_flown (marks_flown m f) fs

-- the connection's highest limit for which a Blocked was fulfilled, once a frame was
abbrev pub highest_acked : Option ℕ → Known → Option ℕ
highest_acked highest (BlockedFrame (ConnectionDataBlocked limit)) = higher highest limit
highest_acked highest f = highest

abbrev pub highest_flown : Option ℕ → SentFrame → Option ℕ
highest_flown highest (Data k o n) = highest
highest_flown highest (Whole f) = highest_acked highest f

abbrev pub all_highest_flown : Option ℕ → List SentFrame → Option ℕ
all_highest_flown highest [] = highest
all_highest_flown highest (f ∷ fs) = all_highest_flown (highest_flown highest f) fs

-- ---- a packet of one notice

-- nothing bars a packet from being sent: these bounds say how much may be sent
pub record IsUnbarred (s : Sending) (b : Bounds) : Type 0 where
  pub alive : s.failed ≡ false
  pub flights : length s.flights < s.config.in_flight
  pub packets : s.last < s.config.packets
  pub under : all_ends s [] ≤ s.told
  pub spare : b.spare ≡ s.told - all_ends s []
  pub sequence : b.sequence ≡ s.last + 1
  pub small_spare : b.spare < 2 ^ 64
  pub small_sequence : b.sequence < 2 ^ 32

abbrev pub IsOfNotice : Load → Type 0
IsOfNotice p = (n : Notice) × (p.frames ≡ telling n ∷ []) × (p.amount ≡ 0)

-- no Blocked is due that the room takes
abbrev pub NoneSaid : Sending → (limits : List Known) → Bounds → Type 0
NoneSaid s limits b = (f : Known) → is_work f ≡ false → is_limit f ≡ false → IsDue s limits f → ¬ IsShort b f

-- a Blocked that is due and that the room takes: none only if there is none
abbrev pub IsDueNotice : Sending → (limits : List Known) → Bounds → Option Notice → Type 0
IsDueNotice s limits b notice = MatchOption notice (NoneSaid s limits b) (λ n. IsDue s limits (telling n) × IsShort b (telling n))

-- a packet of one notice is sent: none only if no Blocked is due that the room takes, and then nothing changes
abbrev pub SendsNotice : Sending → (limits : List Known) → Bounds → Option Load → Sending → Type 0
SendsNotice s limits b sent t = MatchOption sent (NoneSaid s limits b × (t ≡ s)) (λ p. Sends s limits b.room p t × IsOfNotice p)
