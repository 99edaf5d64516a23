-- The schedule: which events are played, and in which order. Everything happens at moment 0, and the IV of a Send is the
-- number of events before it.
use Rattle.std.specs.Prelude.{◌≡◌, ◌≢◌, ◌⊎◌, ⊤, ℕ, zero, suc, ◌+◌, ◌-◌, ◌*◌, ◌/◌, ◌%◌, ◌<◌, ◌≤◌, pos, Bool, true, false, nat_eq, if◌then◌else◌, List, [], ◌∷◌, ◌++◌, length, take, drop, min, MatchBool, Ok}
use Rattle.std.specs.List.{AllByRecursion}
use Rattle.std.specs.Int.{w64, to_be_bytes}
use Rattle.ilpstream_settings.specs.declared.settings.LocalSettings.{LocalSettings}
use Rattle.st_end.specs.Sending.{GoesNone}
use Rattle.st_world_parts.specs.Sides.{Side, Client, Server}
use Rattle.st_world_parts.specs.State.{World, end_at, log_at}
use Rattle.st_world_parts.specs.Events.{Event, OpenStream, Write, Read, Close, Send, Arrive, AnswerArrives, Fault, IsEvent, Told, Silent, Sent, Call}
use Rattle.st_world.specs.Steps.{Step}
use Rattle.st_world.specs.Runs.{Run, opening}
use Rattle.ilpstream_local.specs.declared.chain.Counts.{Counts}
use Rattle.ilpstream_local.specs.declared.streams.Progress.{Progress}
use Rattle.ilpstream_local.specs.Parts.{stream_at}
use Rattle.ilpstream_local.specs.Playing.{HasFailed, Played, Plays, Sends, is_lost, local_chain, most_events}
use Rattle.ilpstream_local.specs.declared.fault.LocalFault.{LocalFault}
use Rattle.ilpstream_local.specs.declared.fault.LocalFault.TheVariants as fault

-- ---- events, one after another

-- these events lead from one play to another
pub record Takes (events : List Event) (p q : Played) : Type 0 where
  pub asked : q.asked ≡ p.asked
  pub count : q.events ≡ p.events + length events
  pub run : Run p.world events q.world

-- this one does, or none
abbrev pub Begins : Event → Played → Played → Type 0
Begins event p q = Takes [] p q ⊎ Takes (event ∷ []) p q

-- an event for each of the numbers below this one
abbrev pub each : (ℕ → Event) → (count : ℕ) → List Event
each f zero = []
each f (suc n) = each f n ++ f n ∷ []

-- the first of them lead from one play to another
abbrev pub BeginsEach : (ℕ → Event) → (count : ℕ) → Played → Played → Type 0
BeginsEach f count p q = (n : ℕ) × (n ≤ count) × Takes (each f n) p q

-- one event with this result
pub record Tells (event : Event) (told : Told) (p q : Played) : Type 0 where
  pub asked : q.asked ≡ p.asked
  pub one : q.events ≡ p.events + 1
  pub lawful : IsEvent event
  pub step : Step p.world event told q.world

-- ---- a Prepare of an end, and its answer

-- how many of an end's first Prepares are not lost
abbrev pub arrived : Side → (lose count : ℕ) → ℕ
arrived side lose zero = 0
arrived side lose (suc k) = if is_lost side lose (suc k) then arrived side lose k else suc (arrived side lose k)

-- the link on an end's way that follows `before` others
abbrev pub link_of : Side → (hops before : ℕ) → ℕ
link_of Client hops before = before
link_of Server hops before = hops - before

-- the number of a Prepare there: one on its end's own link, which counts lost ones too, and one on all others
abbrev pub number_on : (own others before : ℕ) → ℕ
number_on own others before = if nat_eq before 0 then own else others

-- it is delivered over a link, and its answer over another
abbrev pub arrival : Side → (hops own others before : ℕ) → Event
arrival side hops own others before = Arrive (link_of side hops before) side (number_on own others before) (pos 0)

abbrev pub answer : Side → (hops number after : ℕ) → Event
answer side hops number after = AnswerArrives (link_of side hops (hops - after)) side number (pos 0)

-- it is delivered over all links of its way, and so is its answer
abbrev pub Crosses : Side → (own others : ℕ) → Played → Played → Type 0
Crosses side own others p q =
    (there : Played) × Takes (each (arrival side p.asked.hops own others) (p.asked.hops + 1)) p there
    × Takes (each (answer side p.asked.hops others) (p.asked.hops + 1)) there q

-- the first events of that
abbrev pub BeginsCrossing : Side → (own others : ℕ) → Played → Played → Type 0
BeginsCrossing side own others p q =
    BeginsEach (arrival side p.asked.hops own others) (p.asked.hops + 1) p q
    ⊎ ((there : Played) × Takes (each (arrival side p.asked.hops own others) (p.asked.hops + 1)) p there
    × BeginsEach (answer side p.asked.hops others) (p.asked.hops + 1) there q)

-- the end that sent it learns that there is no answer
abbrev pub fault_at : Side → (number : ℕ) → Event
fault_at side number = Fault 0 side number (pos 0)

-- what becomes of the Prepare of an end that has this number
abbrev pub Goes : Side → (number : ℕ) → Played → Played → Type 0
Goes side k p q = MatchBool (is_lost side p.asked.lose k) (Takes (fault_at side k ∷ []) p q) (Crosses side k (arrived side p.asked.lose k) p q)

abbrev pub BeginsToGo : Side → (number : ℕ) → Played → Played → Type 0
BeginsToGo side k p q = MatchBool (is_lost side p.asked.lose k) (Begins (fault_at side k) p q) (BeginsCrossing side k (arrived side p.asked.lose k) p q)

-- ---- what an end sends when the schedule reaches it

abbrev pub iv_of : ℕ → List ℕ
iv_of n = 0 ∷ 0 ∷ 0 ∷ 0 ∷ to_be_bytes w64 n

-- after this number of events
abbrev pub sending : Side → (events : ℕ) → Event
sending side n = Send side (iv_of n) (pos 0)

abbrev pub is_sent : Told → Bool
is_sent Sent = true
is_sent told = false

-- it has something to send, and does
abbrev pub IsSent : Side → Played → Played → Type 0
IsSent side p q = Tells (sending side p.events) Sent p q

-- it has nothing
pub record IsIdle (side : Side) (p q : Played) : Type 0 where
  pub tells : Tells (sending side p.events) Silent p q
  pub none : GoesNone (end_at p.world side)

-- it sent `before` Prepares before, and `after` by then
abbrev pub Turn : Side → (before after : ℕ) → Played → Played → Type 0
Turn side before after p q = ((after ≡ before) × IsIdle side p q)
    ⊎ ((after ≡ before + 1) × ((sent : Played) × IsSent side p sent × Goes side after sent q))

abbrev pub BeginsTurn : Side → (before : ℕ) → Played → Played → Type 0
BeginsTurn side before p q = Begins (sending side p.events) p q
    ⊎ ((sent : Played) × IsSent side p sent × BeginsToGo side (before + 1) sent q)

-- the counts are those of the Prepares that were sent, after `events` events
pub record IsCounted (lose events : ℕ) (c : Counts) : Type 0 where
  pub answered : c.answered ≡ arrived Client lose c.sent
  pub sent : c.sent ≤ events
  pub returned : c.returned ≤ events

-- ---- writes, closes and reads

abbrev pub IsWrite : Event → Type 0
IsWrite (Write Client k xs) = ⊤
IsWrite event = ⊥

-- the client writes, and nothing else happens
abbrev pub TakesWrites : Played → Played → Type 0
TakesWrites p q = (events : List Event) × AllByRecursion IsWrite events × Takes events p q

-- the next bytes of the input, after the first `sent`: of one part, and at most 16,384
abbrev pub next_piece : (size : ℕ) (input : List ℕ) (sent : ℕ) → List ℕ
next_piece size input sent = take (min (min 16384 (size - sent % size)) (length input - sent)) (drop sent input)

abbrev pub next_write : (size : ℕ) (input : List ℕ) (sent : ℕ) → Event
next_write size input sent = Write Client (stream_at (sent / size)) (next_piece size input sent)

-- a write that the client does not accept
abbrev pub IsDenied : Event → Played → Played → Type 0
IsDenied event p q = (told : Told) × Tells event told p q × (told ≢ Call (Ok tt))

-- the client writes until all of the input is written, or it does not accept what follows
abbrev pub WritesAll : (size : ℕ) (input : List ℕ) (there : ℕ) → Played → Played → Type 0
WritesAll size input there p q = (there ≡ length input) ⊎ ((was : Played) × TakesWrites p was × IsDenied (next_write size input there) was q)

-- the bytes of the input are written up to there, if they were up to here
pub record WritesOn (size : ℕ) (input : List ℕ) (here there : ℕ) (p q : Played) : Type 0 where
  pub writes : TakesWrites p q
  pub sent : Sends size input here there p q
  pub all : WritesAll size input there p q

-- the part at this place, of an input of `bytes` bytes, is among the first `sent`
abbrev pub IsWhole : (size bytes sent place : ℕ) → Type 0
IsWhole size bytes sent place = min (suc place * size) bytes ≤ sent

-- the client closes the streams from this place on, one after another
abbrev pub closing : (from place : ℕ) → Event
closing from i = Close Client (stream_at (from + i))

abbrev pub AreWhole : (size bytes sent here there : ℕ) → Type 0
AreWhole size bytes sent here there = (place : ℕ) → here ≤ place → place < there → IsWhole size bytes sent place

-- those of the streams whose parts are written: up to there, if they were closed up to here
pub record Closes (size streams bytes sent here there : ℕ) (p q : Played) : Type 0 where
  pub more : here ≤ there
  pub whole : AreWhole size bytes sent here there
  pub all : there < streams → IsWhole size bytes sent there → ⊥
  pub closes : Takes (each (closing here) (there - here)) p q

abbrev pub BeginsToClose : (size bytes sent here : ℕ) → Played → Played → Type 0
BeginsToClose size bytes sent here p q = (there : ℕ) × AreWhole size bytes sent here there × BeginsEach (closing here) (there - here) p q

-- the server has read the end of a stream
abbrev pub has_ended : World → (stream : ℕ) → Bool
has_ended w k = (log_at w Client k).saw_end

-- a read at the server, of at most 65,536 bytes
abbrev pub reading : (stream : ℕ) → Event
reading k = Read Server k 65536

-- it reads the stream of the part at this place, if that has not ended
abbrev pub ReadsOne : (place : ℕ) → Played → Played → Type 0
ReadsOne place p q = MatchBool (has_ended p.world (stream_at place)) (Takes [] p q) (Takes (reading (stream_at place) ∷ []) p q)

-- and the first `streams` of them, one after another
abbrev pub Reads : (streams : ℕ) → Played → Played → Type 0
Reads zero p q = Takes [] p q
Reads (suc n) p r = (q : Played) × Reads n p q × ReadsOne n q r

abbrev pub BeginsToRead : (streams : ℕ) → Played → Played → Type 0
BeginsToRead streams p r = (n : ℕ) × (n < streams) × ((q : Played) × Reads n p q × Begins (reading (stream_at n)) q r)

-- ---- rounds

-- how far a run is
pub record Reach : Type 0 where
  pub written : ℕ  -- bytes of the input
  pub closed : ℕ  -- streams
  pub sent : ℕ  -- Prepares of the client
  pub returned : ℕ  -- and of the server

-- each side once: the client writes, closes and sends, and the server reads and sends
pub record Round (size streams : ℕ) (input : List ℕ) (a b : Reach) (p q : Played) : Type 0 where
  pub wrote : Played
  pub closed : Played
  pub went : Played
  pub read : Played
  pub writes : WritesOn size input a.written b.written p wrote
  pub closes : Closes size streams (length input) b.written a.closed b.closed wrote closed
  pub client : Turn Client a.sent b.sent closed went
  pub reads : Reads streams went read
  pub server : Turn Server a.returned b.returned read q

-- the first events of a round
pub data BeginsRound (size streams : ℕ) (input : List ℕ) (a : Reach) (p q : Played) : Type 0 where
  at_writes : TakesWrites p q → BeginsRound size streams input a p q
  at_closes : (written : ℕ) (wrote : Played) → WritesOn size input a.written written p wrote
      → BeginsToClose size (length input) written a.closed wrote q → BeginsRound size streams input a p q
  at_client : (written to : ℕ) (wrote closed : Played) → WritesOn size input a.written written p wrote
      → Closes size streams (length input) written a.closed to wrote closed → BeginsTurn Client a.sent closed q → BeginsRound size streams input a p q
  at_reads : (written to sent : ℕ) (wrote closed went : Played) → WritesOn size input a.written written p wrote
      → Closes size streams (length input) written a.closed to wrote closed → Turn Client a.sent sent closed went
      → BeginsToRead streams went q → BeginsRound size streams input a p q
  at_server : (written to sent : ℕ) (wrote closed went read : Played) → WritesOn size input a.written written p wrote
      → Closes size streams (length input) written a.closed to wrote closed → Turn Client a.sent sent closed went
      → Reads streams went read → BeginsTurn Server a.returned read q → BeginsRound size streams input a p q

abbrev pub reach_of : Progress → Reach
reach_of x = record { written = x.sent; closed = x.closed; sent = x.counts.sent; returned = x.counts.returned }

-- the server has read the end of each stream
abbrev pub HaveEnded : (streams : ℕ) → World → Type 0
HaveEnded streams w = (place : ℕ) → place < streams → has_ended w (stream_at place) ≡ true

-- all is written, and the end of each stream was read
abbrev pub IsOver : (streams bytes : ℕ) → Reach → World → Type 0
IsOver streams bytes a w = (a.written ≡ bytes) × HaveEnded streams w

-- a round after which something is left to do, and no end failed
pub record GoesOn (size streams : ℕ) (input : List ℕ) (a b : Reach) (p q : Played) : Type 0 where
  pub round : Round size streams input a b p q
  pub left : IsOver streams (length input) b q.world → ⊥
  pub well : HasFailed q.world → ⊥

abbrev pub Rounds : (size streams : ℕ) → (input : List ℕ) → (count : ℕ) → Reach → Reach → Played → Played → Type 0
Rounds size streams input zero a c p r = (c ≡ a) × (r ≡ p)
Rounds size streams input (suc n) a c p r = (b : Reach) × (q : Played) × Rounds size streams input n a b p q × GoesOn size streams input b c q r

-- ---- whole runs

abbrev pub unsent : Reach
unsent = record { written = 0; closed = 0; sent = 0; returned = 0 }

-- the client opens its streams
abbrev pub opens : ℕ → Event
opens place = OpenStream Client

-- then there are rounds, and it is so far
pub record IsAt (size streams : ℕ) (input : List ℕ) (a : Reach) (p q : Played) : Type 0 where
  pub opened : Played
  pub count : ℕ
  pub opens_each : Takes (each opens streams) p opened
  pub rounds : Rounds size streams input count unsent a opened q

-- and at last the events of `Last`
pub record Scheduled (size streams : ℕ) (input : List ℕ) (Last : Reach → Played → Played → Type 0) (p r : Played) : Type 0 where
  pub reach : Reach
  pub mid : Played
  pub rounds : IsAt size streams input reach p mid
  pub last : Last reach mid r

-- a round by which all is done, after which the client has sent `sent` Prepares and the server `returned`
abbrev pub LastRound : (sent returned size streams : ℕ) → (input : List ℕ) → Reach → Played → Played → Type 0
LastRound sent returned size streams input a p q =
    (b : Reach) × Round size streams input a b p q × IsOver streams (length input) b q.world × (b.sent ≡ sent) × (b.returned ≡ returned)

-- or an end failed, and something is left to do
abbrev pub FailedRound : (size streams : ℕ) → (input : List ℕ) → Reach → Played → Played → Type 0
FailedRound size streams input a p q = (b : Reach) × Round size streams input a b p q × (IsOver streams (length input) b q.world → ⊥) × HasFailed q.world

-- a run that is broken off
abbrev pub BreaksOff : (size streams : ℕ) → (input : List ℕ) → Played → Played → Type 0
BreaksOff size streams input p q = BeginsEach opens streams p q ⊎ Scheduled size streams input (BeginsRound size streams input) p q

-- why it ends before all is done
abbrev pub StopsSending : (size streams : ℕ) → (input : List ℕ) → Played → Played → LocalFault → Type 0
StopsSending size streams input p q fault.Failed =
    Plays q.asked q.events q.world × HasFailed q.world × Scheduled size streams input (FailedRound size streams input) p q
StopsSending size streams input p q fault.Events = (q.events ≡ most_events) × Plays q.asked q.events q.world × BreaksOff size streams input p q
StopsSending size streams input p q fault.NoMemory = BreaksOff size streams input p q
StopsSending size streams input p q e = ⊥

-- before the first event
abbrev pub start : LocalSettings → Played
start asked = record { world = opening (local_chain asked.hops); asked = asked; events = 0 }
