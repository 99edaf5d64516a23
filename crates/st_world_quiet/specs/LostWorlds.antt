-- A run in a world of st_world in which some Sends of the client are lost, one Prepare at a time: which events a Send is by
-- what becomes of it. Whoever waits for an answer that will not come meets a fault, the last of them first.
use Rattle.std.specs.Prelude.{◌≡◌, ◌&&◌, Bool, ℕ, zero, suc, ◌+◌, ◌-◌, ◌*◌, ◌^◌, ◌<◌, ◌≤◌, ℤ, List, [], ◌∷◌, ◌++◌, length, map, min, nat_eq, nat_le, nat_lt, slice_index_or, sum, true, if◌then◌else◌}
use Rattle.std.specs.List.{AllByRecursion}
use Rattle.st_receiver.specs.Streams.{incoming_at}
use Rattle.st_world_parts.specs.Sides.{Client, Server}
use Rattle.st_world_parts.specs.State.{World, end_at, log_at}
use Rattle.st_world_parts.specs.Events.{AnswerArrives, Arrive, Event, Fault, IsEvent, Send, Sent}
use Rattle.st_world.specs.Steps.{Step}
use Rattle.st_world.specs.Runs.{Chain, opening}
use Rattle.st_world_quiet.specs.Left.{work_left}
use Rattle.st_world_quiet.specs.Exchanges.{IsModest}
use Rattle.st_world_quiet.specs.Losses as losses
use Rattle.st_world_quiet.specs.Losses.{AreFew, MayLose, lost_answers}
use Rattle.st_world_quiet.specs.Calls.{MaySend, lengths}
use Rattle.st_world_quiet.specs.Worlds.{Met}
use Rattle.st_world_quiet.specs.HopRounds.{BeginsEach, HasRoomFor, all_of, allows, opening_client, reads}
use Rattle.st_world_quiet.specs.Plays.{are_lawful, sends_needed}

-- what becomes of a Send: its Prepare, or its answer, is lost on this link. A link past the last one counts as the last
pub data Course : Type 0 where
  Arrives : Course
  PrepareLost : (link : ℕ) → Course
  AnswerLost : (link : ℕ) → Course

-- whatever the link
abbrev pub fate_of : Course → losses.Fate
fate_of Arrives = losses.Delivered
fate_of (PrepareLost link) = losses.PrepareLost
fate_of (AnswerLost link) = losses.AnswerLost

-- ---- how many Prepares were put on a link, and how many answers were given on it

abbrev pub puts_on : Course → (link : ℕ) → ℕ
puts_on Arrives link = 1
puts_on (PrepareLost at) link = if nat_le link at then 1 else 0
puts_on (AnswerLost at) link = 1

-- an answer, or the Reject of the hop after the link, once that hop meets a fault
abbrev pub gives_on : (hops : ℕ) → Course → (link : ℕ) → ℕ
gives_on hops Arrives link = 1
gives_on hops (PrepareLost at) link = if nat_lt link (min at hops) then 1 else 0
gives_on hops (AnswerLost at) link = 1

-- of a number of Sends
abbrev pub puts_by : (course : ℕ → Course) → (sends link : ℕ) → ℕ
puts_by course zero link = 0
puts_by course (suc n) link = puts_by course n link + puts_on (course n) link

abbrev pub gives_by : (hops : ℕ) → (course : ℕ → Course) → (sends link : ℕ) → ℕ
gives_by hops course zero link = 0
gives_by hops course (suc n) link = gives_by hops course n link + gives_on hops (course n) link

-- ---- the events of a Send, after those Prepares and answers on each link

-- from a link over `hops` hops: all but the last event, the answer's arrival over the first of these links
unfoldable pub going_by : (prepares answers : ℕ → ℕ) → (link hops : ℕ) → (now : ℤ) → List Event
going_by p g link zero now = Arrive link Client (suc (p link)) now ∷ []
going_by p g link (suc more) now =
    Arrive link Client (suc (p link)) now ∷ going_by p g (suc link) more now ++ AnswerArrives (suc link) Client (suc (g (suc link))) now ∷ []

abbrev pub passing_by : (prepares answers : ℕ → ℕ) → (hops : ℕ) → (now : ℤ) → List Event
passing_by p g hops now = going_by p g 0 hops now ++ AnswerArrives 0 Client (suc (g 0)) now ∷ []

-- the Prepare is lost after it crossed `past` of the hops: all but the fault on the first of these links
unfoldable pub losing_by : (prepares : ℕ → ℕ) → (link past hops : ℕ) → (now : ℤ) → List Event
losing_by p link zero hops now = []
losing_by p link (suc past) zero now = []
losing_by p link (suc past) (suc more) now =
    Arrive link Client (suc (p link)) now ∷ losing_by p (suc link) past more now ++ Fault (suc link) Client (suc (p (suc link))) now ∷ []

-- the answer is
unfoldable pub stranding_by : (prepares answers : ℕ → ℕ) → (link past hops : ℕ) → (now : ℤ) → List Event
stranding_by p g link zero hops now = going_by p g link hops now
stranding_by p g link (suc past) zero now = Arrive link Client (suc (p link)) now ∷ []
stranding_by p g link (suc past) (suc more) now =
    Arrive link Client (suc (p link)) now ∷ stranding_by p g (suc link) past more now ++ Fault (suc link) Client (suc (p (suc link))) now ∷ []

abbrev pub following : Course → (prepares answers : ℕ → ℕ) → (hops : ℕ) → (now : ℤ) → List Event
following Arrives p g hops now = passing_by p g hops now
following (PrepareLost at) p g hops now = losing_by p 0 at hops now ++ Fault 0 Client (suc (p 0)) now ∷ []
following (AnswerLost at) p g hops now = stranding_by p g 0 at hops now ++ Fault 0 Client (suc (p 0)) now ∷ []

-- ---- a run: each Send, what becomes of it, and a read of each stream. All is written before the first

pub record FatedRound (limit hops : ℕ) (course : ℕ → Course) (count : ℕ) (w v : World) : Type 0 where
  pub iv : List ℕ
  pub now : ℤ
  pub sent : World
  pub passed : World
  pub lawful : IsEvent (Send Client iv now)
  pub goes : Step w (Send Client iv now) Sent sent
  pub passes : Met sent (following (course count) (puts_by course count) (gives_by hops course count) hops now) passed
  pub reads_each : Met passed (reads limit 0 65) v

-- `more` of them, after `count` others: one course for each Send, in order
abbrev pub FatedRounds : (limit hops : ℕ) → (course : ℕ → Course) → (count more : ℕ) → World → World → Type 0
FatedRounds limit hops course count zero w v = v ≡ w
FatedRounds limit hops course count (suc m) w v = (mid : World) × FatedRound limit hops course count w mid × FatedRounds limit hops course (suc count) m mid v

-- one of a list for each Send; later Sends arrive
abbrev pub course_at : List Course → (send : ℕ) → Course
course_at courses send = slice_index_or courses send Arrives

-- the fates of `more` Sends, after `count` others
abbrev pub fates_of : (course : ℕ → Course) → (count more : ℕ) → List losses.Fate
fates_of course count zero = []
fates_of course count (suc m) = fate_of (course count) ∷ fates_of course (suc count) m

-- what lost answers carried: what was credited there in each Send whose answer was lost
abbrev pub carried_in : Course → (before after : World) → ℕ
carried_in Arrives w v = 0
carried_in (PrepareLost at) w v = 0
carried_in (AnswerLost at) w v = (end_at v Server).receiving.credit - (end_at w Server).receiving.credit

abbrev pub carried_by : (limit hops : ℕ) (course : ℕ → Course) (count more : ℕ) (w v : World) → FatedRounds limit hops course count more w v → ℕ
carried_by limit hops course count zero w v run = 0
carried_by limit hops course count (suc m) w v run = carried_in (course count) w run.0 + carried_by limit hops course (suc count) m run.0 v run.2

-- from a world in which nothing has happened: the receive maxes, the streams with their money and input, and the Sends
pub record LossyRun (c : Chain) (input : ℕ → List ℕ) (money most : ℕ → ℕ) (streams limit : ℕ) (course : ℕ → Course) (sends : ℕ) (v : World) : Type 0 where
  pub allowed : World
  pub begun : World
  pub allows_each : Met (opening c) (allows most 0 65) allowed
  pub begins_each : BeginsEach input money streams allowed begun
  pub rounds : FatedRounds limit (length c.hops) course 0 sends begun v

-- ---- its premises

-- a stream's input is accepted whole before the first Send
abbrev pub IsShort : List ℕ → Type 0
IsShort bytes = length bytes ≤ 262144

pub record MayRunLossy (c : Chain) (input : ℕ → List ℕ) (money most : ℕ → ℕ) (streams limit : ℕ) (fates : List losses.Fate) : Type 0 where
  pub may_send : MaySend c.config
  pub input_fits : IsModest (lengths input)
  pub most_fits : IsModest most
  pub short : (k : ℕ) → IsShort (input k)
  pub lose : MayLose (lost_answers fates) c.config money most
  pub few : AreFew 0 fates
  pub few_hops : length c.hops ≤ 8
  pub room : AllByRecursion (HasRoomFor c.server c.config.packet_limit (all_of money + lost_answers fates * c.config.packet_limit)) c.hops
  pub packets : work_left (lengths input) (opening_client c input money streams).sending + losses.losses fates < c.config.packets
  pub reads : 32739 ≤ limit

-- ---- by lists: the bytes, the amount and the receive max of each stream that the client opens

pub record MayPlayLossy (c : Chain) (xs : List (List ℕ)) (ms rs : List ℕ) (fates : List losses.Fate) : Type 0 where
  pub may_send : MaySend c.config
  pub input_fits : sum (map length xs) < 2 ^ 63
  pub short : AllByRecursion IsShort xs
  pub most_fits : sum rs < 2 ^ 63
  pub each : (i : ℕ) → i < length xs → slice_index_or ms i 0 + lost_answers fates * min c.config.packet_limit (slice_index_or ms i 0) ≤ slice_index_or rs i 0
  pub all : sum ms + lost_answers fates * c.config.packet_limit < 2 ^ 63
  pub few : AreFew 0 fates
  pub few_hops : length c.hops ≤ 8
  pub room : AllByRecursion (HasRoomFor c.server c.config.packet_limit (sum ms + lost_answers fates * c.config.packet_limit)) c.hops
  pub packets : sends_needed c.config.packet_limit xs ms + losses.losses fates < c.config.packets
  pub numbers : c.config.packets < 2 ^ 64

-- as many receive maxes as inputs and amounts
abbrev pub are_lawful_lossy : List (List ℕ) → (ms rs : List ℕ) → Bool
are_lawful_lossy xs ms rs = are_lawful xs ms && nat_eq (length rs) (length xs)

-- a stream's bytes were all written and read, its end was reported, and its money credited, with at most `most` in addition
-- that lost answers carried
pub record HasAllLossy (bytes : List ℕ) (money most stream : ℕ) (w : World) : Type 0 where
  pub written : (log_at w Client stream).written ≡ bytes
  pub read : (log_at w Client stream).read ≡ bytes
  pub saw_end : (log_at w Client stream).saw_end ≡ true
  pub credited : money ≤ (incoming_at (end_at w Server).receiving stream).credited
  pub within : (incoming_at (end_at w Server).receiving stream).credited ≤ money + most

abbrev pub IsDeliveredLossy : (limit answers : ℕ) → List (List ℕ) → List ℕ → World → Type 0
IsDeliveredLossy limit answers xs ms w =
    (i : ℕ) → i < length xs → HasAllLossy (slice_index_or xs i []) (slice_index_or ms i 0) (answers * min limit (slice_index_or ms i 0)) (2 * i + 1) w
