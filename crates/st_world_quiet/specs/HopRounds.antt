-- A lossless run in a world of st_world, by its events: the opening, and per round a Send, its passing, reads and writes.
use Rattle.std.specs.Prelude.{◌≡◌, ℕ, zero, suc, ◌+◌, ◌-◌, ◌<◌, ◌≤◌, Bool, ℤ, List, [], ◌∷◌, length, map, take, drop, sum, nat_eq, if◌then◌else◌, Ok}
use Rattle.std.specs.List.{AllByRecursion, range_with_len}
use Rattle.st_keys.specs.Keys.{keys_of}
use Rattle.st_end.specs.declared.role.Role.TheVariants as roles
use Rattle.st_end.specs.State.{EndState, new_end}
use Rattle.st_world_parts.specs.Sides.{Client, Server}
use Rattle.st_world_parts.specs.State.{World, log_at}
use Rattle.st_world_parts.specs.StreamLogs.{StreamLog}
use Rattle.st_world_parts.specs.Events.{Close, Event, IsEvent, Offer, OpenStream, Opened, Read, ReceiveMax, Send, Sent, Write}
use Rattle.st_world.specs.Steps.{Step}
use Rattle.st_world.specs.Runs.{Chain, Table, new_node, opening}
use Rattle.st_world_quiet.specs.Left.{work_left}
use Rattle.st_world_quiet.specs.Exchanges.{IsModest}
use Rattle.st_world_quiet.specs.Calls.{MaySend, begin_each, lengths}
use Rattle.st_world_quiet.specs.Calm.{LeadsOn}
use Rattle.st_world_quiet.specs.Worlds.{Met, passing}

-- a read of each stream at the server, of at most `limit` bytes
unfoldable pub reads : (limit first count : ℕ) → List Event
reads limit first zero = []
reads limit first (suc m) = Read Server first limit ∷ reads limit (first + 1) m

-- as much of the rest of a stream's input as fits, by what was written and read of it so far
abbrev pub fits : List ℕ → StreamLog → List ℕ
fits xs l = take (length l.read + 262144 - length l.written) (drop (length l.written) xs)

-- a write of it, and a close if that is its end
abbrev pub close_if : Bool → (stream : ℕ) → List Event
close_if b k = if b then Close Client k ∷ [] else []

abbrev pub writes : List ℕ → (stream : ℕ) → StreamLog → List Event
writes xs k l = Write Client k (fits xs l) ∷ close_if (nat_eq (length l.written + length (fits xs l)) (length xs)) k

-- of each stream at the client
abbrev pub Writes : (input : ℕ → List ℕ) → (first count : ℕ) → World → World → Type 0
Writes input first zero w v = v ≡ w
Writes input first (suc m) w v = (mid : World) × Met w (writes (input first) first (log_at w Client first)) mid × Writes input (first + 1) m mid v

-- a Prepare that crosses `hops` hops, all at one moment
pub record Round (input : ℕ → List ℕ) (limit hops count : ℕ) (w v : World) : Type 0 where
  pub iv : List ℕ
  pub now : ℤ
  pub sent : World
  pub passed : World
  pub read : World
  pub lawful : IsEvent (Send Client iv now)
  pub goes : Step w (Send Client iv now) Sent sent
  pub passes : Met sent (passing hops (suc count) now) passed
  pub reads_each : Met passed (reads limit 0 65) read
  pub writes_each : Writes input 0 65 read v

-- `more` of them, after `count` others
abbrev pub Rounds : (ℕ → List ℕ) → (limit hops count more : ℕ) → World → World → Type 0
Rounds input limit hops count zero w v = v ≡ w
Rounds input limit hops count (suc m) w v = (mid : World) × Round input limit hops count w mid × Rounds input limit hops (suc count) m mid v

-- ---- the opening

-- the server accepts this money on each stream that may be opened
unfoldable pub allows : (money : ℕ → ℕ) → (first count : ℕ) → List Event
allows money first zero = []
allows money first (suc m) = ReceiveMax Server first (money first) ∷ allows money (first + 1) m

-- the client opens a stream, which gets its money and its input
pub record Begins (input : ℕ → List ℕ) (money : ℕ → ℕ) (w v : World) : Type 0 where
  pub stream : ℕ
  pub opened : World
  pub offered : World
  pub opens : Step w (OpenStream Client) (Opened (Ok stream)) opened
  pub offers : Met opened (Offer Client stream (money stream) ∷ []) offered
  pub writes_first : Met offered (writes (input stream) stream (log_at offered Client stream)) v

-- `count` of them
abbrev pub BeginsEach : (ℕ → List ℕ) → (ℕ → ℕ) → (count : ℕ) → World → World → Type 0
BeginsEach input money zero w v = v ≡ w
BeginsEach input money (suc m) w v = (mid : World) × Begins input money w mid × BeginsEach input money m mid v

-- a run of a chain from a world in which nothing has happened, of `more` rounds
pub record QuietRun (c : Chain) (input : ℕ → List ℕ) (money : ℕ → ℕ) (count limit more : ℕ) (v : World) : Type 0 where
  pub allowed : World
  pub begun : World
  pub allows_each : Met (opening c) (allows money 0 65) allowed
  pub begins_each : BeginsEach input money count allowed begun
  pub rounds : Rounds input limit (length c.hops) 0 more begun v

-- ---- its premises

-- a hop's table has a route to an address that leads on, and room for so much, in Prepares of at most so much
pub record HasRoomFor (destination : List ℕ) (most left : ℕ) (t : Table) : Type 0 where
  pub leads : LeadsOn (new_node t).state destination
  pub max_packet : most ≤ t.client.max_packet
  pub limit : left ≤ t.client.limit

abbrev pub all_of : (money : ℕ → ℕ) → ℕ
all_of money = sum (map money (range_with_len 0 65))

-- the client as it opens
abbrev pub opening_client : Chain → (input : ℕ → List ℕ) → (money : ℕ → ℕ) → (count : ℕ) → EndState
opening_client c input money count = begin_each input money count (new_end roles.Client (keys_of c.secret) c.client c.server c.config)

pub record MayRun (c : Chain) (input : ℕ → List ℕ) (money : ℕ → ℕ) (count limit : ℕ) : Type 0 where
  pub may_send : MaySend c.config
  pub input_fits : IsModest (lengths input)
  pub money_fits : IsModest money
  pub few_hops : length c.hops ≤ 8
  pub room : AllByRecursion (HasRoomFor c.server c.config.packet_limit (all_of money)) c.hops
  pub packets : work_left (lengths input) (opening_client c input money count).sending < c.config.packets
  pub reads : 32739 ≤ limit
