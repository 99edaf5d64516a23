-- What is played: a world from its opening on, and what each event leaves of what was written at the client.
use Rattle.std.specs.Prelude.{◌≡◌, ◌≢◌, ◌⊎◌, ⊤, ℕ, ◌-◌, ◌%◌, ◌^◌, ◌<◌, ◌≤◌, Bool, true, false, ◌&&◌, nat_lt, nat_eq, List, [], ◌++◌, length, map, replicate, All}
use Rattle.st_sender.specs.Sending.{Config}
use Rattle.st_sender.specs.Configs.{config}
use Rattle.ilpstream_settings.specs.declared.settings.LocalSettings.{LocalSettings}
use Rattle.st_world_parts.specs.Sides.{Side, Client, Server}
use Rattle.st_world_parts.specs.State.{World, end_at, log_at}
use Rattle.st_world_parts.specs.Events.{Event, Write, Arrive, Fault}
use Rattle.st_world.specs.Runs.{Chain, Run, opening}
use Rattle.st_world.specs.Chains.{chain_of, one_to_one, free_account}
use Rattle.ilpstream_local.specs.declared.fault.LocalFault.{LocalFault}
use Rattle.ilpstream_local.specs.declared.fault.LocalFault.TheVariants as fault
use Rattle.ilpstream_local.specs.Parts.{part_size, part_at, stream_at, sent_of}

-- how many events there are at most
abbrev pub most_events : ℕ
most_events = 1_000_000

-- one Prepare at a time, at most the number that a connection may send, of amounts without a limit
abbrev pub local_config : Config
local_config = config 1 (2 ^ 31 - 1) (2 ^ 63 - 1)

-- a chain of `hops` hops whose limits are not reached
abbrev pub local_chain : (hops : ℕ) → Chain
local_chain hops = chain_of (map one_to_one (replicate hops free_account)) local_config

-- ---- which Prepares are lost

-- of the client's Prepares, counted from 1, each whose number this one divides; 0 for none
abbrev pub is_lost : Side → (lose number : ℕ) → Bool
is_lost Client lose number = nat_lt 0 lose && nat_eq (number % lose) 0
is_lost Server lose number = false

abbrev pub IsLost : (lose number : ℕ) → Type 0
IsLost lose number = is_lost Client lose number ≡ true

-- no lost Prepare is delivered over the client's link, and no other Prepare is lost
abbrev pub Fits : (lose : ℕ) → Event → Type 0
Fits lose (Arrive link way which now) = link ≡ 0 → way ≡ Client → IsLost lose which → ⊥
Fits lose (Fault link way which now) = (link ≡ 0) × (way ≡ Client) × IsLost lose which
Fits lose event = ⊤

-- ---- what is played

-- a world that a run of this number of events reaches, over a chain of as many hops and with such losses as are asked for
pub record Plays (asked : LocalSettings) (events : ℕ) (w : World) : Type 0 where
  pub list : List Event
  pub count : length list ≡ events
  pub losses : All (Fits asked.lose) list
  pub run : Run (opening (local_chain asked.hops)) list w

pub record Played : Type 0 where
  pub world : World
  pub asked : LocalSettings
  pub events : ℕ  -- how many there were

-- the connection failed at an end
abbrev pub HasFailed : World → Type 0
HasFailed w = ((end_at w Client).sending.failed ≡ true) ⊎ ((end_at w Server).sending.failed ≡ true)

-- why it stops
abbrev pub StopsPlay : Played → LocalFault → Type 0
StopsPlay p fault.Events = (p.events ≡ most_events) × Plays p.asked p.events p.world
StopsPlay p fault.NoMemory = ⊤
StopsPlay p e = ⊥

-- ---- what was written at the client and read at the server

abbrev pub written_on : World → (stream : ℕ) → List ℕ
written_on w k = (log_at w Client k).written

abbrev pub read_on : World → (stream : ℕ) → List ℕ
read_on w k = (log_at w Client k).read

-- nothing is written at the client
abbrev pub IsAside : Event → Type 0
IsAside (Write Client k xs) = ⊥
IsAside event = ⊤

-- events by which nothing is written at the client
pub record Continues (old new : Played) : Type 0 where
  pub asked : new.asked ≡ old.asked
  pub events : old.events ≤ new.events
  pub written : (k : ℕ) → written_on new.world k ≡ written_on old.world k

-- an event by which these bytes are
pub record Writes (k : ℕ) (xs : List ℕ) (old new : Played) : Type 0 where
  pub asked : new.asked ≡ old.asked
  pub events : old.events ≤ new.events
  pub here : written_on new.world k ≡ written_on old.world k ++ xs
  pub apart : (j : ℕ) → j ≢ k → written_on new.world j ≡ written_on old.world j

-- the first `sent` bytes of the input are written, each part on its stream, and nothing else is
pub record HasSent (size : ℕ) (input : List ℕ) (sent : ℕ) (w : World) : Type 0 where
  pub parts : (place : ℕ) → written_on w (stream_at place) ≡ sent_of size input sent place
  pub apart : (k : ℕ) → ((place : ℕ) → k ≢ stream_at place) → written_on w k ≡ []

-- events by which the bytes of the input are written up to there, if they were up to here
pub record Sends (size : ℕ) (input : List ℕ) (here there : ℕ) (old new : Played) : Type 0 where
  pub asked : new.asked ≡ old.asked
  pub events : old.events ≤ new.events
  pub sent : HasSent size input here old.world → HasSent size input there new.world

-- of each of these streams all that was written was read
abbrev pub IsAllRead : (streams : ℕ) → World → Type 0
IsAllRead streams w = (place : ℕ) → place < streams → read_on w (stream_at place) ≡ written_on w (stream_at place)

-- ---- what was asked for

-- a run as it is asked for, by which some first of these bytes are written, each part on its stream
pub record Carries (asked : LocalSettings) (bytes : List ℕ) (events : ℕ) (w : World) : Type 0 where
  pub run : Plays asked events w
  pub sent : ℕ
  pub written : HasSent (part_size (length bytes) asked.streams) bytes sent w

-- each part of them is read
abbrev pub AreRead : (asked : LocalSettings) → List ℕ → World → Type 0
AreRead asked bytes w = (place : ℕ) → place < asked.streams → read_on w (stream_at place) ≡ part_at (part_size (length bytes) asked.streams) bytes place
