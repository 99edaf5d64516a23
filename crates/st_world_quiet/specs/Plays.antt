-- A lossless run by its arguments: bytes and an amount for each stream that the client opens.
use Rattle.std.specs.Prelude.{◌≡◌, ℕ, ◌+◌, ◌-◌, ◌*◌, ◌/◌, ◌%◌, ◌^◌, ◌<◌, ◌≤◌, Bool, true, ◌&&◌, List, [], length, map, max, sum, nat_eq, nat_le, slice_index_or, if◌then◌else◌}
use Rattle.std.specs.List.{AllByRecursion}
use Rattle.st_receiver.specs.Streams.{incoming_at}
use Rattle.st_world_parts.specs.Sides.{Client, Server}
use Rattle.st_world_parts.specs.State.{World, end_at, log_at}
use Rattle.st_world.specs.Runs.{Chain}
use Rattle.st_world_quiet.specs.Calls.{MaySend}
use Rattle.st_world_quiet.specs.HopRounds.{HasRoomFor}

-- the client's streams are 1, 3, 5 and on: each of these lists has one entry for each
abbrev pub at_stream : {A : Type 0} → List A → A → (stream : ℕ) → A
at_stream xs none k = if nat_eq (k % 2) 1 then slice_index_or xs (k / 2) none else none

abbrev pub input_of : List (List ℕ) → ℕ → List ℕ
input_of xs k = at_stream xs [] k

abbrev pub money_of : List ℕ → ℕ → ℕ
money_of ms k = at_stream ms 0 k

-- as many of one as of the other, for 1 to 32 streams
abbrev pub are_lawful : List (List ℕ) → List ℕ → Bool
are_lawful xs ms = nat_eq (length xs) (length ms) && nat_le 1 (length xs) && nat_le (length xs) 32

-- ---- how many Sends it has

-- frames of 16,000 bytes
abbrev pub frames_for : List ℕ → ℕ
frames_for xs = (length xs + 15999) / 16000

abbrev pub all_frames : List (List ℕ) → ℕ
all_frames xs = sum (map frames_for xs)

-- Prepares of at most so much
abbrev pub prepares_for : (limit money : ℕ) → ℕ
prepares_for limit money = (money + limit - 1) / limit

abbrev pub most_sends : (limit : ℕ) → List (List ℕ) → List ℕ → ℕ
most_sends limit xs ms = all_frames xs + prepares_for limit (sum ms) + 2 * length xs + 2

-- a packet carries data and money together, and closes are sent afterwards
abbrev pub sends_needed : (limit : ℕ) → List (List ℕ) → List ℕ → ℕ
sends_needed limit xs ms = max (all_frames xs) (prepares_for limit (sum ms)) + length xs

-- ---- its premises

pub record MayPlay (c : Chain) (xs : List (List ℕ)) (ms : List ℕ) : Type 0 where
  pub may_send : MaySend c.config
  pub input_fits : sum (map length xs) < 2 ^ 63
  pub money_fits : sum ms < 2 ^ 63
  pub few_hops : length c.hops ≤ 8
  pub room : AllByRecursion (HasRoomFor c.server c.config.packet_limit (sum ms)) c.hops
  pub packets : sends_needed c.config.packet_limit xs ms < c.config.packets

-- ---- what it leaves

-- a stream's bytes were all written and read, its end was reported, and its money credited
pub record HasAll (bytes : List ℕ) (money stream : ℕ) (w : World) : Type 0 where
  pub written : (log_at w Client stream).written ≡ bytes
  pub read : (log_at w Client stream).read ≡ bytes
  pub saw_end : (log_at w Client stream).saw_end ≡ true
  pub credited : (incoming_at (end_at w Server).receiving stream).credited ≡ money

abbrev pub IsDelivered : List (List ℕ) → List ℕ → World → Type 0
IsDelivered xs ms w = (i : ℕ) → i < length xs → HasAll (slice_index_or xs i []) (slice_index_or ms i 0) (2 * i + 1) w
