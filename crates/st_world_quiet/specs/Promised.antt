-- What is promised of a whole run.
use Rattle.std.specs.Prelude.{◌≡◌, ℕ, ◌+◌, ◌<◌, ◌≤◌, ◌^◌, Bool, true, false, List, length, map, sum, Result, Err}
use Rattle.st_world_parts.specs.Sides.{Client, Server}
use Rattle.st_world_parts.specs.State.{World, end_at, direction_at}
use Rattle.st_world.specs.Runs.{Chain, opening}
use Rattle.st_world.specs.Left.{left_of}
use Rattle.st_world_quiet.specs.Plays.{IsDelivered, MayPlay, input_of, money_of, most_sends, sends_needed}
use Rattle.st_world_quiet.specs.declared.stop.Stop.{Stop}
use Rattle.st_world_quiet.specs.declared.stop.Stop.TheVariants.{NoMemory}
use Rattle.st_world_quiet.specs.Playing.{IsPlayed, Outcome}

-- the world could not record an event
abbrev pub is_unrecorded : {X : Type 0} → Result X Stop → Bool
is_unrecorded (Err NoMemory) = true
is_unrecorded r = false

-- the outcome's trace is that of a world to which a whole run led. All was delivered there, the server's credit is all
-- money, and the client sent this number of Prepares
pub record Delivers (xs : List (List ℕ)) (ms : List ℕ) (w : World) (q : Outcome) : Type 0 where
  pub world : World
  pub left : q.trace ≡ left_of world
  pub played : IsPlayed (input_of xs) (money_of ms) (length xs) (length w.nodes) q.sends w world
  pub delivered : IsDelivered xs ms world
  pub credit : (end_at world Server).receiving.credit ≡ sum ms
  pub sends : length (direction_at world 0 Client).prepares ≡ q.sends

-- ---- of a run from the opening of a chain that may play it, if no call ran out of memory

-- all is delivered
abbrev pub DeliversIfItMay : (xs : List (List ℕ)) (ms : List ℕ) → World → Outcome → Type 0
DeliversIfItMay xs ms w q = (c : Chain) → w ≡ opening c → MayPlay c xs ms → q.trace.refused ≡ false → Delivers xs ms w q

-- by fewer Sends than the bound
abbrev pub IsBoundedIfItMay : (xs : List (List ℕ)) (ms : List ℕ) → World → Outcome → Type 0
IsBoundedIfItMay xs ms w q =
    (c : Chain) → w ≡ opening c → MayPlay c xs ms → q.trace.refused ≡ false → q.sends + 1 ≤ most_sends c.config.packet_limit xs ms

-- and no more than are needed
abbrev pub IsNeededIfItMay : (xs : List (List ℕ)) (ms : List ℕ) → World → Outcome → Type 0
IsNeededIfItMay xs ms w q =
    (c : Chain) → w ≡ opening c → MayPlay c xs ms → q.trace.refused ≡ false → q.sends ≤ sends_needed c.config.packet_limit xs ms

-- this is more than are needed, whatever the packet limit
abbrev pub IsMoreThanNeeded : (xs : List (List ℕ)) (ms : List ℕ) → ℕ → Type 0
IsMoreThanNeeded xs ms most =
    (limit : ℕ) → 0 < limit → sum (map length xs) < 2 ^ 63 → sum ms < 2 ^ 63 → sends_needed limit xs ms < most
