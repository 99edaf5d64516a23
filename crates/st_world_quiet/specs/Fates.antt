-- A run that is played by a list of fates, one for each Send of the client, in order.
use Rattle.std.specs.Prelude.{◌≡◌, ℕ, zero, suc, ◌+◌, ◌-◌, ◌*◌, ◌^◌, ◌<◌, ◌≤◌, pos, false, List, map, min, length, slice_index_or, sum}
use Rattle.std.specs.List.{AllByRecursion}
use Rattle.st_hop.specs.declared.account.Account.{Account}
use Rattle.st_sender.specs.Sending.{Config}
use Rattle.st_end.specs.Sending.{GoesNone}
use Rattle.st_world_parts.specs.Sides.{Client, Server}
use Rattle.st_world_parts.specs.State.{World, end_at, direction_at}
use Rattle.st_world.specs.Runs.{Chain, opening}
use Rattle.st_world.specs.Left.{Left, left_of}
use Rattle.st_world_quiet.specs.Losses as losses
use Rattle.st_world_quiet.specs.Calls.{MaySend}
use Rattle.st_world_quiet.specs.Worlds.{Met}
use Rattle.st_world_quiet.specs.HopRounds.{BeginsEach, allows, reads}
use Rattle.st_world_quiet.specs.Plays.{input_of, money_of, most_sends, sends_needed}
use Rattle.st_world_quiet.specs.LostWorlds as worlds
use Rattle.st_world_quiet.specs.LostWorlds.{Course, FatedRound, IsDeliveredLossy, IsShort, MayPlayLossy, carried_in, course_at, fate_of}
use Rattle.st_world_quiet.specs.declared.fate.Fate.{Fate}
use Rattle.st_world_quiet.specs.declared.fate.Fate.TheVariants.{Delivered, PrepareLost, AnswerLost}
use Rattle.st_world_quiet.specs.Playing.{IsStuck, iv_of, read_limit}

-- what a run leaves, how many Prepares the client sent, and how much the lost answers carried
pub record LossyOutcome : Type 0 where
  pub trace : Left
  pub sends : ℕ
  pub carried : ℕ

abbrev pub course_of : Fate → Course
course_of Delivered = worlds.Arrives
course_of (PrepareLost link) = worlds.PrepareLost link
course_of (AnswerLost link) = worlds.AnswerLost link

abbrev pub courses_of : List Fate → List Course
courses_of fates = map course_of fates

-- the same, whatever the link
abbrev pub kinds_of : List Fate → List losses.Fate
kinds_of fates = map fate_of (courses_of fates)

abbrev pub lost_by : Fate → ℕ
lost_by Delivered = 0
lost_by (PrepareLost link) = 1
lost_by (AnswerLost link) = 1

abbrev pub all_lost : List Fate → ℕ
all_lost fates = sum (map lost_by fates)

-- by the credit before a Send and after it
abbrev pub carried_with : Fate → (before after : ℕ) → ℕ
carried_with Delivered before after = 0
carried_with (PrepareLost link) before after = 0
carried_with (AnswerLost link) before after = after - before

-- ---- rounds

-- a Send after `before` others and what becomes of it: it has the next number, and all of it is at moment 0
pub record NumberedFate (course : ℕ → Course) (hops before : ℕ) (w v : World) : Type 0 where
  pub round : FatedRound read_limit hops course before w v
  pub numbered : round.iv ≡ iv_of (suc before)
  pub at_start : round.now ≡ pos 0

-- `more` of them, after `before` others, and how much the lost answers carried
abbrev pub NumberedFates : (course : ℕ → Course) → (hops before more carried : ℕ) → World → World → Type 0
NumberedFates course hops before zero carried w v = (carried ≡ 0) × (v ≡ w)
NumberedFates course hops before (suc m) carried w v =
    (mid : World) × (rest : ℕ) × NumberedFate course hops before w mid
    × (carried ≡ carried_in (course before) w mid + rest) × NumberedFates course hops (suc before) m rest mid v

-- one, and how many Sends there were by then
pub record GoesOnFated (course : ℕ → Course) (hops before after carried : ℕ) (w v : World) : Type 0 where
  pub counted : after ≡ suc before
  pub round : NumberedFate course hops before w v
  pub carried_is : carried ≡ carried_in (course before) w v

-- `sends` of them; `told` is what the lost answers carried, if that is a number of 64 bits
pub record HasPlayed (course : ℕ → Course) (hops sends told : ℕ) (w v : World) : Type 0 where
  pub carried : ℕ
  pub rounds : NumberedFates course hops 0 sends carried w v
  pub is_told : carried < 18446744073709551616 → told ≡ carried

-- a whole run: the opening, one Send after the other until none goes, and a last read of each stream
pub record IsPlayedFated (input : ℕ → List ℕ) (money most : ℕ → ℕ) (course : ℕ → Course) (count hops sends told : ℕ) (w v : World) : Type 0 where
  pub allowed : World
  pub begun : World
  pub ended : World
  pub allows_each : Met w (allows most 0 65) allowed
  pub begins_each : BeginsEach input money count allowed begun
  pub played : HasPlayed course hops sends told begun ended
  pub none : GoesNone (end_at ended Client)
  pub reads_each : Met ended (reads read_limit 0 65) v

-- ---- why it ends before its end: there were `most` Sends

pub record IsEndlessFated (course : ℕ → Course) (hops most : ℕ) (w : World) : Type 0 where
  pub ended : World
  pub carried : ℕ
  pub rounds : NumberedFates course hops 0 most carried w ended

pub record IsStuckFated (input : ℕ → List ℕ) (money most : ℕ → ℕ) (count : ℕ) (w : World) : Type 0 where
  pub allowed : World
  pub allows_each : Met w (allows most 0 65) allowed
  pub stuck : IsStuck input money count allowed

pub record IsEndlessAfterFated (input : ℕ → List ℕ) (money most : ℕ → ℕ) (course : ℕ → Course) (count hops sends : ℕ) (w : World) : Type 0 where
  pub allowed : World
  pub begun : World
  pub allows_each : Met w (allows most 0 65) allowed
  pub begins_each : BeginsEach input money count allowed begun
  pub endless : IsEndlessFated course hops sends begun

-- ---- what is promised of it

-- the outcome's trace is that of a world to which a whole run by these fates led. All was delivered there, the server's
-- credit is all money and what the lost answers carried, and the client sent this number of Prepares
pub record DeliversFated (limit : ℕ) (xs : List (List ℕ)) (ms rs : List ℕ) (fates : List Fate) (w : World) (q : LossyOutcome) : Type 0 where
  pub world : World
  pub left : q.trace ≡ left_of world
  pub played : IsPlayedFated (input_of xs) (money_of ms) (money_of rs) (course_at (courses_of fates)) (length xs) (length w.nodes) q.sends q.carried w world
  pub delivered : IsDeliveredLossy limit (losses.lost_answers (kinds_of fates)) xs ms world
  pub credit : (end_at world Server).receiving.credit ≡ sum ms + q.carried
  pub sends : length (direction_at world 0 Client).prepares ≡ q.sends

-- ---- and from the opening of a chain that may play it, if no call ran out of memory

-- all is delivered
abbrev pub DeliversIfItMayLose : (xs : List (List ℕ)) (ms rs : List ℕ) → List Fate → World → LossyOutcome → Type 0
DeliversIfItMayLose xs ms rs fates w q =
    (c : Chain) → w ≡ opening c → MayPlayLossy c xs ms rs (kinds_of fates) → q.trace.refused ≡ false
    → DeliversFated c.config.packet_limit xs ms rs fates w q

-- by fewer Sends than the bound and one for each that is lost
abbrev pub IsBoundedIfItMayLose : (xs : List (List ℕ)) (ms rs : List ℕ) → List Fate → World → LossyOutcome → Type 0
IsBoundedIfItMayLose xs ms rs fates w q =
    (c : Chain) → w ≡ opening c → MayPlayLossy c xs ms rs (kinds_of fates) → q.trace.refused ≡ false
    → q.sends + 1 ≤ most_sends c.config.packet_limit xs ms + losses.losses (kinds_of fates)

-- and no more than are needed, and one for each that is lost
abbrev pub IsNeededIfItMayLose : (xs : List (List ℕ)) (ms rs : List ℕ) → List Fate → World → LossyOutcome → Type 0
IsNeededIfItMayLose xs ms rs fates w q =
    (c : Chain) → w ≡ opening c → MayPlayLossy c xs ms rs (kinds_of fates) → q.trace.refused ≡ false
    → q.sends ≤ sends_needed c.config.packet_limit xs ms + losses.losses (kinds_of fates)

-- this is more than are needed with those that are lost, whatever the packet limit
abbrev pub IsMoreThanLost : (xs : List (List ℕ)) (ms : List ℕ) → List Fate → ℕ → Type 0
IsMoreThanLost xs ms fates most =
    (limit : ℕ) → 0 < limit → sum (map length xs) < 2 ^ 63 → sum ms < 2 ^ 63
    → sends_needed limit xs ms + all_lost fates < 2 ^ 64 - 1
    → sends_needed limit xs ms + all_lost fates < most

-- ---- its premises for a chain that forwards amounts unchanged, by the accounts of its hops

pub record HasRoomToLose (accounts : List Account) (config : Config) (xs : List (List ℕ)) (ms rs : List ℕ) (fates : List losses.Fate) : Type 0 where
  pub may_send : MaySend config
  pub input_fits : sum (map length xs) < 2 ^ 63
  pub short : AllByRecursion IsShort xs
  pub most_fits : sum rs < 2 ^ 63
  pub each : (i : ℕ) → i < length xs
      → slice_index_or ms i 0 + losses.lost_answers fates * min config.packet_limit (slice_index_or ms i 0) ≤ slice_index_or rs i 0
  pub all : sum ms + losses.lost_answers fates * config.packet_limit < 2 ^ 63
  pub few : losses.AreFew 0 fates
  pub few_hops : length accounts ≤ 8
  pub room : AllByRecursion (λ (a : Account).
      (config.packet_limit ≤ a.max_packet) × (sum ms + losses.lost_answers fates * config.packet_limit ≤ a.limit)) accounts
  pub packets : sends_needed config.packet_limit xs ms + losses.losses fates < config.packets
  pub numbers : config.packets < 2 ^ 64
