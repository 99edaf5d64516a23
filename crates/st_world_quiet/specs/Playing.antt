-- What is played of a world: the events of a lossless run, and why they end before its end.
use Rattle.std.specs.Prelude.{◌≡◌, ⊤, ℕ, zero, suc, ◌<◌, ℤ, pos, Bool, true, false, List, ◌∷◌, map, is_ok, Ok}
use Rattle.std.specs.Int.{w64, to_be_bytes}
use Rattle.std.specs.Borrow.{Bor}
use Rattle.std.specs.declared.option.Option.{Option}
use Rattle.std.specs.declared.option.Option.TheVariants.{None, Some}
use Rattle.st_end.specs.Calls.{open_stream}
use Rattle.st_end.specs.Sending.{GoesNone}
use Rattle.st_world_parts.specs.Sides.{Client}
use Rattle.st_world_parts.specs.State.{World, end_at}
use Rattle.st_world_parts.specs.Events.{Event, IsEvent, Told, Opened, Send, Sent}
use Rattle.st_world.specs.Steps.{Step}
use Rattle.st_world.specs.Runs.{Run}
use Rattle.st_world.specs.Left.{Left}
use Rattle.st_world_quiet.specs.Worlds.{Met}
use Rattle.st_world_quiet.specs.HopRounds.{BeginsEach, Round, Writes, allows, reads}
use Rattle.st_world_quiet.specs.declared.stop.Stop.{Stop}
use Rattle.st_world_quiet.specs.declared.stop.Stop.TheVariants.{NoMemory, Refused, NoStream, Endless}

-- what a run leaves, and how many Prepares the client sent
pub record Outcome : Type 0 where
  pub trace : Left
  pub sends : ℕ

-- the bytes for each stream
abbrev pub bytes_of : List (Bor (List ℕ)) → List (List ℕ)
bytes_of xs = map (λ x. x.now) xs

-- how many bytes are read at once: more than one Prepare brings
abbrev pub read_limit : ℕ
read_limit = 65536

-- ---- what an event reported

-- it was met as it should be
abbrev pub Tells : Event → Told → World → World → Type 0
Tells event told w v = IsEvent event × Step w event told v

abbrev pub is_sent : Told → Bool
is_sent Sent = true
is_sent told = false

abbrev pub opened_in : Told → Option ℕ
opened_in (Opened (Ok k)) = Some k
opened_in told = None

-- the client can open no stream
abbrev pub OpensNone : World → Type 0
OpensNone w = is_ok (open_stream (end_at w Client)).0 ≡ false

-- ---- parts of a run

-- the IV of a Send: four bytes that are 0, then its number
abbrev pub iv_of : ℕ → List ℕ
iv_of n = 0 ∷ 0 ∷ 0 ∷ 0 ∷ to_be_bytes w64 n

-- a Prepare of the client goes, of this number
pub record Sends (number : ℕ) (now : ℤ) (w v : World) : Type 0 where
  pub lawful : IsEvent (Send Client (iv_of number) now)
  pub goes : Step w (Send Client (iv_of number) now) Sent v

-- none does
pub record SendsNone (w v : World) : Type 0 where
  pub none : GoesNone (end_at w Client)
  pub same : v ≡ w

-- a round after `before` Sends: its Send has the next number, and all of it is at moment 0
pub record NumberedRound (input : ℕ → List ℕ) (hops before : ℕ) (w v : World) : Type 0 where
  pub round : Round input read_limit hops before w v
  pub numbered : round.iv ≡ iv_of (suc before)
  pub at_start : round.now ≡ pos 0

-- `more` of them, after `before` others
abbrev pub NumberedRounds : (ℕ → List ℕ) → (hops before more : ℕ) → World → World → Type 0
NumberedRounds input hops before zero w v = v ≡ w
NumberedRounds input hops before (suc m) w v = (mid : World) × NumberedRound input hops before w mid × NumberedRounds input hops (suc before) m mid v

-- one, and how many Sends there were by then
pub record GoesOn (input : ℕ → List ℕ) (hops before after : ℕ) (w v : World) : Type 0 where
  pub counted : after ≡ suc before
  pub round : NumberedRound input hops before w v

-- or no Prepare was sent
pub record IsOver (before after : ℕ) (w v : World) : Type 0 where
  pub counted : after ≡ before
  pub none : SendsNone w v

-- each stream that may be open is written on
unfoldable pub WritesAll : (input : ℕ → List ℕ) → World → World → Type 0
WritesAll input w v = Writes input 0 65 w v

-- a whole run: the opening, rounds until no Prepare is sent, and a last read of each stream
pub record IsPlayed (input : ℕ → List ℕ) (money : ℕ → ℕ) (count hops sends : ℕ) (w v : World) : Type 0 where
  pub allowed : World
  pub begun : World
  pub ended : World
  pub allows_each : Met w (allows money 0 65) allowed
  pub begins_each : BeginsEach input money count allowed begun
  pub rounds : NumberedRounds input hops 0 sends begun ended
  pub none : GoesNone (end_at ended Client)
  pub reads_each : Met ended (reads read_limit 0 65) v

-- ---- why it ends before its end

-- some events lead from one world to the other
abbrev pub Continues : World → World → Type 0
Continues w v = (events : List Event) × Run w events v

-- memory for the world's own record was refused; a call ran out of memory, which the world notes; or what holds if no stream
-- could be opened, or if there were too many rounds
abbrev pub Why : (stuck endless : Type 0) → Stop → World → Type 0
Why stuck endless NoMemory v = ⊤
Why stuck endless Refused v = v.refused ≡ true
Why stuck endless NoStream v = stuck
Why stuck endless Endless v = endless

pub record Stops (stuck endless : Type 0) (e : Stop) (w v : World) : Type 0 where
  pub goes_on : Continues w v
  pub why : Why stuck endless e v

-- fewer streams than these were opened, and then no other could be
pub record IsStuck (input : ℕ → List ℕ) (money : ℕ → ℕ) (count : ℕ) (w : World) : Type 0 where
  pub opened : ℕ
  pub fewer : opened < count
  pub begun : World
  pub begins_each : BeginsEach input money opened w begun
  pub none : OpensNone begun

-- there were `most` rounds
pub record IsEndless (input : ℕ → List ℕ) (hops most : ℕ) (w : World) : Type 0 where
  pub ended : World
  pub rounds : NumberedRounds input hops 0 most w ended

-- of the whole run
pub record IsStuckAfter (input : ℕ → List ℕ) (money : ℕ → ℕ) (count : ℕ) (w : World) : Type 0 where
  pub allowed : World
  pub allows_each : Met w (allows money 0 65) allowed
  pub stuck : IsStuck input money count allowed

pub record IsEndlessAfter (input : ℕ → List ℕ) (money : ℕ → ℕ) (count hops most : ℕ) (w : World) : Type 0 where
  pub allowed : World
  pub begun : World
  pub allows_each : Met w (allows money 0 65) allowed
  pub begins_each : BeginsEach input money count allowed begun
  pub endless : IsEndless input hops most begun
