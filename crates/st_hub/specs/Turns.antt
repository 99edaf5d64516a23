-- A `Turn`: a Prepare that is sent, and its answer.
use Rattle.std.specs.Prelude.{◌≡◌, ℕ, ◌+◌, ℤ, List, Option, nat_eq, if◌then◌else◌, Result, Ok, Err}
use Rattle.st_ilp.specs.Moments.{IsMoment}
use Rattle.st_ilp.specs.Packets.{PreparePacket}
use Rattle.st_ilp.specs.Spelling.{prepare_text}
use Rattle.st_ilp.specs.Laws.{IsPrepare}
use Rattle.st_streams.specs.declared.blocked.Blocked.{Blocked}
use Rattle.st_end.specs.declared.flight.Open.{Open}
use Rattle.st_end.specs.State.{EndState}
use Rattle.st_end.specs.Receiving.{Received, received}
use Rattle.st_links.specs.declared.link.LinkFault.{LinkFault}
use Rattle.st_links.specs.declared.link.LinkFault.TheVariants.{NoMemory}

pub record Sent : Type 0 where
  pub iv : List ℕ  -- under which its packet is sealed
  pub flight : Open
  pub bytes : List ℕ  -- of the Prepare
  pub stops : Option Blocked  -- the limit of the peer that its Blocked frame reports, if it carries one

-- the bytes spell a Prepare with this expiry (RFC 0027)
pub record ExpiresAt (bytes : List ℕ) (millis : ℤ) : Type 0 where
  pub prepare : PreparePacket
  pub lawful : IsPrepare prepare
  pub spelled : bytes ≡ prepare_text prepare
  pub expiry : prepare.expiry ≡ millis

-- the moment is the expiry of the Prepare that the bytes spell, if that is a moment
abbrev pub IsExpiryOf : (bytes : List ℕ) → (moment : ℤ) → Type 0
IsExpiryOf bytes moment = (millis : ℤ) × ExpiresAt bytes millis × (IsMoment millis → moment ≡ millis)

-- what a Prepare credited: its amount if it was fulfilled, otherwise nothing
abbrev pub credited_by : Received → ℕ
credited_by r = if nat_eq r.reason 0 then r.amount else 0

-- the result of an exchange over a link to a hub: an end answered the bytes at some moment, and what it credited was booked
-- with a share; or there was no memory for that, and nothing was booked
abbrev pub AnswersOver : (booked : ℕ) → (bytes : List ℕ) → Result (List ℕ) LinkFault → (after : ℕ) → Type 0
AnswersOver booked bytes (Ok answer) after =
    (a b : EndState) × (now : ℤ) × (r : Received) × (received a bytes now ≡ (r, b)) × (answer ≡ r.bytes) × (after ≡ booked + credited_by r)
AnswersOver booked bytes (Err fault) after = (fault ≡ NoMemory) × (after ≡ booked)
