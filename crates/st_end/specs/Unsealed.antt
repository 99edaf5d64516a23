-- A Prepare whose packet is chosen and not sealed yet: what sealing makes of it, and the end that waits for its condition.
use Rattle.std.specs.Prelude.{◌≡◌, ℕ, ◌+◌, ℤ, Bool, true, false, List, ◌++◌, take, drop}
use Rattle.std.specs.FinMap.{get, insert}
use Rattle.st_keys.specs.Keys.{DerivedKeys, fulfillment, condition}
use Rattle.st_keys.specs.Sealed.{sealed}
use Rattle.st_end.specs.declared.flight.Open.{Open}
use Rattle.st_end.specs.State.{EndState}
use Rattle.st_end.specs.Sending.{Goes, is_kept, with_condition}

-- ---- what sealing gives

-- a flight, and the amount and the bytes of its Prepare
pub record Launched : Type 0 where
  pub flight : Open
  pub amount : ℕ
  pub bytes : List ℕ

-- those of a payload: the front of its Prepare ends before the condition, and the middle is between condition and payload
abbrev pub launched_with : DerivedKeys → (sequence amount : ℕ) → (front middle payload : List ℕ) → Launched
launched_with keys sequence amount front middle payload = record {
  flight = record { sequence = sequence; condition = condition (fulfillment keys payload) };
  amount = amount;
  bytes = front ++ (condition (fulfillment keys payload) ++ (middle ++ payload));
}

-- those of a Prepare with a plain payload, whose condition and whose payload begin at these places. The payload has 28 bytes of room and
-- then a text, which is sealed under this IV. The condition is that of the sealed payload
unfoldable pub launched : DerivedKeys → (iv : List ℕ) → (sequence amount : ℕ) → (bytes : List ℕ) → (condition_at payload_at : ℕ) → Launched
launched keys iv sequence amount bytes c p =
    launched_with keys sequence amount (take c bytes) (drop (c + 32) (take p bytes)) (sealed keys iv (drop 28 (drop p bytes)))

-- ---- the end until then

-- a flight with this IV at this moment, the bytes of its Prepare, and the end after it. Until the flight's condition is known, the end keeps
-- the IV in the condition's place
pub record GoesUnsealed (e : EndState) (iv : List ℕ) (now : ℤ) (flight : Open) (bytes : List ℕ) (after : EndState) : Type 0 where
  pub goes : Goes e iv now flight bytes (with_condition after flight after.sending)
  pub booked : after ≡ record e { sending = after.sending; conditions = insert e.conditions flight.sequence iv }

-- the end once the condition of a flight is known: it is kept if what was kept is this IV
abbrev pub known_if : Bool → EndState → Open → EndState
known_if true e flight = with_condition e flight e.sending
known_if false e flight = e

abbrev pub known : EndState → (iv : List ℕ) → Open → EndState
known e iv flight = known_if (is_kept iv (get e.conditions flight.sequence)) e flight
