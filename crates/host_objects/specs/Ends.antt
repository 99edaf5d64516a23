-- What a call on an end's flights and bytes leaves.
use Rattle.std.specs.Prelude.{◌≡◌, ℕ, true, List, [], Option, Some, Result, Ok, Err, slice_get, ◌++◌, ◌∷◌, ℤ, Bool, MatchOption}
use Rattle.std.specs.List.{remove}
use Rattle.st_receiver.specs.Reading as reading
use Rattle.st_streams.specs.declared.end_error.EndError.{EndError}
use Rattle.st_end.specs.declared.flight.Open.{Open}
use Rattle.st_end.specs.State.{EndState}
use Rattle.st_end.specs.Receiving as receiving
use Rattle.st_end.specs.Sending.{is_open, Goes, GoesNone}
use Rattle.st_end.specs.Answers.{ended, pays}
use Rattle.host_objects.specs.declared.end.Answered.{Answered}
use Rattle.host_objects.specs.declared.end.Piece.{Piece}
use Rattle.host_objects.specs.declared.end.Piece.TheVariants as piece
use Rattle.host_objects.specs.declared.end.HostEnd.{HostEnd}

-- no flight was given out, and there is no output
pub record IsNewEnd (e : EndState) (h : HostEnd) : Type 0 where
  pub state_is : h.state ≡ e
  pub flights_are : h.flights.items ≡ []
  pub output_is : h.output.items ≡ []

-- a refusal leaves the end, its flights and its output; there may be room for one flight more
pub record IsSameEnd (old new : HostEnd) : Type 0 where
  pub state_is : new.state ≡ old.state
  pub flights_are : new.flights.items ≡ old.flights.items
  pub output_is : new.output ≡ old.output

-- a flight of this number that is not spent
pub record IsFlight (e : EndState) (kept : List Open) (number : ℕ) (place : ℕ) (flight : Open) : Type 0 where
  pub stands : slice_get kept place ≡ Some flight
  pub named : flight.sequence ≡ number
  pub open_is : is_open e flight ≡ true

-- none has this number
abbrev pub HasNoFlight : EndState → List Open → (number : ℕ) → Type 0
HasNoFlight e kept number = (place : ℕ) (flight : Open) → ¬ IsFlight e kept number place flight

-- one flight of this number ends by an answer's bytes, or by a fault if there was none, and the others are kept
pub record IsSpent (old new : HostEnd) (number : ℕ) (back : Option (List ℕ)) (flight : Open) : Type 0 where
  pub place : ℕ
  pub flight_is : IsFlight old.state old.flights.items number place flight
  pub state_is : new.state ≡ ended old.state flight back
  pub left_is : new.flights.items ≡ remove old.flights.items place
  pub output_is : new.output ≡ old.output

-- what an end did with bytes that came, in the terms of st_end
abbrev pub answered_seen : List ℕ → Answered → receiving.Received
answered_seen bytes a = record { bytes = bytes; reason = a.reason; amount = a.amount; sequence = a.sequence }

-- what a read gave
abbrev pub got_with : List ℕ → Piece → reading.Got
got_with bytes piece.Bytes = reading.Bytes bytes
got_with bytes piece.Nothing = reading.Nothing
got_with bytes piece.End = reading.End
got_with bytes (piece.Aborted code) = reading.Aborted code

abbrev pub piece_seen : List ℕ → Result Piece EndError → Result reading.Got EndError
piece_seen bytes (Ok p) = Ok (got_with bytes p)
piece_seen bytes (Err why) = Err why

-- if a read returns no bytes, the earlier output stays
abbrev pub IfNoBytes : Piece → Type 0 → Type 0
IfNoBytes piece.Bytes P = Unit {0}
IfNoBytes other P = P

-- no flight of this number is open, and nothing changes
abbrev pub FindsNoFlight : (number : ℕ) (old new : HostEnd) → Type 0
FindsNoFlight number old new = HasNoFlight old.state old.flights.items number × (new ≡ old)

-- a Prepare is output, and its flight is kept after the others; or nothing is to be sent, and all stays
abbrev pub SendsKept : (iv : List ℕ) (now : ℤ) (old new : HostEnd) → Option ℕ → Type 0
SendsKept iv now old new sent = MatchOption sent (GoesNone old.state × IsSameEnd old new)
    (λ number. (f : Open) × ((f.sequence ≡ number)
    × (Goes old.state iv now f new.output.items new.state × (new.flights.items ≡ old.flights.items ++ f ∷ []))))

-- the flight of this number ends by an answer, and whether it pays is said; or there is none
abbrev pub TakesAnswer : (number : ℕ) (bytes : List ℕ) (old new : HostEnd) → Option Bool → Type 0
TakesAnswer number bytes old new taken = MatchOption taken (FindsNoFlight number old new)
    (λ pays_out. (f : Open) × (IsSpent old new number (Some bytes) f × (pays_out ≡ pays f (Some bytes))))
