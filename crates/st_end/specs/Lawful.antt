-- What holds of every end that is reached.
use Rattle.std.specs.Prelude.{◌≡◌, ℕ, ◌<◌, true, length, is_some}
use Rattle.std.specs.FinMap.{get}
use Rattle.st_oer.specs.Address.{is_address}
use Rattle.st_streams.specs.Numbers.{IsStreamNumber}
use Rattle.st_sender.specs.Flights.{flight_at}
use Rattle.st_receiver.specs.Streams.{is_open}
use Rattle.st_end.specs.State.{EndState}
use Rattle.st_end.specs.Calls.{has_stream}

pub record IsLawful (e : EndState) : Type 0 where
  pub own : is_address e.own ≡ true
  pub peer : is_address e.peer ≡ true
  -- a condition is kept of what is in flight
  pub kept : (n : ℕ) → is_some (get e.conditions n) ≡ true → is_some (flight_at e.sending.flights n) ≡ true
  -- a stream is open for receiving exactly if it is open for sending, and both sides have equally many places
  pub both : (k : ℕ) → is_open e.receiving k ≡ has_stream e k
  pub places : length e.receiving.streams ≡ length e.sending.streams
  -- a stream that is open has a number from 1 to 64
  pub numbers : (k : ℕ) → has_stream e k ≡ true → IsStreamNumber k
  -- this end's own numbers are odd, or they are even
  pub parity : e.receiving.parity < 2
