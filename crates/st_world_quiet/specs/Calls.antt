-- The calls by which two ends open a lossless run, and by which the input is written on.
use Rattle.std.specs.Prelude.{◌≡◌, ℕ, zero, suc, ◌+◌, ◌-◌, ◌<◌, ◌≤◌, Bool, true, false, List, length, take, drop, nat_eq, if◌then◌else◌, Result, Ok, Err}
use Rattle.std.specs.declared.option.Option.{Option}
use Rattle.std.specs.declared.option.Option.TheVariants.{None, Some}
use Rattle.st_oer.specs.Ratios.{ratio}
use Rattle.st_sender.specs.Sending.{Config, Outgoing, Sending, outgoing_at}
use Rattle.st_streams.specs.declared.end_error.EndError.{EndError}
use Rattle.st_end.specs.declared.role.Role.{Role}
use Rattle.st_end.specs.declared.role.Role.TheVariants.{Client, Server}
use Rattle.st_end.specs.State.{EndState}
use Rattle.st_end.specs.Calls.{close, offer, open_stream, set_receive_max, write}
use Rattle.st_end.specs.Reading.{read}
use Rattle.st_world_quiet.specs.Quiet.{IsRow}
use Rattle.st_world_quiet.specs.Exchanges.{IsModest}

-- how many bytes each stream's input has
abbrev pub lengths : (input : ℕ → List ℕ) → ℕ → ℕ
lengths input k = length (input k)

-- as much of the rest of an input as fits
abbrev pub fitting : List ℕ → Outgoing → List ℕ
fitting xs x = take (x.acked_end + 262144 - x.accepted) (drop x.accepted xs)

abbrev pub closed_if : Bool → EndState → ℕ → EndState
closed_if b e k = if b then (close e k).1 else e

abbrev pub written_at : List ℕ → EndState → ℕ → Option Outgoing → EndState
written_at xs e k None = e
written_at xs e k (Some x) = closed_if (nat_eq (x.accepted + length (fitting xs x)) (length xs)) (write e k (fitting xs x)).1 k

-- a write of what fits, and a close if that was the end
abbrev pub written_on : List ℕ → EndState → ℕ → EndState
written_on xs e k = written_at xs e k (outgoing_at e.sending k)

unfoldable pub write_each : (input : ℕ → List ℕ) → (first count : ℕ) → EndState → EndState
write_each input first zero e = e
write_each input first (suc m) e = write_each input (first + 1) m (written_on (input first) e first)

-- a stream of n bytes that was written no further than fits, and closed at the end alone
pub record IsHeldBack (n : ℕ) (x : Outgoing) : Type 0 where
  pub kept : x.accepted ≤ x.acked_end + 262144
  pub ended : x.clean ≡ true → x.accepted ≡ n

abbrev pub AreHeldBack : (ℕ → ℕ) → Sending → Type 0
AreHeldBack n s = (k : ℕ) (x : Outgoing) → outgoing_at s k ≡ Some x → IsHeldBack (n k) x

-- so that it can be written on
pub record IsFed (n : ℕ) (x : Outgoing) : Type 0 where
  pub row : IsRow x
  pub alive : x.abort ≡ None
  pub total : x.accepted ≤ n
  pub held_back : IsHeldBack n x

-- nothing refuses a call that fits
pub record CanWrite (n : ℕ → ℕ) (e : EndState) : Type 0 where
  pub alive : e.sending.failed ≡ false
  pub unclosed : e.receiving.closed ≡ false
  pub slots : length e.sending.streams ≡ 65
  pub modest : IsModest n
  pub streams : (k : ℕ) (x : Outgoing) → outgoing_at e.sending k ≡ Some x → IsFed (n k) x

-- a read of each open stream, of at most `limit` bytes
unfoldable pub take_each : (limit first count : ℕ) → EndState → EndState
take_each limit first zero e = e
take_each limit first (suc m) e = take_each limit (first + 1) m (read e first limit).1

-- ---- the opening

-- a stream that opened gets its money and its input
abbrev pub begun : (input : ℕ → List ℕ) → (money : ℕ → ℕ) → Result ℕ EndError × EndState → EndState
begun input money (Ok k, e) = written_on (input k) (offer e k (money k)).1 k
begun input money (Err why, e) = e

-- `count` streams
unfoldable pub begin_each : (input : ℕ → List ℕ) → (money : ℕ → ℕ) → (count : ℕ) → EndState → EndState
begin_each input money zero e = e
begin_each input money (suc m) e = begin_each input money m (begun input money (open_stream e))

-- the other end accepts this money on each stream that may be opened there
unfoldable pub allow_each : (money : ℕ → ℕ) → (first count : ℕ) → EndState → EndState
allow_each money first zero e = e
allow_each money first (suc m) e = allow_each money (first + 1) m (set_receive_max e first (money first)).1

abbrev pub other : Role → Role
other Client = Server
other Server = Client

-- it may send, and all that it sends should arrive
pub record MaySend (config : Config) : Type 0 where
  pub in_flight : 0 < config.in_flight
  pub packets : 0 < config.packets
  pub pays : 0 < config.packet_limit
  pub whole : config.least ≡ ratio 1 1
