-- A link by HTTP.
use Rattle.std.specs.Prelude.{◌≡◌, ℕ, ◌-◌, ◌*◌, ◌/◌, ◌<◌, ◌≤◌, nat_le, ℤ, pos, min, Bool, false, ◌||◌, if◌then◌else◌, List, Option, Some, None}
use Rattle.std.specs.Duration.{as_nanos}
use Rattle.std.specs.Ordering.{int_eq}
use Rattle.std.specs.declared.time.Duration.{Duration}
use Rattle.std.specs.declared.io.ErrorKind.{ErrorKind}
use Rattle.std.specs.declared.io.ErrorKind.TheVariants.{ConnectionRefused, TimedOut}
use Rattle.st_links.specs.declared.link.LinkFault.{LinkFault}
use Rattle.st_links.specs.declared.link.LinkFault.TheVariants.{Device, Peer, NoMemory}
use Rattle.st_http.specs.declared.error.HttpError.{HttpError}
use Rattle.st_http.specs.declared.error.HttpError.TheVariants as http
use Rattle.ilpstream_serving.specs.declared.cause.LinkCause.{LinkCause}
use Rattle.ilpstream_serving.specs.declared.cause.LinkCause.TheVariants as cause
use Rattle.ilpstream_serving.specs.declared.cause.Unreached.{Unreached}
use Rattle.ilpstream_serving.specs.declared.cause.Unreached.TheVariants as unreached

-- the host at which a neighbour is reached, and the token that it knows this side by
pub record HostAndToken : Type 0 where
  pub host : List ℕ
  pub token : List ℕ

-- a failed read or write is the device's fault; whatever else gives no answer is the neighbour's
abbrev pub fault_of : HttpError → LinkFault
fault_of http.ReadFault = Device
fault_of (http.WriteFault sent) = Device
fault_of http.NoMemory = NoMemory
fault_of e = Peer

-- which fault a cause is
abbrev pub caused_fault : LinkCause → LinkFault
caused_fault (cause.Unreached why) = Peer
caused_fault cause.NoMemory = NoMemory
caused_fault (cause.Http e) = fault_of e

-- the status of a response that is not 200
abbrev pub status_of : LinkCause → Option ℕ
status_of (cause.Http (http.Status status)) = Some status
status_of e = None

-- how long an exchange may take that begins at one time and has to be done by a moment: until then, and 30 seconds at most; none if it
-- has passed
abbrev pub IsTimeUntil : (now : Duration) → (by : ℤ) → Option Duration → Type 0
IsTimeUntil now by None = (ms : ℕ) × (by ≡ pos ms) × (ms * 1_000_000 < as_nanos now)
IsTimeUntil now by (Some left) =
    (ms : ℕ) × (by ≡ pos ms) × (as_nanos now ≤ ms * 1_000_000) × (as_nanos left ≡ min (30 * 1_000_000_000) (ms * 1_000_000 - as_nanos now))

-- Linux's numbers for no free file descriptor, in the process (EMFILE) and on the machine (ENFILE)
abbrev pub is_out_of_descriptors : (code : Option ℤ) → Bool
is_out_of_descriptors None = false
is_out_of_descriptors (Some code) = int_eq code (pos 24) || int_eq code (pos 23)

-- why no connection was made, by the kind of an error that is not a lack of descriptors
abbrev pub unreached_for : ErrorKind → Unreached
unreached_for ConnectionRefused = unreached.Refused
unreached_for TimedOut = unreached.Timeout
unreached_for kind = unreached.Other

-- the same by the system's number of the error, if it has one, and its kind
abbrev pub unreached_by : (code : Option ℤ) → ErrorKind → Unreached
unreached_by code kind = if is_out_of_descriptors code then unreached.Descriptors else unreached_for kind

-- how many nanoseconds one address of a host may take, of those that are left, if it is the first of `addresses` that are not tried yet:
-- the last all of them, each other its share, and 3 seconds at most
abbrev pub share : (left addresses : ℕ) → ℕ
share left addresses = if nat_le addresses 1 then left else min (3 * 1_000_000_000) (left / addresses)
