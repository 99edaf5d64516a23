-- What can be read and written: which streams a reader may read next, and how many bytes a writer may pass.
use Rattle.std.specs.Prelude.{◌≡◌, ℕ, ◌≤◌, Bool, nat_lt, if◌then◌else◌, Result, Ok, Err}
use Rattle.std.specs.declared.option.Option.TheVariants.{None, Some}
use Rattle.st_sender.specs.Refusals.{write_refusal}
use Rattle.st_receiver.specs.Ready as receiver
use Rattle.st_streams.specs.declared.end_error.EndError.{EndError}
use Rattle.st_streams.specs.declared.end_error.EndError.TheVariants.{Full}
use Rattle.st_end.specs.State.{EndState}
use Rattle.st_end.specs.Calls.{refusal}

-- a read gives bytes, the end or an abort
abbrev pub is_ready : EndState → (stream : ℕ) → Bool
is_ready e k = receiver.is_ready e.receiving k

-- a write of m bytes is refused as full exactly if m is above n, and for nothing else
abbrev pub IsRoom : EndState → (stream n : ℕ) → Type 0
IsRoom e k n = (m : ℕ) → refusal e k (write_refusal e.sending k m) ≡ (if nat_lt n m then Some Full else None)

-- or a write of no bytes is refused
abbrev pub TellsRoom : EndState → (stream : ℕ) → Result ℕ EndError → Type 0
TellsRoom e k (Ok n) = IsRoom e k n × (n ≤ 262144)
TellsRoom e k (Err why) = refusal e k (write_refusal e.sending k 0) ≡ Some why
