-- How many bytes a write of a stream may have.
use Rattle.std.specs.Prelude.{◌≡◌, ℕ, ◌≤◌, nat_lt, if◌then◌else◌, Result, Ok, Err}
use Rattle.std.specs.declared.option.Option.{Option}
use Rattle.std.specs.declared.option.Option.TheVariants.{None, Some}
use Rattle.st_sender.specs.declared.error.OutboxError.{OutboxError}
use Rattle.st_sender.specs.declared.error.OutboxError.TheVariants.{Full}
use Rattle.st_sender.specs.Sending.{Outgoing}
use Rattle.st_sender.specs.Refusals.{refusal_at, is_closed, full}

-- a write of m bytes is refused as full exactly if m is above n, and for nothing else
abbrev pub IsRoom : Option Outgoing → (all n : ℕ) → Type 0
IsRoom o all n = (m : ℕ) → refusal_at o is_closed (full all m) ≡ (if nat_lt n m then Some Full else None)

-- or a write of no bytes is refused
abbrev pub TellsRoom : Option Outgoing → (all : ℕ) → Result ℕ OutboxError → Type 0
TellsRoom o all (Ok n) = IsRoom o all n × (n ≤ 262144)
TellsRoom o all (Err why) = refusal_at o is_closed (full all 0) ≡ Some why
