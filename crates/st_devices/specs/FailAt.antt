-- A device of which the call of one number fails, and each other call goes through.
use Rattle.std.specs.Prelude.{◌≡◌, ◌+◌, ℕ, Result, IsErrAnd}
use Rattle.std.specs.IoError.{error_kind}
use Rattle.std.specs.declared.io.Error.{Error}
use Rattle.std.specs.declared.io.ErrorKind.TheVariants.{Other}
use Rattle.st_devices.specs.declared.counted.Counting.{Counting}
use Rattle.st_devices.specs.declared.fail_at.FailAt.{FailAt}
use Rattle.st_devices.specs.declared.tally.Tally.{Tally}

-- the inner device, whose tally has the calls that went through
abbrev pub device_behind : {T : Type 0} → FailAt T → Counting T
device_behind f = f.device

-- how all of its calls ended, the one that failed among them
abbrev pub tally_in_all : {T : Type 0} → FailAt T → Tally
tally_in_all f = f.tally

-- which call fails, counted from 1
abbrev pub failing_call : {T : Type 0} → FailAt T → ℕ
failing_call f = f.fails_at

-- the next call is the one that fails
abbrev pub IsDue : {T : Type 0} → FailAt T → Type 0
IsDue f = f.tally.calls + 1 ≡ f.fails_at

-- the call failed, and the inner device was not called
abbrev pub FailsAlone : {T A : Type 0} → FailAt T → FailAt T → Result A Error → Type 0
FailsAlone old new answer = IsErrAnd answer (λ e. error_kind e ≡ Other) × (device_behind new ≡ device_behind old)
