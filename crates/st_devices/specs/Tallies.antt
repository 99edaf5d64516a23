-- What a wrapped device's tally says of its calls.
use Rattle.std.specs.Prelude.{◌≡◌, ◌≢◌, ℕ, ◌-◌, ◌≤◌, true, Result, MatchResult}
use Rattle.std.specs.IoError.{error_kind}
use Rattle.std.specs.declared.io.Error.{Error}
use Rattle.std.specs.declared.io.ErrorKind.TheVariants.{Interrupted}
use Rattle.st_devices.specs.Faults.{count_after}
use Rattle.st_devices.specs.declared.counted.Counting.{Counting}
use Rattle.st_devices.specs.declared.tally.Tally.{Tally}

-- the device that is wrapped
abbrev pub device_of : {T : Type 0} → Counting T → T
device_of c = c.inner

-- how its calls ended so far
abbrev pub tally_of : {T : Type 0} → Counting T → Tally
tally_of c = c.tally

-- no call yet
abbrev pub no_calls : Tally
no_calls = record { calls = 0; faults = 0; interruptions = 0; flushed = true }

-- one call more, which was done: whether all is flushed then, each kind of call says for itself
pub record Completes (old new : Tally) : Type 0 where
  pub calls : new.calls ≡ count_after 1 old.calls
  pub faults : new.faults ≡ old.faults
  pub interruptions : new.interruptions ≡ old.interruptions

-- one call more, which is to be made again
pub record Interrupts (old new : Tally) : Type 0 where
  pub calls : new.calls ≡ count_after 1 old.calls
  pub faults : new.faults ≡ old.faults
  pub interruptions : new.interruptions ≡ count_after 1 old.interruptions
  pub flushed : new.flushed ≡ old.flushed

-- one call more, which failed
pub record Fails (old new : Tally) : Type 0 where
  pub calls : new.calls ≡ count_after 1 old.calls
  pub faults : new.faults ≡ count_after 1 old.faults
  pub interruptions : new.interruptions ≡ old.interruptions
  pub flushed : new.flushed ≡ old.flushed

-- the tally has one call more, with this answer
abbrev pub CountsCall : {T : Type 0} → Tally → Tally → Result T Error → Type 0
CountsCall old new answer = MatchResult answer (λ _. Completes old new) (λ e. ((error_kind e ≡ Interrupted) → Interrupts old new) × ((error_kind e ≢ Interrupted) → Fails old new))

-- the number of calls that are left fell by the number of calls that were made
pub record TakesTurns (old new : Tally) (before after : ℕ) : Type 0 where
  pub fewer : after ≤ before
  pub calls : new.calls ≡ count_after (before - after) old.calls
