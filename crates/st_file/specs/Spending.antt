-- Calls of a device and of a sink or a source, counted down from one number.
use Rattle.std.specs.Prelude.{◌≡◌, ℕ, ◌+◌, ◌-◌, ◌≤◌, Option, Result, IfErr}
use Rattle.st_devices.specs.Faults.{count_after}
use Rattle.st_devices.specs.declared.tally.Tally.{Tally}
use Rattle.st_file.specs.Sinks.{calls_after}
use Rattle.st_file.specs.Errors.{IsTurns}
use Rattle.st_file.specs.declared.error.FileError.{FileError}

-- each call of a sink or source counts the number down by one, and nothing else does
pub record TakesAsks (old new : Option ℕ) (before after : ℕ) : Type 0 where
  pub fewer : after ≤ before
  pub calls : new ≡ calls_after (before - after) old

-- the same of a device and of a sink or source together
pub record Spends (old new : Tally) (asked_old asked_new : Option ℕ) (before after : ℕ) : Type 0 where
  pub device : ℕ
  pub asked : ℕ
  pub sum : device + asked + after ≡ before
  pub device_calls : new.calls ≡ count_after device old.calls
  pub asked_calls : asked_new ≡ calls_after asked asked_old

-- there were at most `turns` calls, and exactly that number if the result says that they were used up
abbrev pub SpendsTurns : {T : Type 0} → Result T FileError → Tally → Tally → Option ℕ → Option ℕ → ℕ → Type 0
SpendsTurns result old new asked_old asked_new turns =
    (left : ℕ) × Spends old new asked_old asked_new turns left × IfErr result (λ e. IsTurns e → left ≡ 0)
