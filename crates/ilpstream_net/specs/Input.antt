-- What was read of an input.
use Rattle.std.specs.Prelude.{◌≡◌, ℕ, Bool, true, List, ◌++◌, Option, ⊤}
use Rattle.std.specs.Io.KnownBytes.{Consumes, IsAtEnd}
use Rattle.st_devices.specs.Faults.{count_after}
use Rattle.st_devices.specs.declared.tally.Tally.{Tally}
use Rattle.ilpstream_output.specs.Endings.{most_turns}
use Rattle.ilpstream_output.specs.declared.error.Fault.{Fault}
use Rattle.ilpstream_output.specs.declared.error.Fault.TheVariants as fault

-- further bytes were read, and appended to the old ones. If `ended`, the input is at its end. `before` and `after` are the
-- bytes that the input still has, before the read and after it
pub record ReadsOn (before after : Option (List ℕ)) (old new : List ℕ) (ended : Bool) : Type 0 where
  pub piece : List ℕ
  pub grown : new ≡ old ++ piece
  pub taken : Consumes before after piece
  pub at_end : ended ≡ true → IsAtEnd after

-- why an input was not read whole, by what its reader counted: it failed, or was read as often as may be; or memory was refused
abbrev pub FailsToRead : Fault → (r s : Tally) → Type 0
FailsToRead fault.Input r s = s.faults ≡ count_after 1 r.faults
FailsToRead fault.Output r s = ⊥
FailsToRead fault.Turns r s = s.calls ≡ count_after most_turns r.calls
FailsToRead fault.NoMemory r s = ⊤
