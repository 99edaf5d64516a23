-- What a worker reports of an exchange that brought no Fulfill.
use Rattle.std.specs.Prelude.{ℕ, Bool, true, false, List}
use Rattle.std.specs.declared.option.Option.{Option}
use Rattle.std.specs.declared.option.Option.TheVariants.{None, Some}
use Rattle.st_end.specs.declared.flight.Open.{Open}
use Rattle.st_end.specs.State.{EndState}
use Rattle.st_end.specs.Failed.{Failed}
use Rattle.st_end.specs.Answers.{failure, ended}
use Rattle.st_end.specs.Sending.{is_open}

-- the cause, and the packet limit that it left
pub record Cause : Type 0 where
  pub failed : Failed
  pub limit : ℕ

-- of an exchange that failed for this, or did not
abbrev pub cause_with : (limit : ℕ) → Option Failed → Option Cause
cause_with limit None = None
cause_with limit (Some failed) = Some (record { failed = failed; limit = limit })

-- only a `Turn` that is open fails
abbrev pub cause_if : Bool → EndState → Open → (outcome : Option (List ℕ)) → Option Cause
cause_if true e flight outcome = cause_with (ended e flight outcome).sending.packet_limit (failure flight outcome)
cause_if false e flight outcome = None

-- what is reported when a `Turn` ends with this outcome
abbrev pub cause_of : EndState → Open → (outcome : Option (List ℕ)) → Option Cause
cause_of e flight outcome = cause_if (is_open e flight) e flight outcome

-- an end after a `Turn` with this outcome: only one that is open changes it
abbrev pub end_if : Bool → EndState → Open → (outcome : Option (List ℕ)) → EndState
end_if true e flight outcome = ended e flight outcome
end_if false e flight outcome = e

abbrev pub end_after : EndState → Open → (outcome : Option (List ℕ)) → EndState
end_after e flight outcome = end_if (is_open e flight) e flight outcome
