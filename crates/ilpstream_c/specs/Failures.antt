-- What a host reads of a Prepare that failed.
use Rattle.std.specs.Prelude.{◌≡◌, ℕ, List, [], ◌∷◌, length, take}
use Rattle.std.specs.declared.option.Option.{Option}
use Rattle.std.specs.declared.option.Option.TheVariants.{None, Some}
use Rattle.st_end.specs.declared.failed.FailedKind.{FailedKind}
use Rattle.st_end.specs.declared.failed.FailedKind.TheVariants.{Lost, Unreadable, Unfit, Rejected}
use Rattle.st_end.specs.Failed.{Failed}
use Rattle.st_end.specs.Failures.{kind_of, code_of, by_of, message_of}
use Rattle.host_objects.specs.Codes.{done, idle}
use Rattle.host_objects.specs.declared.end.HostEnd.{HostEnd}
use Rattle.ilpstream_c.specs.declared.end_reports.HostFailure.{HostFailure}

abbrev pub kind_number : FailedKind → ℕ
kind_number Lost = 1
kind_number Unreadable = 2
kind_number Unfit = 3
kind_number Rejected = 4

-- a code, or zeros if there is none
abbrev pub code_or_zeros : Option (List ℕ) → List ℕ
code_or_zeros None = 0 ∷ 0 ∷ 0 ∷ []
code_or_zeros (Some code) = code

-- each text is at the front of its array
pub record IsFailure (failed : Failed) (told : HostFailure) : Type 0 where
  pub kind : told.kind ≡ kind_number (kind_of failed)
  pub code : told.code ≡ code_or_zeros (code_of failed)
  pub by_len : told.by_len ≡ length (by_of failed)
  pub by : take told.by_len told.by ≡ by_of failed
  pub message_len : told.message_len ≡ length (message_of failed)
  pub message : take told.message_len told.message ≡ message_of failed

abbrev pub SaysCause : (last : Option Failed) → (code : ℕ) → HostFailure → Type 0
SaysCause None code told = code ≡ idle
SaysCause (Some failed) code told = (code ≡ done) × IsFailure failed told

-- a question changes nothing
abbrev pub SaysFailure : (old new : HostEnd) → (code : ℕ) → HostFailure → Type 0
SaysFailure old new code told = (new ≡ old) × SaysCause old.state.last code told
