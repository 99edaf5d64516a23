-- How `local` ends that writes its totals to a file.
use Rattle.std.specs.Prelude.{◌≡◌, ℕ, Bool, true, false, List, [], ◌∷◌, ◌++◌, codes, decimal, Option, Some, None, IfSome, Result, Ok, Err, if◌then◌else◌}
use Rattle.std.specs.Io.KnownBytes.{Appends}
use Rattle.ilpstream_output.specs.declared.error.Fault.{Fault}
use Rattle.ilpstream_local.specs.declared.fault.LocalFault.{LocalFault}
use Rattle.ilpstream_local.specs.declared.sends.LocalSends.{LocalSends}
use Rattle.ilpstream_local.specs.Endings.{ComesBefore, Explains, GoesOver}
use Rattle.ilpstream_output.specs.Endings.{WritesPart}
use Rattle.ilpstream_local.specs.Sends.{is_past}
use Rattle.ilpstream_settings.specs.declared.settings.LocalSettings.{LocalSettings}
use Rattle.ilpstream_local.specs.Errors as local
use Rattle.ilpstream_net.specs.Errors as errors
use Rattle.ilpstream_net.specs.declared.error.RunError.TheVariants as run
use Rattle.ilpstream_main.specs.declared.error.LocalError.{LocalError}
use Rattle.ilpstream_main.specs.declared.error.LocalError.TheVariants as ended

-- the numbers by which its errors are known
abbrev pub fault_number : LocalError → ℕ
fault_number (ended.Run e) = errors.number e
fault_number (ended.Local e) = local.fault_number e
fault_number ended.PastBound = 126

-- the line of the bound: `bound 12` and a newline, or no line if there is no bound
abbrev pub bound_text : Option ℕ → List ℕ
bound_text None = []
bound_text (Some most) = codes "bound " ++ decimal most ++ 10 ∷ []

-- `sends 12`, `lost 3` and the bound, each with a newline
abbrev pub sends_text : LocalSends → List ℕ
sends_text q = (codes "sends " ++ decimal q.sent ++ codes "\nlost " ++ decimal q.lost ++ 10 ∷ []) ++ bound_text q.bound

-- how a run ends, by the result of writing its numbers
abbrev pub written : Result (Unit {0}) Fault → Result (Unit {0}) LocalError
written (Ok x) = Ok x
written (Err fault) = Err (ended.Run (run.Fault fault))

-- how a run ends that transferred all of its input, by its numbers and by the result of writing them
abbrev pub ended_within : LocalSends → Result (Unit {0}) Fault → Result (Unit {0}) LocalError
ended_within q told = if is_past q.sent q.bound then Err ended.PastBound else written told

-- all of the input was transferred, and `told` has the numbers of its Prepares
pub record IsOver (asked : LocalSettings) (input before now : Option (List ℕ)) (past : Bool) : Type 0 where
  pub whole : IfSome input (λ bytes. Appends before now bytes)
  pub told : LocalSends
  pub over : GoesOver asked input told
  pub is_past : is_past told.sent told.bound ≡ past

-- how it ends: `untouched` says that nothing was read and written, and `unwritten` that nothing was written
pub record EndsLocal (asked : LocalSettings) (input before now : Option (List ℕ)) (untouched unwritten : Type 0)
    (end : Result (Unit {0}) LocalError) : Type 0 where
  pub unopened : end ≡ Err (ended.Run run.BadOption) → untouched
  pub done : end ≡ Ok tt → IsOver asked input before now false
  pub past : end ≡ Err ended.PastBound → IsOver asked input before now true
  pub refused : (x : LocalFault) → end ≡ Err (ended.Local x) → Explains asked input x × (ComesBefore x → unwritten)
  pub part : IfSome input (λ bytes. WritesPart bytes before now)
