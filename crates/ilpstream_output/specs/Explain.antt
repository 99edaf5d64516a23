-- What the command `explain` prints, and how it ends.
use Rattle.std.specs.Prelude.{◌≡◌, ◌⊎◌, ℕ, List, Option, Some, None, codes}
use Rattle.std.specs.Io.KnownBytes.{Appends}
use Rattle.st_devices.specs.Tallies.{device_of}
use Rattle.st_devices.specs.declared.counted.Counting.{Counting}
use Rattle.ilpstream_output.specs.declared.error.Fault.{Fault}
use Rattle.ilpstream_output.specs.Endings.{Says, TellsFault, WritesPart}
use Rattle.ilpstream_output.specs.Explaining.{explanation}

-- what is written for a number that `explain` does not know
abbrev pub no_fault_text : List ℕ
no_fault_text = codes "error: no fault and no refusal has this number\n"

-- a text was written whole, w the writer before and v now; or the first bytes of it, all of them or fewer, and a fault was
-- reported to the writer for errors, e before and f now
abbrev pub WritesText : {W E : Type 0} → List ℕ → (W → Option (List ℕ)) → (E → Option (List ℕ)) → (Option Fault → Type 0)
    → Counting W → Counting W → Counting E → Counting E → ℕ → Type 0
WritesText text contents said ended w v e f status =
    ((status ≡ 0) × Appends (contents (device_of w)) (contents (device_of v)) text × ended None × (f ≡ e))
    ⊎ ((x : Fault) × WritesPart text (contents (device_of w)) (contents (device_of v)) × ended (Some x) × TellsFault x said e f status)

-- the text of a number was written, if it has one. Otherwise it was reported that it has none, and nothing was written to the
-- output
abbrev pub ExplainsBy : {W E : Type 0} → Option (List ℕ) → (W → Option (List ℕ)) → (E → Option (List ℕ)) → (Option Fault → Type 0)
    → Counting W → Counting W → Counting E → Counting E → ℕ → Type 0
ExplainsBy None contents said ended w v e f status = (status ≡ 2) × (v ≡ w) × Says no_fault_text said e f
ExplainsBy (Some text) contents said ended w v e f status = WritesText text contents said ended w v e f status

-- the same of this number
abbrev pub Explains : {W E : Type 0} → ℕ → (W → Option (List ℕ)) → (E → Option (List ℕ)) → (Option Fault → Type 0)
    → Counting W → Counting W → Counting E → Counting E → ℕ → Type 0
Explains n contents said ended w v e f status = ExplainsBy (explanation n) contents said ended w v e f status
