-- What the program answers, and how a command ended.
use Rattle.std.specs.Prelude.{◌≡◌, ◌⊎◌, ℕ, List, MatchOption, Option, Some, None, Result, Ok, Err}
use Rattle.clap.specs.Words.{Kinds}
use Rattle.st_devices.specs.Tallies.{device_of, tally_of}
use Rattle.st_devices.specs.declared.counted.Counting.{Counting}
use Rattle.ilpstream_output.specs.declared.error.Fault.{Fault}
use Rattle.ilpstream_output.specs.declared.error.Fault.TheVariants as fault
use Rattle.ilpstream_frames.specs.Endings.{RunsFrames}
use Rattle.ilpstream_output.specs.Endings.{Says, TellsFault}
use Rattle.ilpstream_output.specs.Errors.{fault_number}
use Rattle.ilpstream_output.specs.Texts.{fault_text}
use Rattle.ilpstream_local.specs.Endings as local
use Rattle.ilpstream_settings.specs.declared.settings.LocalSettings.{LocalSettings}
use Rattle.ilpstream_words.specs.declared.request.Request.{Request}
use Rattle.ilpstream_words.specs.declared.request.Request.TheVariants as request
use Rattle.ilpstream_net.specs.declared.error.RunError.{RunError}
use Rattle.ilpstream_net.specs.declared.error.RunError.TheVariants as run
use Rattle.ilpstream_main.specs.declared.error.LocalError.{LocalError}
use Rattle.ilpstream_net.specs.Errors.{number}
use Rattle.ilpstream_net.specs.Ledger.{EndsLedger}
use Rattle.ilpstream_main.specs.Local as ends
use Rattle.ilpstream_main.specs.Local.{EndsLocal}
use Rattle.ilpstream_output.specs.Explain.{Explains}
use Rattle.ilpstream_main.specs.Transfers.{EndsReceive, EndsSend}
use Rattle.ilpstream_main.specs.Words.{MayRefuse, MayShow}
use Rattle.ilpstream_net.specs.Table.{EndsConnector}

-- no memory for the arguments: nothing was written but the fault
abbrev pub LacksMemory : {W E : Type 0} → W → W → (E → Option (List ℕ)) → Counting E → Counting E → ℕ → Type 0
LacksMemory w v said e f status = (v ≡ w) × TellsFault fault.NoMemory said e f status

-- clap's answer was written: a mistake in the arguments to the writer for errors, e at the start and f now, help or the version
-- to the other, w and v
abbrev pub TellsAnswer : {W E : Type 0} → Kinds → (Option Fault → Type 0) → (E → Option (List ℕ)) → W → W → Counting E → Counting E → ℕ → Type 0
TellsAnswer kinds ended said w v e f status = ((status ≡ 2) × MayRefuse kinds × (v ≡ w))
    ⊎ ((status ≡ 0) × MayShow kinds × ended None × (f ≡ e))
    ⊎ (MayShow kinds × ((x : Fault) × ended (Some x) × TellsFault x said e f status))
    ⊎ LacksMemory w v said e f status

-- the status of a fault, after the line of this number was written, or that of fault 99 if there was no memory for the line
abbrev pub TellsNumber : {E : Type 0} → ℕ → (E → Option (List ℕ)) → Counting E → Counting E → ℕ → Type 0
TellsNumber n said e f status = (status ≡ 1) × (Says (fault_text n) said e f ⊎ Says (fault_text 99) said e f)

-- how the end of a command is reported: not at all if its work was done, and otherwise by the number of its error
abbrev pub TellsEnd : {T E : Type 0} → Result T RunError → (E → Option (List ℕ)) → Counting E → Counting E → ℕ → Type 0
TellsEnd (Ok x) said e f status = (status ≡ 0) × (f ≡ e)
TellsEnd (Err x) said e f status = TellsNumber (number x) said e f status

-- the same of `local` with a file for its totals
abbrev pub TellsLocal : {T E : Type 0} → Result T LocalError → (E → Option (List ℕ)) → Counting E → Counting E → ℕ → Type 0
TellsLocal (Ok x) said e f status = (status ≡ 0) × (f ≡ e)
TellsLocal (Err x) said e f status = TellsNumber (ends.fault_number x) said e f status

-- a command of one end ended, and that was reported. If an option was bad, its stream was not touched
abbrev pub Ends : {E : Type 0} → (untouched : Type 0) → (ends : Result (Unit {0}) RunError → Type 0) → (E → Option (List ℕ))
    → Counting E → Counting E → ℕ → Type 0
Ends untouched ends said e f status = (end : Result (Unit {0}) RunError) × (end ≡ Err run.BadOption → untouched) × ends end × TellsEnd end said e f status

-- `local` with a file for its totals ended so, r and w the reader and the writer at the start, s and v now
abbrev pub EndsLocalOver : {R W : Type 0} → LocalSettings → (R → Option (List ℕ)) → (W → Option (List ℕ)) → Counting R → Counting R
    → Counting W → Counting W → Result (Unit {0}) LocalError → Type 0
EndsLocalOver asked remaining contents r s w v end =
    EndsLocal asked (remaining (device_of r)) (contents (device_of w)) (contents (device_of v)) ((s ≡ r) × (v ≡ w)) (v ≡ w) end

-- what was asked for was done: r, w and e are the reader, the writer and the writer for errors at the start, s, v and f now
abbrev pub Does : {R W E : Type 0} → Request → (R → Option (List ℕ)) → (W → Option (List ℕ)) → (E → Option (List ℕ)) → (Option Fault → Type 0)
    → Counting R → Counting R → Counting W → Counting W → Counting E → Counting E → ℕ → Type 0
Does request.Frames remaining contents said ended r s w v e f status =
    RunsFrames (remaining (device_of r)) (contents (device_of w)) (contents (device_of v)) ended said e f status
Does (request.Local x) remaining contents said ended r s w v e f status = MatchOption x.totals
    (local.RunsLocal x.settings (remaining (device_of r)) (contents (device_of w)) (contents (device_of v))
    (local.HasEnded (tally_of r) (tally_of s) (tally_of w) (tally_of v)) said e f status)
    (λ name. (end : Result (Unit {0}) LocalError) × EndsLocalOver x.settings remaining contents r s w v end × TellsLocal end said e f status)
Does (request.Send x) remaining contents said ended r s w v e f status = (v ≡ w) × Ends (s ≡ r) (EndsSend x) said e f status
Does (request.Receive x) remaining contents said ended r s w v e f status =
    (s ≡ r) × Ends (v ≡ w) (EndsReceive x (contents (device_of w)) (contents (device_of v))) said e f status
Does (request.Connector x) remaining contents said ended r s w v e f status =
    (v ≡ w) × ((end : Result (Unit {0}) RunError) × EndsConnector x remaining r s end × TellsEnd end said e f status)
Does (request.Ledger x) remaining contents said ended r s w v e f status =
    (s ≡ r) × ((end : Result (Unit {0}) RunError) × EndsLedger contents x.payment w v end × TellsEnd end said e f status)
Does (request.Explain n) remaining contents said ended r s w v e f status = (s ≡ r) × Explains n contents said ended w v e f status

-- a command that needs a closed stream reads and writes nothing and reports that; any other is done
abbrev pub DoesUnless : {R W E : Type 0} → (missing : Option Fault) → Request → (R → Option (List ℕ)) → (W → Option (List ℕ))
    → (E → Option (List ℕ)) → (Option Fault → Type 0) → Counting R → Counting R → Counting W → Counting W → Counting E → Counting E → ℕ → Type 0
DoesUnless None q remaining contents said ended r s w v e f status = Does q remaining contents said ended r s w v e f status
DoesUnless (Some x) q remaining contents said ended r s w v e f status = (s ≡ r) × (v ≡ w) × TellsNumber (fault_number x) said e f status

-- the text of an option was reported as bad, or that there was no memory for this report; nothing else was done
abbrev pub TellsBadOption : {R W E : Type 0} → R → R → W → W → (E → Option (List ℕ)) → Counting E → Counting E → ℕ → Type 0
TellsBadOption r s w v said e f status = (s ≡ r) × (v ≡ w) × TellsNumber 98 said e f status
