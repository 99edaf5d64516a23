-- How a run ended, and what was written by then.
use Rattle.std.specs.Prelude.{◌≡◌, ◌⊎◌, ℕ, ◌≤◌, Bool, true, false, List, Option, Some, None, IfSome}
use Rattle.std.specs.Io.KnownBytes.{Appends}
use Rattle.st_devices.specs.declared.counted.Counting.{Counting}
use Rattle.ilpstream_output.specs.declared.error.Fault.{Fault}
use Rattle.ilpstream_frames.specs.declared.frames.Lines.{Lines}
use Rattle.ilpstream_frames.specs.declared.frames.Lines.TheVariants.{AllTaken, SomeRefused}
use Rattle.ilpstream_frames.specs.Answers.{IsAnswer}
use Rattle.ilpstream_output.specs.Endings.{WritesPart, TellsFault}

abbrev pub has_refusal : Lines → Bool
has_refusal AllTaken = false
has_refusal SomeRefused = true

-- the whole of an answer to the input was written
abbrev pub WritesAnswer : List ℕ → Bool → Option (List ℕ) → Option (List ℕ) → Type 0
WritesAnswer input any before now = (text : List ℕ) × IsAnswer input text any × Appends before now text

-- the first bytes of an answer to the input were written, all of them or fewer
abbrev pub BeginsAnswer : List ℕ → Option (List ℕ) → Option (List ℕ) → Type 0
BeginsAnswer input before now = (text : List ℕ) × (any : Bool) × IsAnswer input text any × WritesPart text before now

-- a run over all lines: e and f are the writer for errors at the start and now
pub record RunsFrames {E : Type 0} (input before now : Option (List ℕ)) (ended : Option Fault → Type 0) (said : E → Option (List ℕ)) (e f : Counting E) (status : ℕ) : Type 0 where
  pub taken : status ≡ 0 → (f ≡ e) × ended None × IfSome input (λ bytes. WritesAnswer bytes false before now)
  pub refused : status ≡ 1 → ((f ≡ e) × ended None × IfSome input (λ bytes. WritesAnswer bytes true before now))
      ⊎ ((x : Fault) × ended (Some x) × TellsFault x said e f status)
  pub part : IfSome input (λ bytes. BeginsAnswer bytes before now)
  pub bound : status ≤ 1
