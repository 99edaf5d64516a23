-- What the program does as a process. No clause can say which arguments a process has: here they are some arguments.
use Rattle.std.specs.Prelude.{◌≡◌, ◌≢◌, ◌⊎◌, ℕ, ◌≤◌, Bool, true, List, [], Option}
use Rattle.clap.specs.Words.{Text}
use Rattle.st_devices.specs.Tallies.{device_of}
use Rattle.st_devices.specs.declared.counted.Counting.{Counting}
use Rattle.ilpstream_output.specs.declared.error.Fault.{Fault}
use Rattle.ilpstream_output.specs.declared.error.Fault.TheVariants.{NoMemory}
use Rattle.ilpstream_frames.specs.Endings.{RunsFrames}
use Rattle.ilpstream_output.specs.Endings.{Says, TellsFault}
use Rattle.ilpstream_words.specs.declared.request.Request.{Request}
use Rattle.ilpstream_words.specs.Words.{refusals}
use Rattle.ilpstream_main.specs.Endings.{DoesUnless, LacksMemory, TellsAnswer, TellsBadOption}
use Rattle.ilpstream_main.specs.Streams.{missing}
use Rattle.ilpstream_main.specs.Texts.{not_utf8_text, waits_text}
use Rattle.ilpstream_main.specs.declared.streams.Streams.{Streams}
use Rattle.ilpstream_main.specs.Words.{AsksFor, AsksFrames, AsksToShow, HasBadOption, after_name}

-- what the arguments ask for was done: r, w and e are the reader, the writer and the writer for errors at the start, s, v and f
-- now
pub record Obeys {R W E : Type 0} (streams : Streams) (words : List Text) (remaining : R → Option (List ℕ))
    (contents : W → Option (List ℕ)) (said : E → Option (List ℕ)) (ended : Option Fault → Type 0)
    (r s : Counting R) (w v : Counting W) (e f : Counting E) (status : ℕ) : Type 0 where
  pub frames : AsksFrames words
      → RunsFrames (remaining (device_of r)) (contents (device_of w)) (contents (device_of v)) ended said e f status
      ⊎ ((s ≡ r) × LacksMemory w v said e f status)
  pub asked : refusals words ≡ []
      → ((q : Request) × AsksFor words q × DoesUnless (missing q streams) q remaining contents said ended r s w v e f status)
      ⊎ (HasBadOption words × TellsBadOption r s w v said e f status)
      ⊎ ((s ≡ r) × LacksMemory w v said e f status)
  pub told : refusals words ≢ [] → (s ≡ r) × TellsAnswer (refusals words) ended said w v e f status
  pub bad : HasBadOption words → TellsBadOption r s w v said e f status
  pub shown : AsksToShow (after_name words) → status ≤ 1

-- nothing is written, or what the program waits for: the latter only if the reader is a terminal and the arguments ask for
-- `frames`. e and m are the writer for errors before and after
abbrev pub TellsTerminal : {E : Type 0} → Bool → List Text → (E → Option (List ℕ)) → Counting E → Counting E → Type 0
TellsTerminal is_terminal words said e m = (m ≡ e)
    ⊎ ((is_terminal ≡ true) × AsksFrames words × Says waits_text said e m)

-- there was no memory for the arguments, or they are not UTF-8: nothing was read, and why was reported to the writer for errors
abbrev pub LacksWords : {R W E : Type 0} → R → R → W → W → (E → Option (List ℕ)) → Counting E → Counting E → ℕ → Type 0
LacksWords r s w v said e f status = (s ≡ r) × (v ≡ w)
    × (((status ≡ 2) × Says not_utf8_text said e f) ⊎ TellsFault NoMemory said e f status)

-- what some arguments ask for was done, after the note for a terminal
abbrev pub ObeysSome : {R W E : Type 0} → Streams → Bool → (R → Option (List ℕ)) → (W → Option (List ℕ)) → (E → Option (List ℕ)) → (Option Fault → Type 0)
    → Counting R → Counting R → Counting W → Counting W → Counting E → Counting E → ℕ → Type 0
ObeysSome {E = E} streams is_terminal remaining contents said ended r s w v e f status =
    (words : List Text) × (m : Counting E) × TellsTerminal is_terminal words said e m × Obeys streams words remaining contents said ended r s w v m f status
