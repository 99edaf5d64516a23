-- How a run ended, and what was written by then.
use Rattle.std.specs.Prelude.{◌≡◌, ◌⊎◌, ⊤, ℕ, ◌+◌, ◌^◌, ◌≤◌, ◌<◌, List, ◌++◌, length, Option, Some, None, IfSome, Result, Ok, Err}
use Rattle.std.specs.Io.KnownBytes.{Appends}
use Rattle.st_devices.specs.declared.counted.Counting.{Counting}
use Rattle.st_devices.specs.declared.tally.Tally.{Tally}
use Rattle.ilpstream_local.specs.declared.fault.LocalFault.{LocalFault}
use Rattle.ilpstream_local.specs.declared.fault.LocalFault.TheVariants as fault
use Rattle.ilpstream_local.specs.Errors.{fault_number, reader_faults, writer_faults}
use Rattle.ilpstream_output.specs.Texts.{fault_text}
use Rattle.ilpstream_settings.specs.declared.settings.LocalSettings.{LocalSettings}
use Rattle.ilpstream_local.specs.Playing.{AreRead, Carries, HasFailed, Played, most_events}
use Rattle.ilpstream_local.specs.Parts.{part_size}
use Rattle.ilpstream_local.specs.Schedule.{BreaksOff, FailedRound, LastRound, Reach, Scheduled, start}
use Rattle.ilpstream_local.specs.Sends.{AreOf}
use Rattle.ilpstream_local.specs.declared.sends.LocalSends.{LocalSends}
use Rattle.ilpstream_output.specs.Endings.{WritesPart, SpendsTurns, StaysFlushed, most_turns, Says}

-- how many bytes an input has at most
abbrev pub most_bytes : ℕ
most_bytes = 2 ^ 20

-- a chunk is appended to what was kept, or there would be too many bytes, or memory was refused
abbrev pub KeepsPiece : {T : Type 0} → (old piece new : List ℕ) → Result T LocalFault → Type 0
KeepsPiece old piece new (Ok done) = (new ≡ old ++ piece) × (length new ≤ most_bytes)
KeepsPiece old piece new (Err e) = ((e ≡ fault.TooLong) × (most_bytes < length old + length piece)) ⊎ (e ≡ fault.NoMemory)

-- why the input was not read to its end, with `left` I/O calls left: its bytes are these, if they are known
abbrev pub StopsRead : Option (List ℕ) → (left : ℕ) → LocalFault → Type 0
StopsRead input left fault.TooLong = IfSome input (λ bytes. most_bytes < length bytes)
StopsRead input left fault.Input = ⊤
StopsRead input left fault.Turns = left ≡ 0
StopsRead input left fault.NoMemory = ⊤
StopsRead input left e = ⊥

-- why a text was not written, with `left` I/O calls left
abbrev pub StopsWrite : (left : ℕ) → LocalFault → Type 0
StopsWrite left fault.Output = ⊤
StopsWrite left fault.Turns = left ≡ 0
StopsWrite left e = ⊥

-- a fault before anything is written
abbrev pub ComesBefore : LocalFault → Type 0
ComesBefore fault.Output = ⊥
ComesBefore fault.Turns = ⊥
ComesBefore e = ⊤

-- how a run ended, with this fault or none: what its reader, r before and s now, and its writer, w before and v now, counted
pub record HasEnded (r s w v : Tally) (end : Option LocalFault) : Type 0 where
  pub reader : s.faults ≡ reader_faults end r.faults
  pub writer : v.faults ≡ writer_faults end w.faults
  pub left : ℕ
  pub turns : SpendsTurns r s w v most_turns left
  pub used_up : end ≡ Some fault.Turns → left ≡ 0
  pub flushed : end ≡ None → StaysFlushed w v
  pub untouched : IfSome end (λ x. ComesBefore x → v ≡ w)

-- the status of a fault, of which the line was said
abbrev pub TellsFault : {E : Type 0} → LocalFault → (E → Option (List ℕ)) → Counting E → Counting E → ℕ → Type 0
TellsFault x said e f status = (status ≡ 1) × Says (fault_text (fault_number x)) said e f

-- these bytes are the input, if it is known
abbrev pub IsInput : Option (List ℕ) → List ℕ → Type 0
IsInput input bytes = IfSome input (λ all. bytes ≡ all)

-- a run as it is asked for, by which some first of the bytes are written, each part on its stream; its events are scheduled so
pub record IsRun (asked : LocalSettings) (bytes : List ℕ) (Ends : (size streams : ℕ) → List ℕ → Played → Played → Type 0) (p : Played) : Type 0 where
  pub carries : Carries asked bytes p.events p.world
  pub schedule : Ends (part_size (length bytes) asked.streams) asked.streams bytes (start asked) p

-- its last round is one of these
abbrev pub EndsWith : ((size streams : ℕ) → List ℕ → Reach → Played → Played → Type 0) → (size streams : ℕ) → List ℕ → Played → Played → Type 0
EndsWith Last size streams bytes p q = Scheduled size streams bytes (Last size streams bytes) p q

-- one in which the two ends sent as many Prepares as these numbers say
abbrev pub IsTold : LocalSettings → List ℕ → LocalSends → Played → Type 0
IsTold asked bytes told p =
    (sent : ℕ) × (returned : ℕ) × IsRun asked bytes (EndsWith (LastRound sent returned)) p × AreOf asked (length bytes) sent returned told

-- one in which each part of the input was read
abbrev pub GoesOver : LocalSettings → Option (List ℕ) → LocalSends → Type 0
GoesOver asked input told = (bytes : List ℕ) × (p : Played) × IsInput input bytes × IsTold asked bytes told p × AreRead asked bytes p.world

-- one in which the connection of an end failed
abbrev pub Fails : LocalSettings → Option (List ℕ) → Type 0
Fails asked input = (bytes : List ℕ) × (p : Played) × IsInput input bytes × IsRun asked bytes (EndsWith FailedRound) p × HasFailed p.world

-- one of as many events as there may be
abbrev pub TakesTooLong : LocalSettings → Option (List ℕ) → Type 0
TakesTooLong asked input = (bytes : List ℕ) × (p : Played) × IsInput input bytes × IsRun asked bytes BreaksOff p × (p.events ≡ most_events)

-- why the input was not sent or not written, with `left` I/O calls left
abbrev pub StopsCarry : LocalSettings → Option (List ℕ) → (left : ℕ) → LocalFault → Type 0
StopsCarry asked input left fault.Failed = Fails asked input
StopsCarry asked input left fault.TooLong = ⊥
StopsCarry asked input left fault.Input = ⊥
StopsCarry asked input left fault.Output = ⊤
StopsCarry asked input left fault.Turns = left ≡ 0
StopsCarry asked input left fault.Events = TakesTooLong asked input
StopsCarry asked input left fault.NoMemory = ⊤

-- why not all was done: by what was played, or by the input, if it is known
abbrev pub Explains : LocalSettings → Option (List ℕ) → LocalFault → Type 0
Explains asked input fault.Failed = Fails asked input
Explains asked input fault.TooLong = IfSome input (λ bytes. most_bytes < length bytes)
Explains asked input fault.Events = TakesTooLong asked input
Explains asked input e = ⊤

-- a run: e and f are the writer for errors at the start and now
pub record RunsLocal {E : Type 0} (asked : LocalSettings) (input before now : Option (List ℕ))
    (ended : Option LocalFault → Type 0) (said : E → Option (List ℕ)) (e f : Counting E) (status : ℕ) : Type 0 where
  pub done : status ≡ 0 → (f ≡ e) × ended None × IfSome input (λ bytes. Appends before now bytes × (length bytes ≤ most_bytes))
      × ((told : LocalSends) × GoesOver asked input told)
  pub refused : status ≡ 1 → (x : LocalFault) × ended (Some x) × Explains asked input x × (ComesBefore x → now ≡ before) × TellsFault x said e f status
  pub part : IfSome input (λ bytes. WritesPart bytes before now)
  pub bound : status ≤ 1
