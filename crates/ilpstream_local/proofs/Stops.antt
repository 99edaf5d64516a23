-- What was played and written at a fault, and what that says of the devices' counts.
use Rattle.std.proofs.Common.{◌≡◌, ℕ, ◌-◌, ◌<◌, ◌≤◌, List, length, refl, sym, ap, subst, ◌∙◌, arith, Result, Ok, Err}
use Rattle.std.specs.Prelude.{Option, Some, None, unwrap_or, OnOk, IfErr, IfSome, IsErrAnd, OnErr}
use Rattle.std.specs.Io.KnownBytes.{Appends}
use Rattle.st_devices.specs.Tallies.{TakesTurns}
use Rattle.st_devices.specs.declared.tally.Tally.{Tally}
use Rattle.ilpstream_local.specs.declared.fault.LocalFault.{LocalFault}
use Rattle.ilpstream_local.specs.declared.fault.LocalFault.TheVariants as fault
use Rattle.ilpstream_local.specs.Errors.{fault_of, reader_faults, writer_faults}
use Rattle.ilpstream_settings.specs.declared.settings.LocalSettings.{LocalSettings}
use Rattle.st_world_parts.specs.State.{World}
use Rattle.ilpstream_local.specs.Parts.{part_at, part_size, stream_at}
use Rattle.ilpstream_local.specs.Playing.{Carries, HasSent, Played, Plays, StopsPlay, read_on}
use Rattle.ilpstream_local.specs.Schedule.{BreaksOff, FailedRound, LastRound, StopsSending, start}
use Rattle.ilpstream_local.specs.Sends.{AreOf}
use Rattle.ilpstream_local.specs.declared.sends.LocalSends.{LocalSends}
use Rattle.ilpstream_local.specs.Endings.{ComesBefore, EndsWith, Explains, GoesOver, HasEnded, IsInput, IsRun, StopsCarry, StopsWrite, most_bytes}
use Rattle.ilpstream_output.specs.Endings.{SpendsTurns, StaysFlushed, WritesPart, most_turns}

-- ---- what was played

-- it was what is asked for
carries : (asked had : LocalSettings) (streams : ℕ) (input : List ℕ) (events : ℕ) (w : World) → had ≡ asked → streams ≡ asked.streams → Plays had events w
    → (sent : ℕ) × HasSent (part_size (length input) streams) input sent w → Carries asked input events w
carries asked had streams input events w same is plays sent = record {
  run = subst (λ (a : LocalSettings). Plays a events w) same plays;
  sent = sent.0;
  written = subst (λ (n : ℕ). HasSent (part_size (length input) n) input sent.0 w) is sent.1;
}

-- and its events are scheduled as those of a play from the start
is_run : (asked : LocalSettings) (streams : ℕ) (input : List ℕ) (Ends : (size streams : ℕ) → List ℕ → Played → Played → Type 0) (o p : Played) → o ≡ start asked → p.asked ≡ asked → streams ≡ asked.streams
    → Plays p.asked p.events p.world → (sent : ℕ) × HasSent (part_size (length input) streams) input sent p.world → Ends (part_size (length input) streams) streams input o p → IsRun asked input Ends p
is_run asked streams input Ends o p opened same is plays sent h = record {
  carries = carries asked p.asked streams input p.events p.world same is plays sent;
  schedule =
      subst (λ (n : ℕ). Ends (part_size (length input) n) n input (start asked) p) is (subst (λ (x : Played). Ends (part_size (length input) streams) streams input x p) opened h);
}

pub goes_over : (asked : LocalSettings) (streams : ℕ) (input : List ℕ) (sent returned : ℕ) (told : LocalSends) (o p : Played) → AreOf asked (length input) sent returned told → o ≡ start asked → p.asked ≡ asked → streams ≡ asked.streams → Plays p.asked p.events p.world
    → (sent : ℕ) × HasSent (part_size (length input) streams) input sent p.world → EndsWith (LastRound sent returned) (part_size (length input) streams) streams input o p
    → ((place : ℕ) → place < streams → read_on p.world (stream_at place) ≡ part_at (part_size (length input) streams) input place) → GoesOver asked (Some input) told
goes_over asked streams input sent returned told o p are opened same is plays had h read = (
  input,
  p,
  refl,
  (sent, returned, is_run asked streams input (EndsWith (LastRound sent returned)) o p opened same is plays had h, are),
  subst (λ (n : ℕ). (place : ℕ) → place < n → read_on p.world (stream_at place) ≡ part_at (part_size (length input) n) input place) is read,
)

pub play_stops : (asked : LocalSettings) (streams : ℕ) (input : List ℕ) (left : ℕ) (o p : Played) (e : LocalFault) → o ≡ start asked → p.asked ≡ asked → streams ≡ asked.streams
    → (sent : ℕ) × HasSent (part_size (length input) streams) input sent p.world → StopsSending (part_size (length input) streams) streams input o p e → StopsCarry asked (Some input) left e
play_stops asked streams input left o p fault.Failed opened same is sent h = (input, p, refl, is_run asked streams input (EndsWith FailedRound) o p opened same is h.0 sent h.2, h.1)
play_stops asked streams input left o p fault.Events opened same is sent h = (input, p, refl, is_run asked streams input BreaksOff o p opened same is h.1 sent h.2, h.0)
play_stops asked streams input left o p fault.NoMemory opened same is sent h = tt
play_stops asked streams input left o p fault.TooLong opened same is sent h = absurd h
play_stops asked streams input left o p fault.Input opened same is sent h = absurd h
play_stops asked streams input left o p fault.Output opened same is sent h = absurd h
play_stops asked streams input left o p fault.Turns opened same is sent h = absurd h

-- if a play stops in a round, the run is broken off
pub stops_within : (size streams : ℕ) (input : List ℕ) (o p : Played) (e : LocalFault) → StopsPlay p e → BreaksOff size streams input o p → StopsSending size streams input o p e
stops_within size streams input o p fault.Events h off = (h.0, h.1, off)
stops_within size streams input o p fault.NoMemory h off = off
stops_within size streams input o p fault.Failed h off = absurd h
stops_within size streams input o p fault.TooLong h off = absurd h
stops_within size streams input o p fault.Input h off = absurd h
stops_within size streams input o p fault.Output h off = absurd h
stops_within size streams input o p fault.Turns h off = absurd h

write_stops : (asked : LocalSettings) (input : Option (List ℕ)) (left : ℕ) (e : LocalFault) → StopsWrite left e → StopsCarry asked input left e
write_stops asked input left fault.Output h = tt
write_stops asked input left fault.Turns h = h
write_stops asked input left fault.TooLong h = absurd h
write_stops asked input left fault.Input h = absurd h
write_stops asked input left fault.NoMemory h = absurd h
write_stops asked input left fault.Failed h = absurd h
write_stops asked input left fault.Events h = absurd h

pub stops_write : {T : Type 0} (r : Result T LocalFault) (asked : LocalSettings) (input : Option (List ℕ)) (left : ℕ) → IfErr r (StopsWrite left) → IfErr r (StopsCarry asked input left)
stops_write (Ok x) asked input left h = tt
stops_write (Err e) asked input left h = write_stops asked input left e h

-- and then the output was begun
pub writes_late : {T : Type 0} (r : Result T LocalFault) (left : ℕ) (P : Type 0) → IfErr r (StopsWrite left) → IfErr r (λ e. ComesBefore e → P)
writes_late (Ok x) left P h = tt
writes_late (Err fault.Output) left P h = λ none. absurd none
writes_late (Err fault.Turns) left P h = λ none. absurd none
writes_late (Err fault.TooLong) left P h = absurd h
writes_late (Err fault.Input) left P h = absurd h
writes_late (Err fault.NoMemory) left P h = absurd h
writes_late (Err fault.Failed) left P h = absurd h
writes_late (Err fault.Events) left P h = absurd h

-- no reader failed
carry_reader : (asked : LocalSettings) (input : Option (List ℕ)) (left : ℕ) (e : LocalFault) (n : ℕ) → StopsCarry asked input left e → n ≡ reader_faults (Some e) n
carry_reader asked input left fault.Failed n h = refl
carry_reader asked input left fault.TooLong n h = refl
carry_reader asked input left fault.Input n h = absurd h
carry_reader asked input left fault.Output n h = refl
carry_reader asked input left fault.Turns n h = refl
carry_reader asked input left fault.Events n h = refl
carry_reader asked input left fault.NoMemory n h = refl

carry_turns : (asked : LocalSettings) (input : Option (List ℕ)) (left : ℕ) (e : LocalFault) → StopsCarry asked input left e → e ≡ fault.Turns → left ≡ 0
carry_turns asked input left fault.Turns h is = h
carry_turns asked input left fault.Failed h is = absurd (cc)
carry_turns asked input left fault.TooLong h is = absurd h
carry_turns asked input left fault.Input h is = absurd h
carry_turns asked input left fault.Output h is = absurd (cc)
carry_turns asked input left fault.Events h is = absurd (cc)
carry_turns asked input left fault.NoMemory h is = absurd (cc)

-- what was sent was the input, if it is known
pub input_known : (input : Option (List ℕ)) (sent bytes : List ℕ) → IsInput input sent → bytes ≡ sent → IsInput input bytes
input_known None sent bytes known same = tt
input_known (Some all) sent bytes known same = same ∙ known

over_known : (asked : LocalSettings) (input : Option (List ℕ)) (sent : List ℕ) (told : LocalSends) → IsInput input sent → GoesOver asked (Some sent) told → GoesOver asked input told
over_known asked input sent told known h = (h.0, h.1, input_known input sent h.0 known h.2, h.3, h.4)

carry_explains : (asked : LocalSettings) (input : Option (List ℕ)) (sent : List ℕ) (left : ℕ) (e : LocalFault) → IsInput input sent → StopsCarry asked (Some sent) left e → Explains asked input e
carry_explains asked input sent left fault.Failed known h = (h.0, h.1, input_known input sent h.0 known h.2, h.3, h.4)
carry_explains asked input sent left fault.Events known h = (h.0, h.1, input_known input sent h.0 known h.2, h.3, h.4)
carry_explains asked input sent left fault.TooLong known h = absurd h
carry_explains asked input sent left fault.Input known h = absurd h
carry_explains asked input sent left fault.Output known h = tt
carry_explains asked input sent left fault.Turns known h = tt
carry_explains asked input sent left fault.NoMemory known h = tt

pub over_carry : {T : Type 0} (r : Result T LocalFault) (asked : LocalSettings) (input : Option (List ℕ)) (sent : List ℕ) (told : LocalSends) → IsInput input sent → OnOk r (GoesOver asked (Some sent) told) → OnOk r (GoesOver asked input told)
over_carry (Ok x) asked input sent told known h = over_known asked input sent told known h
over_carry (Err e) asked input sent told known h = tt

pub explains_carry : {T : Type 0} (r : Result T LocalFault) (asked : LocalSettings) (input : Option (List ℕ)) (sent : List ℕ) (left : ℕ) → IsInput input sent → IfErr r (StopsCarry asked (Some sent) left)
    → IfErr r (Explains asked input)
explains_carry (Ok x) asked input sent left known h = tt
explains_carry (Err e) asked input sent left known h = carry_explains asked input sent left e known h

pub reads_carry : {T : Type 0} (r : Result T LocalFault) (asked : LocalSettings) (input : Option (List ℕ)) (left n : ℕ) → IfErr r (StopsCarry asked input left) → n ≡ reader_faults (fault_of r) n
reads_carry (Ok x) asked input left n h = refl
reads_carry (Err e) asked input left n h = carry_reader asked input left e n h

pub turns_carry : {T : Type 0} (r : Result T LocalFault) (asked : LocalSettings) (input : Option (List ℕ)) (left : ℕ) → IfErr r (StopsCarry asked input left) → IfErr r (λ e. e ≡ fault.Turns → left ≡ 0)
turns_carry (Ok x) asked input left h = tt
turns_carry (Err e) asked input left h = carry_turns asked input left e h

-- ---- I/O calls

pub reads_and_writes : (r s w v : Tally) (a b c : ℕ) → TakesTurns r s a b → TakesTurns w v b c → SpendsTurns r s w v a c
reads_and_writes r s w v a b c h k = (a - b, b - c, omega (arith, h.fewer, k.fewer), h.calls, k.calls)

same_fault : (e f : LocalFault) → Some e ≡ Some f → e ≡ f
same_fault e f h = ap (λ (o : Option LocalFault). unwrap_or o e) h

-- a run that met no fault
pub ended_well : (r s w v : Tally) (left : ℕ) → s.faults ≡ r.faults → v.faults ≡ w.faults → SpendsTurns r s w v most_turns left → StaysFlushed w v → HasEnded r s w v None
ended_well r s w v left reader writer turns flushed = record { reader = reader; writer = writer; left = left; turns = turns; used_up = λ wrong. absurd (cc); flushed = λ _. flushed; untouched = tt }

-- a run that met one
pub ended_by : (r s w v : Tally) (e : LocalFault) (left : ℕ) → s.faults ≡ reader_faults (Some e) r.faults → v.faults ≡ writer_faults (Some e) w.faults → SpendsTurns r s w v most_turns left
    → (e ≡ fault.Turns → left ≡ 0) → (ComesBefore e → v ≡ w) → HasEnded r s w v (Some e)
ended_by r s w v e left reader writer turns used_up untouched =
    record { reader = reader; writer = writer; left = left; turns = turns; used_up = λ is. used_up (same_fault e fault.Turns is); flushed = λ wrong. absurd (cc); untouched = untouched }

-- ---- what is written if all was read

pub on_ok : {T E : Type 0} (r : Result T E) (P Q : Type 0) → (P → Q) → OnOk r P → OnOk r Q
on_ok (Ok x) P Q f h = f h
on_ok (Err e) P Q f h = tt

pub on_err : {T E : Type 0} (r : Result T E) (P Q : Type 0) → (P → Q) → OnErr r P → OnErr r Q
on_err (Ok x) P Q f h = tt
on_err (Err e) P Q f h = f h

pub err_now : {T E : Type 0} (r : Result T E) (P : Type 0) → P → OnErr r P
err_now (Ok x) P h = tt
err_now (Err e) P h = h

pub err_end : {T E : Type 0} (P : E → Type 0) (r : Result T E) (e : E) → IsErrAnd r (λ x. x ≡ e) → P e → IfErr r P
err_end P (Ok x) e is h = tt
err_end P (Err x) e is h = subst P (sym is) h

pub delivers : (input before after : Option (List ℕ)) (sent read : List ℕ) → IfSome input (λ bytes. sent ≡ bytes) → length sent ≤ most_bytes → read ≡ sent → Appends before after read
    → IfSome input (λ bytes. Appends before after bytes × (length bytes ≤ most_bytes))
delivers None before after sent read is short same done = tt
delivers (Some bytes) before after sent read is short same done = (subst (Appends before after) (same ∙ is) done, subst (λ (xs : List ℕ). length xs ≤ most_bytes) is short)

pub delivers_part : (input before after : Option (List ℕ)) (sent read : List ℕ) → IfSome input (λ bytes. sent ≡ bytes) → read ≡ sent → WritesPart read before after → IfSome input (λ bytes. WritesPart bytes before after)
delivers_part None before after sent read is same part = tt
delivers_part (Some bytes) before after sent read is same part = subst (λ (xs : List ℕ). WritesPart xs before after) (same ∙ is) part
