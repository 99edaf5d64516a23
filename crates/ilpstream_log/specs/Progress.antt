-- The line that shows on a terminal how far a transfer is.
use Rattle.std.specs.Prelude.{ℕ, ◌-◌, ◌*◌, ◌/◌, ◌%◌, ◌==◌, ◌||◌, min, if◌then◌else◌, List, [], ◌∷◌, codes, decimal, Option, Some, None}
use Rattle.ilpstream_log.specs.Quoting.{all_escaped}
use Rattle.ilpstream_log.specs.Lines.{◌⧺◌, unreached_word}
use Rattle.ilpstream_log.specs.declared.event.Cause.{Cause}
use Rattle.ilpstream_log.specs.declared.event.Cause.TheVariants as cause
use Rattle.st_streams.specs.declared.blocked.Blocked.{Blocked}
use Rattle.st_streams.specs.declared.blocked.Blocked.TheVariants as blocked
use Rattle.ilpstream_log.specs.declared.progress.Brief.{Brief}
use Rattle.ilpstream_log.specs.declared.progress.Brief.TheVariants as brief
use Rattle.ilpstream_log.specs.declared.progress.Progress.{Progress}

-- the part of an input of this length that these bytes are, in percent, rounded down: all of one that is empty, and no more than all
abbrev pub percent : (bytes length : ℕ) → ℕ
percent bytes length = if length == 0 then 100 else min (bytes * 100 / length) 100

-- bytes a second, rounded down, if `gained` bytes arrived in `millis` milliseconds; 0 if no time passed
abbrev pub rate : (gained millis : ℕ) → ℕ
rate gained millis = if millis == 0 then 0 else gained * 1000 / millis

-- the seconds, rounded down, in which the rest of an input of a known length arrives, at the pace of `gained` bytes in `millis`
-- milliseconds: unknown if none arrived, or no time passed
abbrev pub seconds_left : (bytes : ℕ) → Option ℕ → (gained millis : ℕ) → Option ℕ
seconds_left bytes None gained millis = None
seconds_left bytes (Some length) gained millis =
    if (gained == 0) || (millis == 0) then None else Some ((length - bytes) * millis / (gained * 1000))

-- a cause without the texts of a peer
abbrev pub brief_of : Cause → Brief
brief_of (cause.Link fault status) = brief.Link fault status
brief_of (cause.Unreached why) = brief.Unreached why
brief_of (cause.Reject code by message) = brief.Reject code
brief_of cause.Unfit = brief.Unfit
brief_of cause.Unreadable = brief.Unreadable
brief_of cause.NoMemory = brief.NoMemory

-- of a length that is known
abbrev pub part_text : (bytes : ℕ) → Option ℕ → List ℕ
part_text bytes None = []
part_text bytes (Some length) = codes " (" ⧺ decimal (percent bytes length) ⧺ codes " %)"

-- two digits
abbrev pub pair_text : ℕ → List ℕ
pair_text n = decimal (n / 10) ⧺ decimal (n % 10)

-- hours, minutes and seconds, as in 1:02:03
abbrev pub time_text : (seconds : ℕ) → List ℕ
time_text s = decimal (s / 3600) ⧺ codes ":" ⧺ pair_text (s / 60 % 60) ⧺ codes ":" ⧺ pair_text (s % 60)

abbrev pub left_text : Option ℕ → List ℕ
left_text None = []
left_text (Some seconds) = codes ", " ⧺ time_text seconds ⧺ codes " left"

-- a limit of the peer
abbrev pub waits_text : Option Blocked → List ℕ
waits_text None = []
waits_text (Some (blocked.Connection limit)) = codes " (waits at the limit of " ⧺ decimal limit ⧺ codes " bytes)"
waits_text (Some (blocked.Data stream limit)) = codes " (waits at the limit of " ⧺ decimal limit ⧺ codes " bytes)"
waits_text (Some (blocked.Money stream most total)) = codes " (waits at the limit of " ⧺ decimal most ⧺ codes " units)"

abbrev pub failure_text : Option Brief → List ℕ
failure_text None = []
failure_text (Some (brief.Link fault None)) = codes " (last failure: link fault " ⧺ decimal fault ⧺ codes ")"
failure_text (Some (brief.Link fault (Some status))) =
    codes " (last failure: link fault " ⧺ decimal fault ⧺ codes " status " ⧺ decimal status ⧺ codes ")"
failure_text (Some (brief.Unreached why)) = codes " (last failure: " ⧺ unreached_word why ⧺ codes ")"
failure_text (Some (brief.Reject code)) = codes " (last failure: reject " ⧺ all_escaped code ⧺ codes ")"
failure_text (Some brief.Unfit) = codes " (last failure: fulfillment)"
failure_text (Some brief.Unreadable) = codes " (last failure: answer)"
failure_text (Some brief.NoMemory) = codes " (last failure: memory)"

-- what follows the units
abbrev pub tail_text : Progress → List ℕ
tail_text p = left_text (seconds_left p.bytes p.length p.gained p.millis) ⧺ waits_text p.waits ⧺ failure_text p.last

-- From the first column, and back to it: a carriage return, the text, the escape sequence that clears the rest of the line, and a
-- carriage return
abbrev pub shown_text : Progress → List ℕ
shown_text p =
    codes "\r" ⧺ decimal p.bytes ⧺ codes " bytes" ⧺ part_text p.bytes p.length ⧺ codes ", " ⧺ decimal (rate p.gained p.millis)
    ⧺ codes " bytes/s, " ⧺ decimal p.units ⧺ codes " units" ⧺ tail_text p ⧺ 27 ∷ 91 ∷ 75 ∷ 13 ∷ []
