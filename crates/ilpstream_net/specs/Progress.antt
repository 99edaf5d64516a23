-- What is reported of a transfer while it runs.
use Rattle.std.specs.Prelude.{ℕ, ◌-◌, nat_le, nat_lt, Bool, if◌then◌else◌, Option, None}
use Rattle.st_streams.specs.declared.totals.EndTotals.{EndTotals}
use Rattle.ilpstream_log.specs.declared.progress.Brief.{Brief}
use Rattle.ilpstream_log.specs.declared.progress.Progress.{Progress}
use Rattle.st_streams.specs.declared.blocked.Blocked.{Blocked}
use Rattle.ilpstream_net.specs.declared.progress.Mark.{Mark}
use Rattle.ilpstream_net.specs.declared.progress.Span.{Span}
use Rattle.ilpstream_net.specs.declared.progress.Side.{Side}
use Rattle.ilpstream_net.specs.declared.progress.Side.TheVariants as side

-- the bytes of an end: those that a sender accepted, or a receiver delivered
abbrev pub bytes_of : Side → EndTotals → ℕ
bytes_of (side.Sends length) t = t.accepted
bytes_of side.Receives t = t.delivered

-- the marks once an end is at `here`. The next mark is set five seconds or more after the last one, and the last seconds are
-- counted from the mark before it
abbrev pub moved : Span → Mark → Span
moved s here = if nat_lt (here.millis - s.next.millis) 5000 then s else record { from = s.next; next = here }

-- how far an end is: a sender by what it accepted and paid, a receiver by what it delivered and was credited; and how much of it
-- was added since a mark
abbrev pub progress_of : Side → EndTotals → (from : Mark) → (millis : ℕ) → Option Blocked → Option Brief → Progress
progress_of (side.Sends length) t from millis waits last =
    record { bytes = t.accepted; length = length; gained = t.accepted - from.bytes; millis = millis - from.millis; units = t.paid; waits = waits; last = last }
progress_of side.Receives t from millis waits last =
    record {
      bytes = t.delivered;
      length = None;
      gained = t.delivered - from.bytes;
      millis = millis - from.millis;
      units = t.credited;
      waits = waits;
      last = last;
    }

-- the time from `before` to `now` is the period or longer, in nanoseconds
abbrev pub is_due : (now before period : ℕ) → Bool
is_due now before period = nat_le period (now - before)
