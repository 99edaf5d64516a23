-- Moments: whole milliseconds since the start of 1970, UTC.
use Rattle.std.specs.Prelude.{ℤ, pos, ◌≤ℤ◌}

-- from the start of 1970 to some minutes before the year 9999 ends, so that an expiry shortly after a moment has its text
abbrev pub IsMoment : ℤ → Type 0
IsMoment millis = (pos 0 ≤ℤ millis) × (millis ≤ℤ pos 253_402_300_000_000)
