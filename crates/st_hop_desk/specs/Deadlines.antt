-- From when on an answer to a Prepare that was forwarded is too late.
use Rattle.std.specs.Prelude.{ℤ, pos, int_le, if◌then◌else◌}

-- the last moment that st_ilp has (`IsMoment`)
abbrev pub last_moment : ℤ
last_moment = pos 253_402_300_000_000

-- the lesser of an expiry and the last moment
abbrev pub deadline : (expiry : ℤ) → ℤ
deadline expiry = if int_le expiry last_moment then expiry else last_moment
