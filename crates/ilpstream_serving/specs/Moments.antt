-- Moments of a clock that gives the time since 1970 began.
use Rattle.std.specs.Prelude.{◌≡◌, ◌⊎◌, ℕ, ◌+◌, ◌*◌, ◌≤◌, ◌<◌, ◌/◌, ℤ, pos, ◌-ℤ◌, ◌≤ℤ◌, int_le, int_lt, unsigned_abs, Bool, if◌then◌else◌, Option, Some, None, Result, Ok, Err, IfSome}
use Rattle.std.specs.Duration.{as_nanos}
use Rattle.std.specs.declared.time.Duration.{Duration}
use Rattle.ilpstream_serving.specs.declared.clock.RuntimeClock.{RuntimeClock}

-- a time has this number of whole milliseconds, which is no more than the last moment has
pub record IsMomentOf (since : Duration) (ms : ℕ) : Type 0 where
  pub whole : ms ≡ as_nanos since / 1000000
  pub last : ms ≤ 253_402_300_000_000

-- the moment that a clock gave last
abbrev pub last_told : {R : Type 0} → RuntimeClock R → ℤ
last_told c = c.last.moment

-- the later one of two moments
abbrev pub later : ℤ → ℤ → ℤ
later a b = if int_le a b then b else a

-- a clock that gave `last` was set back so far, by what was read of it, that it is followed: by more than 5,000 milliseconds
abbrev pub is_far_back : (last read : ℤ) → Bool
is_far_back last read = int_lt (pos 5000) (last -ℤ read)

-- the moment that it gives then: what was read; and otherwise the later one of both
abbrev pub followed : (last read : ℤ) → ℤ
followed last read = if is_far_back last read then read else later last read

-- by how many milliseconds it was set back, if it is followed
abbrev pub step_back : (last read : ℤ) → Option ℕ
step_back last read = if is_far_back last read then Some (unsigned_abs (last -ℤ read)) else None

-- what a clock that gave `last` gives once it was read; if it could not be read, or is past the last moment, what it gave last
abbrev pub Tells : {E : Type 0} → (last : ℤ) → Result Duration E → (now : ℤ) → (set_back : Option ℕ) → Type 0
Tells last (Ok since) now set_back =
    ((ms : ℕ) × IsMomentOf since ms × (now ≡ followed last (pos ms)) × (set_back ≡ step_back last (pos ms)))
    ⊎ (((ms : ℕ) → ¬ (IsMomentOf since ms)) × (now ≡ last) × (set_back ≡ None))
Tells last (Err e) now set_back = (now ≡ last) × (set_back ≡ None)

-- the earlier one of two moments, of which the first may be missing
pub record IsEarlier (first : Option ℤ) (second earlier : ℤ) : Type 0 where
  pub by_first : IfSome first (λ moment. earlier ≤ℤ moment)
  pub by_second : earlier ≤ℤ second
  pub one : (earlier ≡ second) ⊎ (first ≡ Some earlier)

-- the greatest number of milliseconds that `poll` waits
abbrev pub longest_wait : ℕ
longest_wait = 2_147_483_647

-- a time in milliseconds, as `poll` expects it: a whole one more than there are in it, up to the limit
abbrev pub IsWait : Duration → (millis : ℤ) → Type 0
IsWait time millis =
    ((as_nanos time / 1000000 < longest_wait) × (millis ≡ pos (as_nanos time / 1000000 + 1)))
    ⊎ ((longest_wait ≤ as_nanos time / 1000000) × (millis ≡ pos longest_wait))

-- the pause of a sender between two tries after a failure, in nanoseconds, if it tries on for this number of seconds: the share of one
-- of the 200 failures in a row after which a connection fails
abbrev pub pause_in : (seconds : ℕ) → ℕ
pause_in seconds = seconds * 1_000_000_000 / 200

-- a time of this number of seconds; none if no number is given
abbrev pub IsSeconds : Option ℕ → Option Duration → Type 0
IsSeconds None time = time ≡ None
IsSeconds (Some seconds) None = ⊥
IsSeconds (Some seconds) (Some time) = as_nanos time ≡ seconds * 1_000_000_000
